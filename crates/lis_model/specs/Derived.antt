-- The words that a file has by its name and its bytes: by the end of its name, by its size, and by what a mail or a C source says.
use Rattle.std.specs.Prelude.{ℕ, ◌==◌, nat_lt, Bool, false, ◌||◌, if◌then◌else◌, Option, Some, None, List, [], ◌∷◌, ◌++◌, length, filter, codes}
use Rattle.std.specs.List.{list_any}
use Rattle.lis_limits.specs.declared.TheConstants.{MEDIUM_FILE, SMALL_FILE}
use Rattle.lis_words.specs.Words.{is_word, same_word}
use Rattle.lis_transducers.specs.Mail.{mail_words}
use Rattle.lis_transducers.specs.Source.{source_words}
use Rattle.lis_model.specs.Noted.{noted_all}

-- what follows the last full stop
abbrev pub behind_stop : List ℕ → Option (List ℕ)
behind_stop [] = None
behind_stop (b ∷ bytes) = if list_any (λ c. c == 46) bytes then behind_stop bytes else if b == 46 then Some bytes else None

abbrev pub some_bytes : Option (List ℕ) → Option (List ℕ)
some_bytes None = None
some_bytes (Some bytes) = if length bytes == 0 then None else Some bytes

-- the bytes after the last full stop of a name, if at least one byte is before it and at least one after it
abbrev pub suffix_of : List ℕ → Option (List ℕ)
suffix_of [] = None
suffix_of (b ∷ bytes) = some_bytes (behind_stop bytes)

abbrev pub suffix_words : Option (List ℕ) → List (List ℕ)
suffix_words None = []
suffix_words (Some suffix) = filter is_word ((codes "ext:" ++ suffix) ∷ [])

abbrev pub size_word : ℕ → List ℕ
size_word size =
    if size == 0 then codes "size:empty"
    else if nat_lt size SMALL_FILE then codes "size:small"
    else if nat_lt size MEDIUM_FILE then codes "size:medium"
    else codes "size:large"

-- the suffix is this one; case counts
abbrev pub is_suffix : List ℕ → Option (List ℕ) → Bool
is_suffix text None = false
is_suffix text (Some suffix) = same_word suffix text

-- by the suffix of its name, a mail or a C source
abbrev pub is_mail : Option (List ℕ) → Bool
is_mail suffix = is_suffix (codes "eml") suffix

abbrev pub is_source : Option (List ℕ) → Bool
is_source suffix = is_suffix (codes "c") suffix || is_suffix (codes "h") suffix

-- the words that the bytes of a mail or of a C source give
abbrev pub content_words : Option (List ℕ) → List ℕ → List (List ℕ)
content_words suffix bytes =
    (if is_mail suffix then mail_words bytes else [])
    ++ (if is_source suffix then source_words bytes else [])

-- the first 48 distinct words of the name, the size and the content
abbrev pub derived_words : List ℕ → List ℕ → List (List ℕ)
derived_words name bytes = noted_all [] (suffix_words (suffix_of name) ++ size_word (length bytes) ∷ content_words (suffix_of name) bytes)
