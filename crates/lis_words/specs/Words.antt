-- Words, file names and counts, as tests on whole lists of bytes.
use Rattle.std.specs.Prelude.{ℕ, ◌+◌, ◌-◌, ◌*◌, ◌==◌, nat_eq, nat_lt, nat_le, Bool, true, false, not, ◌&&◌, ◌||◌, if◌then◌else◌, Option, Some, None, is_some, List, [], ◌∷◌, ◌++◌, length, take, drop, codes}
use Rattle.std.specs.Char.{is_ascii_alphanumeric, is_ascii_digit}
use Rattle.std.specs.Cmp.Lexicographic.{pointwise, slice_cmp}
use Rattle.std.specs.Ordering.{nat_cmp}
use Rattle.std.specs.declared.cmp.Ordering.{Ordering}
use Rattle.std.specs.List.{list_any, list_all, fold}
use Rattle.lis_limits.specs.declared.TheConstants.{MAX_WORD}
use Rattle.lis_words.specs.declared.test.Test.{Test}
use Rattle.lis_words.specs.Bytes.{is_colon}

-- an ASCII letter, a digit, or one of _ - . + @
abbrev pub is_plain_byte : ℕ → Bool
is_plain_byte b =
    is_ascii_alphanumeric b || (b == 95) || (b == 45) || (b == 46) || (b == 43) || (b == 64)

-- words and names are ordered by their bytes
abbrev pub word_cmp : List ℕ → List ℕ → Ordering
word_cmp a b = slice_cmp nat_cmp a b

abbrev pub same_word : List ℕ → List ℕ → Bool
same_word a b = pointwise nat_eq a b

abbrev pub begins_with_stop : List ℕ → Bool
begins_with_stop [] = false
begins_with_stop (b ∷ bytes) = b == 46

-- 1 to 60 plain bytes, the first not a full stop
abbrev pub is_plain_word : List ℕ → Bool
is_plain_word bytes =
    nat_lt 0 (length bytes) && nat_le (length bytes) MAX_WORD && not (begins_with_stop bytes) && list_all is_plain_byte bytes

-- what is before the first colon
abbrev pub stem : List ℕ → List ℕ
stem [] = []
stem (b ∷ bytes) = if is_colon b then [] else b ∷ stem bytes

-- what follows the first colon
abbrev pub value : List ℕ → List ℕ
value [] = []
value (b ∷ bytes) = if is_colon b then bytes else value bytes

-- at most 60 bytes, and a plain word before the first colon
abbrev pub has_stem : List ℕ → Bool
has_stem bytes = nat_le (length bytes) MAX_WORD && list_any is_colon bytes && is_plain_word (stem bytes)

-- a plain word of at most 59 bytes, and a colon
abbrev pub is_head : List ℕ → Bool
is_head bytes = has_stem bytes && (length (value bytes) == 0)

-- a head, and 1 or more plain bytes; at most 60 bytes in all
abbrev pub is_valued : List ℕ → Bool
is_valued bytes = has_stem bytes && nat_lt 0 (length (value bytes)) && list_all is_plain_byte (value bytes)

abbrev pub is_word : List ℕ → Bool
is_word bytes = is_plain_word bytes || is_head bytes || is_valued bytes

-- 1 to 12 decimal digits; leading zeros are allowed
abbrev pub is_count : List ℕ → Bool
is_count digits = nat_lt 0 (length digits) && nat_le (length digits) 12 && list_all is_ascii_digit digits

-- the number that the digits spell
abbrev pub count_of : List ℕ → ℕ
count_of digits = fold (λ n digit. 10 * n + (digit - 48)) 0 digits

abbrev pub begins_with_zero : List ℕ → Bool
begins_with_zero [] = false
begins_with_zero (b ∷ bytes) = b == 48

-- a count in its one spelling: without a leading zero, unless it is 0
abbrev pub is_number : List ℕ → Bool
is_number digits = is_count digits && (not (begins_with_zero digits) || (length digits == 1))

-- the number after a sign, if nothing else is there
abbrev pub number_behind : List ℕ → List ℕ → Option ℕ
number_behind sign word =
    if same_word (take (length sign) word) sign && is_number (drop (length sign) word) then Some (count_of (drop (length sign) word)) else None

abbrev pub test_by : Option ℕ → Option ℕ → Option Test
test_by (Some n) below = Some (record { at_least = true; bytes = n })
test_by None (Some n) = Some (record { at_least = false; bytes = n })
test_by None None = None

-- which test a word is: whether it requires at least N bytes, or fewer; none if the word is no test
abbrev pub test_of : List ℕ → Option Test
test_of word = test_by (number_behind (codes "size>=") word) (number_behind (codes "size<") word)

abbrev pub is_test : List ℕ → Bool
is_test word = is_some (test_of word)

-- what may be a property: a word of a formula, or a test
abbrev pub is_property : List ℕ → Bool
is_property bytes = is_word bytes || is_test bytes

-- the head of a valued word
abbrev pub head_bytes : List ℕ → List ℕ
head_bytes bytes = stem bytes ++ 58 ∷ []

abbrev pub has_word : List (List ℕ) → List ℕ → Bool
has_word words word = list_any (λ w. same_word w word) words

-- the heads of the words that are derived from files
abbrev pub built_in_heads : List (List ℕ)
built_in_heads =
    codes "ext:" ∷ codes "size:" ∷ codes "from:" ∷ codes "to:" ∷ codes "subject:" ∷ codes "includes:" ∷ codes "defines:" ∷ []

-- one of these heads, or a word that has one of them
abbrev pub is_built_in : List ℕ → Bool
is_built_in word =
    has_word built_in_heads word || (is_valued word && has_word built_in_heads (head_bytes word))

abbrev pub is_stops : List ℕ → Bool
is_stops bytes = same_word bytes (codes ".") || same_word bytes (codes "..")

-- 1 to 60 plain bytes, other than . and ..
abbrev pub is_file_name : List ℕ → Bool
is_file_name bytes =
    nat_lt 0 (length bytes) && nat_le (length bytes) MAX_WORD && not (is_stops bytes) && list_all is_plain_byte bytes
