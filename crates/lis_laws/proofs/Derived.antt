-- The words that are derived from a file are built in, and at most 48.
use Rattle.std.proofs.Common.{◌≡◌, ◌⊎◌, ℕ, ◌≤◌, ◌==◌, nat_lt, Bool, true, false, ◌&&◌, ◌||◌, cond, Option, Some, None, List, [], ◌∷◌, ◌++◌, length, filter, codes, refl, sym, ap, subst, ◌∙◌, inl, inr, arith, eqb-true, append-nil, length-append}
use Rattle.std.specs.List.{flat_map, list_all}
use Rattle.std.specs.Str.{str_to_ascii_lowercase}
use Rattle.std.proofs.lemmas.Bool.{and_parts, and_from, or_cases, or_left, or_right, both_ways, ltb-true}
use Rattle.lis_graph.proofs.Members.{Among, among_append, among_filter, among_map, among_flat_map}
use Rattle.lis_words.specs.Words.{has_word, head_bytes, value, is_plain_byte, is_plain_word, is_head, is_valued, is_word, is_built_in, built_in_heads}
use Rattle.lis_transducers.specs.declared.field.FieldKind.{FieldKind}
use Rattle.lis_transducers.specs.declared.field.FieldKind.TheVariants.{From, To, Subject, Other}
use Rattle.lis_transducers.specs.declared.piece.Kind.{Kind}
use Rattle.lis_transducers.specs.Lines.{Field, fields, header}
use Rattle.lis_transducers.specs.Tokens.{tokens, has_at}
use Rattle.lis_transducers.specs.Mail.{kind_of, with_head, token_words, field_words, mail_words}
use Rattle.lis_transducers.specs.declared.piece.Context.TheVariants.{LineStart}
use Rattle.lis_transducers.specs.Joined.{joined}
use Rattle.lis_transducers.specs.Pieces.{Piece, pieces}
use Rattle.lis_transducers.specs.Entries as entries
use Rattle.lis_transducers.specs.Entries.{last_part}
use Rattle.lis_transducers.specs.Source.{is_path, is_candidate, is_defined, included_word, entry_words, braces_after, parens_after, words_at, source_words}
use Rattle.lis_model.specs.Noted.{noted, noted_all}
use Rattle.lis_model.specs.Derived.{suffix_of, suffix_words, size_word, is_suffix, content_words, derived_words}

-- ---- a word that begins with a built-in head is built in
pub begun : (head rest : List ℕ) → list_all is_plain_byte (head ++ rest) ≡ false → value (head ++ rest) ≡ rest → head_bytes (head ++ rest) ≡ head → has_word built_in_heads head ≡ true
    → is_word (head ++ rest) ≡ true → is_built_in (head ++ rest) ≡ true
begun head rest no_plain behind before built_in h = by (or_cases _ _ h)
  where
    whole : length (value (head ++ rest)) ≡ 0 → head ++ rest ≡ head
    whole none = ap (λ xs. head ++ xs) (empty rest (ap length (sym behind) ∙ none)) ∙ append-nil head
      where
        empty : (xs : List ℕ) → length xs ≡ 0 → xs ≡ []
        empty [] e = refl
        empty (x ∷ xs) e = absurd (omega (arith, e))

    front : (is_plain_word (head ++ rest) ≡ true) ⊎ (is_head (head ++ rest) ≡ true) → is_built_in (head ++ rest) ≡ true
    front (inl plain) = absurd (both_ways (list_all is_plain_byte (head ++ rest)) no_plain (and_parts _ _ plain).1)
    front (inr bare) =
        or_left _ _ (ap (has_word built_in_heads) (whole (eqb-true _ _ (and_parts _ _ bare).1)) ∙ built_in)

    by : ((is_plain_word (head ++ rest) || is_head (head ++ rest)) ≡ true) ⊎ (is_valued (head ++ rest) ≡ true) → is_built_in (head ++ rest) ≡ true
    by (inl either) = front (or_cases (is_plain_word (head ++ rest)) (is_head (head ++ rest)) either)
    by (inr valued) = or_right (has_word built_in_heads (head ++ rest)) _ (and_from _ _ valued (ap (has_word built_in_heads) before ∙ built_in))

-- ---- name and size
suffix_built_in : (suffix : Option (List ℕ)) (word : List ℕ) → Among (suffix_words suffix) word → is_built_in word ≡ true
suffix_built_in None word m = absurd m
suffix_built_in (Some suffix) word m = by (among_filter is_word ((codes "ext:" ++ suffix) ∷ []) word m)
  where
    by : Among ((codes "ext:" ++ suffix) ∷ []) word × (is_word word ≡ true) → is_built_in word ≡ true
    by (inl same, form) =
        subst (λ (w : List ℕ). is_built_in w ≡ true) same (begun (codes "ext:") suffix refl refl refl refl (subst (λ (w : List ℕ). is_word w ≡ true) (sym same) form))
    by (inr none, form) = absurd none

size_built_in : (size : ℕ) → is_built_in (size_word size) ≡ true
size_built_in size = by (size == 0) (nat_lt size 1024) (nat_lt size 16384)
  where
    by : (a b c : Bool) → is_built_in (cond a (codes "size:empty") (cond b (codes "size:small") (cond c (codes "size:medium") (codes "size:large")))) ≡ true
    by true b c = refl
    by false true c = refl
    by false false true = refl
    by false false false = refl

-- ---- mail
data MailWord (word : List ℕ) : Type 0 where
  FromWord : (rest : List ℕ) → codes "from:" ++ rest ≡ word → MailWord word
  ToWord : (rest : List ℕ) → codes "to:" ++ rest ≡ word → MailWord word
  SubjectWord : (rest : List ℕ) → codes "subject:" ++ rest ≡ word → MailWord word

tokens_own : (kind : FieldKind) (ts : List (List ℕ)) (word : List ℕ) → Among (token_words kind ts) word → MailWord word
tokens_own From ts = λ word m. let found = among_map (with_head (codes "from:")) (filter has_at ts) word m in FromWord (str_to_ascii_lowercase found.0) found.2
tokens_own To ts = λ word m. let found = among_map (with_head (codes "to:")) (filter has_at ts) word m in ToWord (str_to_ascii_lowercase found.0) found.2
tokens_own Subject ts = λ word m. let found = among_map (with_head (codes "subject:")) ts word m in SubjectWord (str_to_ascii_lowercase found.0) found.2
tokens_own Other ts = λ word m. absurd m

mail_built_in : (bytes word : List ℕ) → Among (mail_words bytes) word → is_built_in word ≡ true
unfolding mail_words
mail_built_in bytes word m = by (among_filter is_word (flat_map field_words (fields (header bytes))) word m)
  where
    at : is_word word ≡ true → MailWord word → is_built_in word ≡ true
    at form (FromWord rest same) =
        subst (λ (w : List ℕ). is_built_in w ≡ true) same (begun (codes "from:") rest refl refl refl refl (subst (λ (w : List ℕ). is_word w ≡ true) (sym same) form))
    at form (ToWord rest same) =
        subst (λ (w : List ℕ). is_built_in w ≡ true) same (begun (codes "to:") rest refl refl refl refl (subst (λ (w : List ℕ). is_word w ≡ true) (sym same) form))
    at form (SubjectWord rest same) =
        subst (λ (w : List ℕ). is_built_in w ≡ true) same (begun (codes "subject:") rest refl refl refl refl (subst (λ (w : List ℕ). is_word w ≡ true) (sym same) form))

    field : (f : Field) × Among (fields (header bytes)) f × Among (field_words f) word → MailWord word
    field found = tokens_own (kind_of found.0.name) (tokens found.0.body) word found.2

    by : Among (flat_map field_words (fields (header bytes))) word × (is_word word ≡ true) → is_built_in word ≡ true
    by found = at found.1 (field (among_flat_map field_words (fields (header bytes)) word found.0))

-- ---- C source
data SourceWord (word : List ℕ) : Type 0 where
  Included : (rest : List ℕ) → codes "includes:" ++ rest ≡ word → SourceWord word
  Defined : (rest : List ℕ) → codes "defines:" ++ rest ≡ word → SourceWord word

entry_own : (braces parens : ℕ) (piece : Piece) (behind : List Kind) (word : List ℕ) → Among (entry_words braces parens piece behind) word → SourceWord word
entry_own braces parens piece behind word m = by (is_path piece.kind) (is_candidate braces parens piece && is_defined behind) m
  where
    by : (a b : Bool) → Among (cond a (included_word piece.text ∷ []) (cond b ((codes "defines:" ++ piece.text) ∷ []) [])) word → SourceWord word
    by true b (inl same) = Included (last_part piece.text) same
    by true b (inr none) = absurd none
    by false true (inl same) = Defined piece.text same
    by false true (inr none) = absurd none
    by false false none = absurd none

source_own : (braces parens : ℕ) (pieces : List Piece) (word : List ℕ) → Among (words_at braces parens pieces) word → SourceWord word
source_own braces parens [] word m = absurd m
source_own braces parens (piece ∷ ps) word m =
    by (among_append (entry_words braces parens piece (entries.tokens ps)) (words_at (braces_after braces piece.kind) (parens_after parens piece.kind) ps) word m)
    (source_own (braces_after braces piece.kind) (parens_after parens piece.kind) ps word)
  where
    by : Among (entry_words braces parens piece (entries.tokens ps)) word ⊎ Among (words_at (braces_after braces piece.kind) (parens_after parens piece.kind) ps) word
        → (Among (words_at (braces_after braces piece.kind) (parens_after parens piece.kind) ps) word → SourceWord word) → SourceWord word
    by (inl here) more = entry_own braces parens piece (entries.tokens ps) word here
    by (inr later) more = more later

source_built_in : (bytes word : List ℕ) → Among (source_words bytes) word → is_built_in word ≡ true
unfolding source_words
source_built_in bytes word m = by (among_filter is_word (words_at 0 0 (entries.entries LineStart (pieces LineStart (joined bytes)))) word m)
  where
    at : is_word word ≡ true → SourceWord word → is_built_in word ≡ true
    at form (Included rest same) =
        subst (λ (w : List ℕ). is_built_in w ≡ true) same (begun (codes "includes:") rest refl refl refl refl (subst (λ (w : List ℕ). is_word w ≡ true) (sym same) form))
    at form (Defined rest same) =
        subst (λ (w : List ℕ). is_built_in w ≡ true) same (begun (codes "defines:") rest refl refl refl refl (subst (λ (w : List ℕ). is_word w ≡ true) (sym same) form))

    by : Among (words_at 0 0 (entries.entries LineStart (pieces LineStart (joined bytes)))) word × (is_word word ≡ true) → is_built_in word ≡ true
    by found = at found.1 (source_own 0 0 (entries.entries LineStart (pieces LineStart (joined bytes))) word found.0)

-- ---- all of them
either_built_in : (b : Bool) (words : List (List ℕ)) (word : List ℕ) → (Among words word → is_built_in word ≡ true) → Among (cond b words []) word → is_built_in word ≡ true
either_built_in true words word each m = each m
either_built_in false words word each m = absurd m

content_built_in : (suffix : Option (List ℕ)) (bytes word : List ℕ) → Among (content_words suffix bytes) word → is_built_in word ≡ true
content_built_in suffix bytes word m =
    by (among_append (cond (is_suffix (codes "eml") suffix) (mail_words bytes) []) (cond (is_suffix (codes "c") suffix || is_suffix (codes "h") suffix) (source_words bytes) []) word m)
  where
    by : Among (cond (is_suffix (codes "eml") suffix) (mail_words bytes) []) word ⊎ Among (cond (is_suffix (codes "c") suffix || is_suffix (codes "h") suffix) (source_words bytes) []) word → is_built_in word ≡ true
    by (inl mail) = either_built_in (is_suffix (codes "eml") suffix) (mail_words bytes) word (mail_built_in bytes word) mail
    by (inr source) = either_built_in (is_suffix (codes "c") suffix || is_suffix (codes "h") suffix) (source_words bytes) word (source_built_in bytes word) source

among_noted : (words : List (List ℕ)) (word w : List ℕ) → Among (noted words word) w → Among words w ⊎ (word ≡ w)
among_noted words word w m = by (has_word words word) (nat_lt (length words) 48) m
  where
    put : Among words w ⊎ Among (word ∷ []) w → Among words w ⊎ (word ≡ w)
    put (inl old) = inl old
    put (inr (inl same)) = inr same
    put (inr (inr none)) = absurd none

    by : (a b : Bool) → Among (cond a words (cond b (words ++ word ∷ []) words)) w → Among words w ⊎ (word ≡ w)
    by true b m = inl m
    by false true m = put (among_append words (word ∷ []) w m)
    by false false m = inl m

among_noted_all : (words more : List (List ℕ)) (w : List ℕ) → Among (noted_all words more) w → Among words w ⊎ Among more w
among_noted_all words [] w m = inl m
among_noted_all words (word ∷ more) w m = by (among_noted_all (noted words word) more w m)
  where
    put : Among words w ⊎ (word ≡ w) → Among words w ⊎ Among (word ∷ more) w
    put (inl old) = inl old
    put (inr same) = inr (inl same)

    by : Among (noted words word) w ⊎ Among more w → Among words w ⊎ Among (word ∷ more) w
    by (inl first) = put (among_noted words word w first)
    by (inr later) = inr (inr later)

noted_few : (words : List (List ℕ)) (word : List ℕ) → length words ≤ 48 → length (noted words word) ≤ 48
noted_few words word few = by (has_word words word) (nat_lt (length words) 48) refl
  where
    by : (a b : Bool) → nat_lt (length words) 48 ≡ b → length (cond a words (cond b (words ++ word ∷ []) words)) ≤ 48
    by true b e = few
    by false true e = omega (arith, ltb-true (length words) 48 e, length-append words (word ∷ []))
    by false false e = few

noted_all_few : (words more : List (List ℕ)) → length words ≤ 48 → length (noted_all words more) ≤ 48
noted_all_few words [] few = few
noted_all_few words (word ∷ more) few = noted_all_few (noted words word) more (noted_few words word few)

pub derived_built_in : (name bytes word : List ℕ) → Among (derived_words name bytes) word → is_built_in word ≡ true
derived_built_in name bytes word m = by (among_noted_all [] (suffix_words (suffix_of name) ++ size_word (length bytes) ∷ content_words (suffix_of name) bytes) word m)
  where
    at : Among (suffix_words (suffix_of name)) word ⊎ Among (size_word (length bytes) ∷ content_words (suffix_of name) bytes) word → is_built_in word ≡ true
    at (inl named) = suffix_built_in (suffix_of name) word named
    at (inr (inl same)) = subst (λ (w : List ℕ). is_built_in w ≡ true) same (size_built_in (length bytes))
    at (inr (inr content)) = content_built_in (suffix_of name) bytes word content

    by : Among {K = List ℕ} [] word ⊎ Among (suffix_words (suffix_of name) ++ size_word (length bytes) ∷ content_words (suffix_of name) bytes) word → is_built_in word ≡ true
    by (inl none) = absurd none
    by (inr found) = at (among_append (suffix_words (suffix_of name)) (size_word (length bytes) ∷ content_words (suffix_of name) bytes) word found)

pub derived_few : (name bytes : List ℕ) → length (derived_words name bytes) ≤ 48
derived_few name bytes = noted_all_few [] (suffix_words (suffix_of name) ++ size_word (length bytes) ∷ content_words (suffix_of name) bytes) (omega arith)
