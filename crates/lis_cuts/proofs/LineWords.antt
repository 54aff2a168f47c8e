-- Which words a line has, by their heads.
use Rattle.std.proofs.Common.{◌≡◌, ℕ, ◌<◌, Bool, true, false, cond, ◌&&◌, ◌||◌, nat_eq, List, [], ◌∷◌, ◌++◌, length, take, drop, map, filter, codes, refl, sym, ap, ◌∙◌, arith, ◌≤◌, le-leb}
use Rattle.std.specs.List.{list_any, slice_split}
use Rattle.std.specs.Cmp.Lexicographic.{pointwise}
use Rattle.std.proofs.lemmas.Bool.{false_from_ne_true, lt-leb}
use Rattle.std.proofs.lemmas.List.{take-append-drop}
use Rattle.std.proofs.lemmas.List.Folds.{list_any-append}
use Rattle.std.proofs.lemmas.Map.Views.{any-filter_same}
use Rattle.std.proofs.lemmas.Slice.Eq.{bytes_eq-Decides}
use Rattle.lis_words.specs.Words.{same_word, has_word}
use Rattle.lis_words.proofs.Bytes.{some_bytes}
use Rattle.lis_transducers.specs.Tokens.{is_between}
use Rattle.lis_views.specs.Truth.{line_kinds, is_short, short_runs, with_head, line_words}
use Rattle.lis_cuts.specs.Words.{has_value}
use Rattle.lis_words.specs.Bytes.{is_some_bytes}

-- ---- words with a head
head_value : (head : List ℕ) → ((v value : List ℕ) → same_word (head ++ v) (head ++ value) ≡ same_word v value) → same_word head (head ++ []) ≡ true
    → ((value : List ℕ) → same_word head (head ++ value) ≡ same_word [] value)
    → (values : List (List ℕ)) (value : List ℕ) → list_any (λ w. same_word w (head ++ value)) (with_head head values) ≡ has_value values value
head_value head front alone first [] value = refl
head_value head front alone first (v ∷ values) value = by (first value)
  where
    each : (vs : List (List ℕ)) → list_any (λ w. same_word w (head ++ value)) (map (λ u. head ++ u) vs) ≡ list_any (λ w. same_word w value) vs
    each [] = refl
    each (u ∷ vs) = ap (λ t. t || list_any (λ w. same_word w (head ++ value)) (map (λ u. head ++ u) vs)) (front u value) ∙ ap (λ t. same_word u value || t) (each vs)

    by : same_word head (head ++ value) ≡ same_word [] value
        → list_any (λ w. same_word w (head ++ value)) (head ∷ map (λ u. head ++ u) (v ∷ values)) ≡ list_any (λ w. same_word w value) ([] ∷ v ∷ values)
    by e = ap (λ t. t || list_any (λ w. same_word w (head ++ value)) (map (λ u. head ++ u) (v ∷ values))) e ∙ ap (λ t. same_word [] value || t) (each (v ∷ values))

-- none of the words with a head is this one
head_none : (head word : List ℕ) → ((v : List ℕ) → same_word (head ++ v) word ≡ false) → same_word head word ≡ false
    → (values : List (List ℕ)) → list_any (λ w. same_word w word) (with_head head values) ≡ false
head_none head word apart alone [] = refl
head_none head word apart alone (v ∷ values) = ap (λ t. t || list_any (λ w. same_word w word) (map (λ u. head ++ u) (v ∷ values))) alone ∙ each (v ∷ values)
  where
    each : (vs : List (List ℕ)) → list_any (λ w. same_word w word) (map (λ u. head ++ u) vs) ≡ false
    each [] = refl
    each (u ∷ vs) = ap (λ t. t || list_any (λ w. same_word w word) (map (λ u. head ++ u) vs)) (apart u) ∙ each vs

or_false : (t : Bool) → (t || false) ≡ t
or_false true = refl
or_false false = refl

-- a word that begins with the head
pub behind_head : (head word rest : List ℕ) → pointwise nat_eq (take (length head) word) head ≡ true → rest ≡ drop (length head) word → word ≡ head ++ rest
behind_head head word rest begins is =
    sym (take-append-drop (length head) word) ∙ ap (λ xs. xs ++ drop (length head) word) ((bytes_eq-Decides (take (length head) word) head).0 begins) ∙ ap (λ xs. head ++ xs) (sym is)

-- a word that does not begin with it
not_behind : (head word v : List ℕ) → pointwise nat_eq (take (length head) word) head ≡ false → same_word (head ++ v) word ≡ false
not_behind head word v other = false_from_ne_true _ (λ e.
    let is : head ++ v ≡ word = (bytes_eq-Decides (head ++ v) word).0 e in
    let front : take (length head) word ≡ head = ap (take (length head)) (sym is) ∙ front_of head v in
    let yes : pointwise nat_eq (take (length head) word) head ≡ true = (bytes_eq-Decides (take (length head) word) head).1 front in
    absurd (cc yes))
  where
    front_of : (h more : List ℕ) → take (length h) (h ++ more) ≡ h
    front_of [] more = refl
    front_of (b ∷ h) more = ap (λ xs. b ∷ xs) (front_of h more)

-- ---- the words `line:..`
pub line_word : (text kind : List ℕ) → has_word (line_words text) (codes "line:" ++ kind) ≡ has_value (line_kinds text) kind
line_word text kind =
    list_any-append (λ w. same_word w (codes "line:" ++ kind)) (with_head (codes "line:") (line_kinds text)) (with_head (codes "word:") (short_runs text))
    ∙ ap (λ t. list_any (λ w. same_word w (codes "line:" ++ kind)) (with_head (codes "line:") (line_kinds text)) || t)
    (head_none (codes "word:") (codes "line:" ++ kind) (λ v. refl) refl (short_runs text))
    ∙ or_false _
    ∙ head_value (codes "line:") (λ v value. refl) refl (λ value. refl) (line_kinds text) kind

-- ---- the words `word:..`
pub run_word : (text value : List ℕ) → has_word (line_words text) (codes "word:" ++ value) ≡ has_value (short_runs text) value
run_word text value =
    list_any-append (λ w. same_word w (codes "word:" ++ value)) (with_head (codes "line:") (line_kinds text)) (with_head (codes "word:") (short_runs text))
    ∙ ap (λ t. t || list_any (λ w. same_word w (codes "word:" ++ value)) (with_head (codes "word:") (short_runs text)))
    (head_none (codes "line:") (codes "word:" ++ value) (λ v. refl) refl (line_kinds text))
    ∙ head_value (codes "word:") (λ v more. refl) refl (λ more. refl) (short_runs text) value

some_kept : (runs : List (List ℕ)) → has_value (filter is_short runs) [] ≡ list_any is_short runs
some_kept [] = refl
some_kept (run ∷ runs) = by (is_short run) (some_kept runs)
  where
    by : (t : Bool) → has_value (filter is_short runs) [] ≡ list_any is_short runs
        → has_value (cond t (run ∷ filter is_short runs) (filter is_short runs)) [] ≡ (t || list_any is_short runs)
    by true more = refl
    by false more = more

any_kept : (runs : List (List ℕ)) → list_any is_short (filter is_some_bytes runs) ≡ list_any (λ run. is_some_bytes run && is_short run) runs
any_kept [] = refl
any_kept (run ∷ runs) = by (is_some_bytes run) (any_kept runs)
  where
    by : (t : Bool) → list_any is_short (filter is_some_bytes runs) ≡ list_any (λ r. is_some_bytes r && is_short r) runs
        → list_any is_short (cond t (run ∷ filter is_some_bytes runs) (filter is_some_bytes runs)) ≡ ((t && is_short run) || list_any (λ r. is_some_bytes r && is_short r) runs)
    by true more = ap (λ t. is_short run || t) more
    by false more = more

-- some run makes a word
pub some_run : (text : List ℕ) → has_value (short_runs text) [] ≡ list_any (λ run. is_some_bytes run && is_short run) (slice_split is_between text)
some_run text = some_kept (filter is_some_bytes (slice_split is_between text)) ∙ any_kept (slice_split is_between text)

value_alone : (runs : List (List ℕ)) (value : List ℕ) → 0 < length value → has_value runs value ≡ list_any (λ w. same_word w value) runs
value_alone [] value some = refl
value_alone (run ∷ runs) [] some = absurd (omega arith)
value_alone (run ∷ runs) (b ∷ value) some = refl

kept_by : (short : Bool) (runs : List (List ℕ)) (value : List ℕ) → 0 < length value → is_short value ≡ short
    → list_any (λ w. same_word w value) (filter is_short (filter is_some_bytes runs)) ≡ (short && list_any (λ w. same_word w value) runs)
kept_by short runs value some is =
    any-filter_same (λ w. same_word w value) is_short short (λ w e. ap is_short ((bytes_eq-Decides w value).0 e) ∙ is) (filter is_some_bytes runs)
    ∙ ap (λ t. short && t) (any-filter_same (λ w. same_word w value) is_some_bytes true (λ w e. ap is_some_bytes ((bytes_eq-Decides w value).0 e) ∙ some_bytes value some) runs)

-- a run that is too long makes none
pub long_run : (text value : List ℕ) → 55 < length value → has_value (short_runs text) value ≡ false
long_run text value long =
    value_alone (short_runs text) value (omega arith) ∙ kept_by false (slice_split is_between text) value (omega arith) (lt-leb (length value) 55 long)

pub this_run : (text value : List ℕ) → 0 < length value → length value ≤ 55 → has_value (short_runs text) value ≡ list_any (λ w. same_word w value) (slice_split is_between text)
this_run text value some short =
    value_alone (short_runs text) value some ∙ kept_by true (slice_split is_between text) value some (le-leb (length value) 55 short)

-- ---- other words
pub no_word : (text word : List ℕ) → pointwise nat_eq (take 5 word) (codes "line:") ≡ false → pointwise nat_eq (take 5 word) (codes "word:") ≡ false
    → has_word (line_words text) word ≡ false
no_word text word no_line no_run =
    list_any-append (λ w. same_word w word) (with_head (codes "line:") (line_kinds text)) (with_head (codes "word:") (short_runs text))
    ∙ ap (λ t. t || list_any (λ w. same_word w word) (with_head (codes "word:") (short_runs text)))
    (head_none (codes "line:") word (λ v. not_behind (codes "line:") word v no_line) (not_behind (codes "line:") word [] no_line) (line_kinds text))
    ∙ head_none (codes "word:") word (λ v. not_behind (codes "word:") word v no_run) (not_behind (codes "word:") word [] no_run) (short_runs text)
