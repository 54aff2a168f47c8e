-- Axioms in order: those of each word, word by word.
use Rattle.std.proofs.Common.{◌≡◌, ◌⊎◌, ℕ, ◌<◌, Bool, true, false, cond, not, ◌&&◌, Option, Some, None, List, [], ◌∷◌, ◌++◌, map, filter, refl, sym, ap, ap₂, ◌∙◌, inl, inr, length, arith}
use Rattle.std.specs.declared.cmp.Ordering.TheVariants.{Less, Equal, Greater}
use Rattle.std.specs.Cmp.{tied_itself}
use Rattle.std.specs.List.{find, flat_map, list_all}
use Rattle.std.specs.Ordering.{is_lt, ordering_reverse, ordering_then}
use Rattle.std.proofs.lemmas.Bool.{and_parts, and_from, false_from_ne_true}
use Rattle.std.proofs.lemmas.Grind.{flat_map-append}
use Rattle.std.proofs.lemmas.List.Folds.{flat_map-map}
use Rattle.std.proofs.lemmas.Option.{same_Some}
use Rattle.lis_graph.specs.Graph.{is_rising}
use Rattle.lis_graph.proofs.Filters.{filter_same, filter_twice}
use Rattle.lis_graph.proofs.Members.{Among, find_among, among_filter, among_map}
use Rattle.lis_graph.proofs.Sets.{less_from, sorted_nil, sorted_with_more}
use Rattle.lis_ports.specs.Meaning.{Meaning}
use Rattle.lis_dict.specs.Dict.{words}
use Rattle.lis_words.specs.Words.{word_cmp, same_word}
use Rattle.lis_model.specs.State.{State, pair_cmp}
use Rattle.lis_laws.proofs.Counts.{all_among, all_from, rising_filter, rising_from_sorted}
use Rattle.lis_laws.proofs.Members.{word_order, pair_order, same_word_decides}
use Rattle.lis_kept.specs.Behind.{rights_of, is_behind}
use Rattle.lis_kept.specs.Metadata.{Metadata}
use Rattle.lis_kept.specs.Sound.{AreSound}
use Rattle.lis_kept.specs.Telling.{pairs_told, axioms_of}
use Rattle.lis_kept.proofs.Known.{among_axiom, word_known}
use Rattle.lis_replay.specs.Dump.{axiom_line}
use Rattle.lis_store.specs.Stored.{Stored, IsSound, StoreFits}
use Rattle.lis_session.specs.Item.{FitsAt}
use Rattle.lis_dump.specs.Showing.{axiom_lines, entry_axioms}

-- ---- words after another
behind_behind : (last : Option (List ℕ)) (word next : List ℕ) → is_behind last word ≡ true → word_cmp word next ≡ Less → is_behind last next ≡ true
behind_behind None word next is less = refl
behind_behind (Some first) word next is less = ap is_lt (word_order.trans first word next (less_from (word_cmp first word) is) less)

not_behind_itself : (word : List ℕ) → is_behind (Some word) word ≡ false
not_behind_itself word = ap is_lt (tied_itself word_order word)

not_behind_next : (word next : List ℕ) → word_cmp word next ≡ Less → is_behind (Some next) word ≡ false
not_behind_next word next less = ap is_lt (word_order.antisymm next word ∙ ap ordering_reverse less)

-- none is left
none_behind : {K : Type 0} (test : K → Bool) (xs : List K) → find test xs ≡ None → filter test xs ≡ []
none_behind test [] none = refl
none_behind test (x ∷ xs) none = by (test x) none (none_behind test xs)
  where
    by : (b : Bool) → cond b (Some x) (find test xs) ≡ None → (find test xs ≡ None → filter test xs ≡ []) → cond b (x ∷ filter test xs) (filter test xs) ≡ []
    by true some rest = absurd cc
    by false none rest = rest none

-- the first of them, and those after it
first_behind : (last : Option (List ℕ)) (words : List (List ℕ)) (word : List ℕ) → is_rising word_cmp words ≡ true → find (is_behind last) words ≡ Some word
    → filter (is_behind last) words ≡ word ∷ filter (is_behind (Some word)) words
first_behind last [] word rising is = absurd cc
first_behind last (x ∷ words) word rising is = by (is_behind last x) refl is (first_behind last words word parts.1)
  where
    parts : (list_all (λ y. is_lt (word_cmp x y)) words ≡ true) × (is_rising word_cmp words ≡ true)
    parts = and_parts _ _ rising

    below : (y : List ℕ) → Among words y → word_cmp x y ≡ Less
    below y m = less_from (word_cmp x y) (all_among (λ z. is_lt (word_cmp x z)) words y parts.0 m)

    here : is_behind last x ≡ true → x ≡ word → x ∷ filter (is_behind last) words ≡ word ∷ filter (is_behind (Some word)) (x ∷ words)
    here behind same =
        let each : filter (is_behind last) words ≡ filter (is_behind (Some x)) words = filter_same (is_behind last) (is_behind (Some x)) words (λ y m. behind_behind last x y behind (below y m) ∙ sym (ap is_lt (below y m))) in
        let first : filter (is_behind (Some x)) (x ∷ words) ≡ filter (is_behind (Some x)) words = ap (λ b. cond b (x ∷ filter (is_behind (Some x)) words) (filter (is_behind (Some x)) words)) (not_behind_itself x) in
        ap (λ ys. x ∷ ys) (each ∙ sym first) ∙ ap (λ w. w ∷ filter (is_behind (Some w)) (x ∷ words)) same

    later : find (is_behind last) words ≡ Some word → filter (is_behind last) words ≡ word ∷ filter (is_behind (Some word)) words → filter (is_behind last) words ≡ word ∷ filter (is_behind (Some word)) (x ∷ words)
    later found rest =
        let skipped = not_behind_next x word (below word (find_among (is_behind last) words word found).0) in
        rest ∙ ap (λ b. word ∷ cond b (x ∷ filter (is_behind (Some word)) words) (filter (is_behind (Some word)) words)) (sym skipped)

    by : (b : Bool) → is_behind last x ≡ b → cond b (Some x) (find (is_behind last) words) ≡ Some word
        → (find (is_behind last) words ≡ Some word → filter (is_behind last) words ≡ word ∷ filter (is_behind (Some word)) words)
        → cond b (x ∷ filter (is_behind last) words) (filter (is_behind last) words) ≡ word ∷ filter (is_behind (Some word)) (x ∷ words)
    by true behind found rest = here behind (same_Some x word found)
    by false behind found rest = later found (rest found)

-- ---- the axioms of a word
abbrev is_from : List ℕ → List ℕ × List ℕ → Bool
is_from left pair = same_word pair.0 left

from_left : (left : List ℕ) (axioms : List (List ℕ × List ℕ)) (pair : List ℕ × List ℕ) → Among (filter (is_from left) axioms) pair → pair.0 ≡ left
from_left left axioms pair m = (same_word_decides pair.0 left).0 (among_filter (is_from left) axioms pair m).1

-- the right sides of pairs with one left side rise, and have their lines
module _ (left : List ℕ) where
  sides_rise : (pairs : List (List ℕ × List ℕ)) → ((pair : List ℕ × List ℕ) → Among pairs pair → pair.0 ≡ left) → is_rising pair_cmp pairs ≡ true → is_rising word_cmp (map (λ pair. pair.1) pairs) ≡ true
  sides_rise [] lefts rising = refl
  sides_rise (pair ∷ pairs) lefts rising =
      let parts = and_parts _ _ rising in
      and_from _ _
      (all_from (λ y. is_lt (word_cmp pair.1 y)) (map (λ (p : List ℕ × List ℕ). p.1) pairs) (λ y m.
      let at = among_map (λ (p : List ℕ × List ℕ). p.1) pairs y m in
      let less = all_among (λ p. is_lt (pair_cmp pair p)) pairs at.0 parts.0 at.1 in
      let level : word_cmp pair.0 (at.0).0 ≡ Equal = ap₂ word_cmp (lefts pair (inl refl)) (lefts at.0 (inr at.1)) ∙ tied_itself word_order left in
      ap (λ w. is_lt (word_cmp pair.1 w)) (sym at.2) ∙ (ap (λ r. is_lt (ordering_then r (word_cmp pair.1 (at.0).1))) (sym level) ∙ less)))
      (sides_rise pairs (λ p m. lefts p (inr m)) parts.1)

  sides_lines : (pairs : List (List ℕ × List ℕ)) → ((pair : List ℕ × List ℕ) → Among pairs pair → pair.0 ≡ left)
      → flat_map (λ right. axiom_line (left, right)) (map (λ pair. pair.1) pairs) ≡ flat_map axiom_line pairs
  sides_lines [] lefts = refl
  sides_lines (pair ∷ pairs) lefts =
      ap₂ (λ w text. axiom_line (w, pair.1) ++ text) (sym (lefts pair (inl refl))) (sides_lines pairs (λ p m. lefts p (inr m)))

rights_rise : (left : List ℕ) (axioms : List (List ℕ × List ℕ)) → is_rising pair_cmp axioms ≡ true → is_rising word_cmp (rights_of axioms left) ≡ true
rights_rise left axioms rising = sides_rise left (filter (is_from left) axioms) (from_left left axioms) (rising_filter pair_cmp (is_from left) axioms rising)

lines_from : (left : List ℕ) (axioms : List (List ℕ × List ℕ)) → axiom_lines axioms left ≡ flat_map axiom_line (filter (is_from left) axioms)
lines_from left axioms = sides_lines left (filter (is_from left) axioms) (from_left left axioms)

axioms_rise : (k : Metadata) → is_rising pair_cmp (axioms_of k) ≡ true
axioms_rise k = rising_from_sorted pair_cmp pair_order (axioms_of k) (sorted_with_more pair_cmp pair_order [] (pairs_told k.dict k.axioms) (sorted_nil pair_cmp pair_order))

-- ---- the axioms of a word that are left
abbrev pub lines_behind : List (List ℕ × List ℕ) → List ℕ → Option (List ℕ) → List ℕ
lines_behind axioms left last = flat_map (λ (right : List ℕ). axiom_line (left, right)) (filter (is_behind last) (rights_of axioms left))

-- how many there are
abbrev pub count_behind : List (List ℕ × List ℕ) → List ℕ → Option (List ℕ) → ℕ
count_behind axioms left last = length (filter (is_behind last) (rights_of axioms left))

module _ (k : Metadata) (left : List ℕ) where
  pub all_behind : axiom_lines (axioms_of k) left ≡ lines_behind (axioms_of k) left None
  all_behind = ap (flat_map (λ (right : List ℕ). axiom_line (left, right))) (each (rights_of (axioms_of k) left))
    where
      each : (words : List (List ℕ)) → words ≡ filter (is_behind None) words
      each [] = refl
      each (word ∷ words) = ap (λ ws. word ∷ ws) (each words)

  -- `found` is the first of those after the last one, in the terms of a call
  module _ (last seen found : Option (List ℕ)) (same : seen ≡ last) (is : found ≡ find (is_behind seen) (rights_of (axioms_of k) left)) where
    first : find (is_behind last) (rights_of (axioms_of k) left) ≡ found
    first = sym (is ∙ ap (λ o. find (is_behind o) (rights_of (axioms_of k) left)) same)

    pub no_more : found ≡ None → lines_behind (axioms_of k) left last ≡ []
    no_more none = ap (flat_map (λ (right : List ℕ). axiom_line (left, right))) (none_behind (is_behind last) (rights_of (axioms_of k) left) (first ∙ none))

    module _ (right : List ℕ) (some : found ≡ Some right) where
      rest : filter (is_behind last) (rights_of (axioms_of k) left) ≡ right ∷ filter (is_behind (Some right)) (rights_of (axioms_of k) left)
      rest = first_behind last (rights_of (axioms_of k) left) right (rights_rise left (axioms_of k) (axioms_rise k)) (first ∙ some)

      pub one_more : lines_behind (axioms_of k) left last ≡ axiom_line (left, right) ++ lines_behind (axioms_of k) left (Some right)
      one_more = ap (flat_map (λ (right : List ℕ). axiom_line (left, right))) rest

      pub fewer_left : count_behind (axioms_of k) left (Some right) < count_behind (axioms_of k) left last
      fewer_left = omega (arith, ap length rest)

-- ---- word by word
-- The axioms of the least left side are before the others.
module _ (left : List ℕ) where
  abbrev is_other : List ℕ × List ℕ → Bool
  is_other pair = not (is_from left pair)

  first_parted : (axioms : List (List ℕ × List ℕ)) → is_rising pair_cmp axioms ≡ true → ((pair : List ℕ × List ℕ) → Among axioms pair → (left ≡ pair.0) ⊎ (word_cmp left pair.0 ≡ Less))
      → axioms ≡ filter (is_from left) axioms ++ filter is_other axioms
  first_parted [] rising least = refl
  first_parted (pair ∷ axioms) rising least = by (is_from left pair) refl (first_parted axioms parts.1 (λ p m. least p (inr m)))
    where
      parts : (list_all (λ y. is_lt (pair_cmp pair y)) axioms ≡ true) × (is_rising pair_cmp axioms ≡ true)
      parts = and_parts _ _ rising

      above : is_from left pair ≡ false → word_cmp left pair.0 ≡ Less
      above differs = which (least pair (inl refl))
        where
          which : (left ≡ pair.0) ⊎ (word_cmp left pair.0 ≡ Less) → word_cmp left pair.0 ≡ Less
          which (inl same) = absurd (let is = (same_word_decides pair.0 left).1 (sym same) in cc)
          which (inr less) = less

      none : is_from left pair ≡ false → filter (is_from left) axioms ≡ []
      none differs = none_from axioms (λ p m. false_from_ne_true (is_from left p) (λ same.
          let less = less_from (pair_cmp pair p) (all_among (λ y. is_lt (pair_cmp pair y)) axioms p parts.0 m) in
          let more : word_cmp pair.0 p.0 ≡ Greater = ap (word_cmp pair.0) ((same_word_decides p.0 left).0 same) ∙ (word_order.antisymm pair.0 left ∙ ap ordering_reverse (above differs)) in
          let turned : pair_cmp pair p ≡ Greater = ap (λ r. ordering_then r (word_cmp pair.1 p.1)) more in
          cc))
        where
          none_from : (pairs : List (List ℕ × List ℕ)) → ((p : List ℕ × List ℕ) → Among pairs p → is_from left p ≡ false) → filter (is_from left) pairs ≡ []
          none_from [] each = refl
          none_from (p ∷ pairs) each = rw (each p (inl refl)) (none_from pairs (λ q m. each q (inr m)))

      by : (b : Bool) → is_from left pair ≡ b → axioms ≡ filter (is_from left) axioms ++ filter is_other axioms
          → pair ∷ axioms ≡ cond b (pair ∷ filter (is_from left) axioms) (filter (is_from left) axioms) ++ cond (not b) (pair ∷ filter is_other axioms) (filter is_other axioms)
      by true is rest = ap (λ ps. pair ∷ ps) rest
      by false is rest =
          ap (λ ps. pair ∷ ps) (rest ∙ ap (λ ps. ps ++ filter is_other axioms) (none is)) ∙ ap (λ ps. ps ++ pair ∷ filter is_other axioms) (sym (none is))

  -- those of another word are among the others
  others_from : (axioms : List (List ℕ × List ℕ)) (word : List ℕ) → word_cmp left word ≡ Less → axiom_lines axioms word ≡ axiom_lines (filter is_other axioms) word
  others_from axioms word less =
      ap (λ pairs. flat_map (λ right. axiom_line (word, right)) (map (λ (p : List ℕ × List ℕ). p.1) pairs))
      (filter_same (is_from word) (λ p. is_other p && is_from word p) axioms (λ p m. by p (is_from word p) refl) ∙ sym (filter_twice is_other (is_from word) axioms))
    where
      apart : (p : List ℕ × List ℕ) → is_from word p ≡ true → is_from left p ≡ false
      apart p is = false_from_ne_true (is_from left p) (λ same.
          let equal : left ≡ word = sym ((same_word_decides p.0 left).0 same) ∙ (same_word_decides p.0 word).0 is in
          let level : word_cmp left word ≡ Equal = ap (word_cmp left) (sym equal) ∙ tied_itself word_order left in
          cc)

      by : (p : List ℕ × List ℕ) (b : Bool) → is_from word p ≡ b → is_from word p ≡ (is_other p && is_from word p)
      by p true is = is ∙ ap₂ (λ a c. not a && c) (sym (apart p is)) (sym is)
      by p false is = is ∙ (sym (none (is_other p)) ∙ ap (λ c. is_other p && c) (sym is))
        where
          none : (a : Bool) → (a && false) ≡ false
          none true = refl
          none false = refl

same_texts : {K : Type 0} (f g : K → List ℕ) (xs : List K) → ((x : K) → Among xs x → f x ≡ g x) → flat_map f xs ≡ flat_map g xs
same_texts f g [] each = refl
same_texts f g (x ∷ xs) each = ap₂ (λ text more. text ++ more) (each x (inl refl)) (same_texts f g xs (λ y m. each y (inr m)))

by_words : (words : List (List ℕ)) (axioms : List (List ℕ × List ℕ)) → is_rising word_cmp words ≡ true → is_rising pair_cmp axioms ≡ true
    → ((pair : List ℕ × List ℕ) → Among axioms pair → Among words pair.0) → flat_map (axiom_lines axioms) words ≡ flat_map axiom_line axioms
by_words [] [] words_rise rising named = refl
by_words [] (pair ∷ axioms) words_rise rising named = absurd (named pair (inl refl))
by_words (word ∷ words) axioms words_rise rising named =
    ap₂ (λ text more. text ++ more) (lines_from word axioms)
    (same_texts (axiom_lines axioms) (axiom_lines others) words (λ w m. others_from word axioms w (below w m))
    ∙ by_words words others (and_parts _ _ words_rise).1 (rising_filter pair_cmp (is_other word) axioms rising) other_named)
    ∙ (sym (flat_map-append axiom_line (filter (is_from word) axioms) others) ∙ ap (flat_map axiom_line) (sym (first_parted word axioms rising (λ p m. least p (named p m)))))
  where
    others : List (List ℕ × List ℕ)
    others = filter (is_other word) axioms

    below : (w : List ℕ) → Among words w → word_cmp word w ≡ Less
    below w m = less_from (word_cmp word w) (all_among (λ y. is_lt (word_cmp word y)) words w (and_parts _ _ words_rise).0 m)

    least : (p : List ℕ × List ℕ) → Among (word ∷ words) p.0 → (word ≡ p.0) ⊎ (word_cmp word p.0 ≡ Less)
    least p (inl same) = inl same
    least p (inr m) = inr (below p.0 m)

    other_named : (p : List ℕ × List ℕ) → Among others p → Among words p.0
    other_named p m = let there = among_filter (is_other word) axioms p m in by (named p there.0) there.1
      where
        by : (word ≡ p.0) ⊎ Among words p.0 → is_other word p ≡ true → Among words p.0
        by (inl same) other = absurd (let is = ap not ((same_word_decides p.0 word).1 (sym same)) in cc)
        by (inr m) other = m

-- ---- what memory keeps
axioms_by_words : (k : Metadata) → AreSound k → flat_map (entry_axioms k) k.dict.entries ≡ flat_map axiom_line (axioms_of k)
axioms_by_words k sound =
    sym (flat_map-map (axiom_lines (axioms_of k)) (λ (e : List ℕ × ℕ). e.0) k.dict.entries)
    ∙ by_words (words k.dict) (axioms_of k) sound.dict.rising (axioms_rise k) (λ pair m. let at = among_axiom k sound pair m in word_known k sound at.1 pair.0 at.4)

-- the axioms of the words are those of the state
pub axioms_told : {k : Stored} {m : Meaning} → IsSound k → (state : State) → FitsAt (StoreFits k m) m state → flat_map (entry_axioms k.metadata) k.metadata.dict.entries ≡ flat_map axiom_line state.axioms
axioms_told {k} sound state fitting = axioms_by_words k.metadata sound.metadata ∙ ap (λ (s : State). flat_map axiom_line s.axioms) fitting.own.tells.state
