-- The first step of a route, by the numbers of the file.
use Rattle.std.proofs.Common.{◌≡◌, ◌⊎◌, inl, inr, ℕ, ◌+◌, ◌<◌, ◌≤◌, ◌==◌, nat_lt, Bool, true, false, if◌then◌else◌, Option, Some, None, List, [], take, get_or, find, length, refl, sym, ap, ◌∙◌, arith, eq-eqb}
use Rattle.std.specs.List.{slice_get, position_or_len, Contains}
use Rattle.std.proofs.lemmas.Bool.{eqb-true, ltb-true, ltb-false, and_parts}
use Rattle.std.proofs.lemmas.List.Quantifiers.{position-Some}
use Rattle.std.proofs.lemmas.List.{get_or-take, length-take}
use Rattle.std.proofs.lemmas.List.Folds.{find_at}
use Rattle.std.proofs.lemmas.Option.{slice_get-get_or, slice_get_read, slice_get_past, get_or_from_slice_get}
use Rattle.lis_graph.proofs.Members.{Among, among_from_contains, contains_from_among}
use Rattle.lis_words.specs.Words.{has_word}
use Rattle.lis_bits.specs.Rows.{Rows}
use Rattle.lis_model.specs.Listing.{is_increment}
use Rattle.lis_ext.specs.Ext as ext
use Rattle.lis_ext.specs.Numbers.{has_number}
use Rattle.lis_eval.specs.View.{Placed, Seen, IsView, TellsFiles, table_of, place_of}
use Rattle.lis_eval.proofs.Members.{contains_at, find_is, find_first}
use Rattle.lis_incr.specs.Marked.{found_files, is_top}
use Rattle.lis_incr.specs.Walking.{is_step, IsFirst, IsStepBy, IsFirstBy, earlier}
use Rattle.lis_incr.proofs.Own.{splits_own, has_last, has_split, has_kept}
use Rattle.lis_incr.proofs.Routes.{found_here, own_top}

among_taken : {X : Type 0} (xs : List X) (k : ℕ) (x : X) → Among (take k xs) x → (j : ℕ) × (j < k) × (slice_get xs j ≡ Some x)
among_taken xs k x m =
    let at = contains_from_among (take k xs) x m in
    let long = length-take k xs in
    let low : at.0 < k = omega (arith, at.1, long) in
    (at.0, low, slice_get_read xs (length xs) at.0 x refl (omega (arith, at.1, long)) (sym at.2 ∙ get_or-take k xs at.0 x low))

-- ---- the index of the first word that has a number
module _ (v : Seen) (number k : ℕ) (at : place_of v number ≡ Some k) where
  blank : List ℕ × ℕ
  blank = ([], 0)

  pub placed_word : (w : List ℕ × ℕ) × (slice_get v.words k ≡ Some w) × (w.1 ≡ number)
  placed_word =
      let first = position-Some (λ (x : List ℕ × ℕ). x.1 == number) v.words k blank at in
      (get_or v.words k blank, slice_get-get_or v.words k blank first.0, eqb-true (get_or v.words k blank).1 number first.1)

  pub placed_first : (j : ℕ) (x : List ℕ × ℕ) → j < k → slice_get v.words j ≡ Some x → x.1 ≡ number → ⊥
  placed_first j x lt there same =
      let first = position-Some (λ (y : List ℕ × ℕ). y.1 == number) v.words k blank at in
      let other = first.2 j lt in
      let yes = ap (λ (y : List ℕ × ℕ). y.1 == number) (get_or_from_slice_get v.words j x blank there) ∙ eq-eqb x.1 number same in
      cc

-- if there is none, no word has the number
pub unplaced : (v : Seen) (number : ℕ) → place_of v number ≡ None → (w : List ℕ × ℕ) → Contains v.words w → w.1 ≡ number → ⊥
unplaced v number none w there same = by (nat_lt (position_or_len has_it v.words) (length v.words)) refl none
  where
    has_it : List ℕ × ℕ → Bool
    has_it x = x.1 == number

    by : (b : Bool) → nat_lt (position_or_len has_it v.words) (length v.words) ≡ b → (if b then Some (position_or_len has_it v.words) else None) ≡ None → ⊥
    by true is some = absurd cc
    by false is none =
        let first = find_first has_it v.words w (among_from_contains v.words w there) (eq-eqb w.1 number same) in
        let past = find_at has_it v.words ∙ slice_get_past v.words (position_or_len has_it v.words) (ltb-false (position_or_len has_it v.words) (length v.words) is) in
        let found = first.1 in
        absurd cc

-- ---- the first of the steps by the first numbers of a list
module _ (v : Seen) (test : List ℕ → Bool) where
  module _ (numbers : List ℕ) (k : ℕ) (lt : k < length numbers) where
    abbrev number : ℕ
    number = get_or numbers k 0

    before : (one : ℕ × ℕ) → IsFirstBy v test (take k numbers) (Some one) → (bound : ℕ) → bound ≤ one.0 → ((x : List ℕ × ℕ) → Contains v.words x → x.1 ≡ number → (j : ℕ) → j < bound → slice_get v.words j ≡ Some x → test x.0 ≡ false)
        → (j : ℕ) (x : List ℕ × ℕ) → j < bound → slice_get v.words j ≡ Some x → has_number (take (k + 1) numbers) x.1 ≡ true → test x.0 ≡ false
    before one first bound le last j x low at has = by (has_split numbers k lt x.1 has)
      where
        by : (has_number (take k numbers) x.1 ≡ true) ⊎ (number ≡ x.1) → test x.0 ≡ false
        by (inl old) = first.1 j x (omega (arith, low, le)) at old
        by (inr same) = last x (contains_at v.words j x at) (sym same) j low at

    by_step : (p : ℕ × ℕ) → IsStepBy v test number (Some p)
        → (w : List ℕ × ℕ) × (slice_get v.words p.0 ≡ Some w) × (w.1 ≡ p.1) × (has_number (take (k + 1) numbers) w.1 ≡ true) × (test w.0 ≡ true)
    by_step p step =
        let w = placed_word v number p.0 step.0 in
        (w.0, w.1, w.2 ∙ sym step.1, has_last numbers k lt w.0.1 (sym w.2), step.2 w.0 (contains_at v.words p.0 w.0 w.1) w.2)

    not_yet : (p : ℕ × ℕ) → IsStepBy v test number (Some p) → (j : ℕ) → j < p.0 → (x : List ℕ × ℕ) → slice_get v.words j ≡ Some x → x.1 ≡ number → test x.0 ≡ false
    not_yet p step j low x at same = absurd (placed_first v number p.0 step.0 j x low at same)

    pub first_more : (first step : Option (ℕ × ℕ)) → IsFirstBy v test (take k numbers) first → IsStepBy v test number step → IsFirstBy v test (take (k + 1) numbers) (earlier first step)
    first_more None None none fails = λ w there has. by w there (has_split numbers k lt w.1 has)
      where
        by : (w : List ℕ × ℕ) → Contains v.words w → (has_number (take k numbers) w.1 ≡ true) ⊎ (number ≡ w.1) → test w.0 ≡ false
        by w there (inl old) = none w there old
        by w there (inr same) = fails w there (sym same)
    first_more None (Some p) none step = (by_step p step, λ j x low at has. by j x low at (has_split numbers k lt x.1 has))
      where
        by : (j : ℕ) (x : List ℕ × ℕ) → j < p.0 → slice_get v.words j ≡ Some x → (has_number (take k numbers) x.1 ≡ true) ⊎ (number ≡ x.1) → test x.0 ≡ false
        by j x low at (inl old) = none x (contains_at v.words j x at) old
        by j x low at (inr same) = not_yet p step j low x at (sym same)
    first_more (Some one) None first fails =
        let w = first.0 in
        ((w.0, w.1, w.2, has_kept numbers k lt w.0.1 w.3, w.4), before one first one.0 (omega arith) (λ x there same j low at. fails x there same))
    first_more (Some one) (Some other) first step = by (nat_lt other.0 one.0) refl
      where
        by : (b : Bool) → nat_lt other.0 one.0 ≡ b → IsFirstBy v test (take (k + 1) numbers) (if b then Some other else Some one)
        by true is = let low = ltb-true other.0 one.0 is in (by_step other step, before one first other.0 (omega (arith, low)) (λ x there same j under at. not_yet other step j under x at same))
        by false is =
            let low = ltb-false other.0 one.0 is in
            let w = first.0 in
            ((w.0, w.1, w.2, has_kept numbers k lt w.0.1 w.3, w.4), before one first one.0 (omega arith) (λ x there same j under at. not_yet other step j (omega (arith, under, low)) x at same))

-- ---- the first step is the first increment that the file has
module _ (v : Seen) (kept : IsView v) (found : Rows) (e : ext.Ext) (tells : TellsFiles v e) (f : Placed) (here : Contains v.files f) where
  abbrev tops : List ℕ → Bool
  tops = is_top (table_of v) (splits_own v found e tells f here)

  top_step : (w : List ℕ × ℕ) → Contains v.words w → tops w.0 ≡ is_step v found f.entry w
  top_step w there = own_top v kept (found_files v found) f here w there

  step_number : (w : List ℕ × ℕ) → Contains v.words w → is_step v found f.entry w ≡ true → has_number (ext.set_of e f.slot) w.1 ≡ true
  step_number w there step = tells.told w f there here ∙ (and_parts (is_increment (table_of v) (found_files v found) w.0) (has_word f.entry.words w.0) step).1

  -- a word that the numbers of the file do not give
  fails : (w : List ℕ × ℕ) → Contains v.words w → (has_number (ext.set_of e f.slot) w.1 ≡ true → tops w.0 ≡ false) → is_step v found f.entry w ≡ false
  fails w there none = by (is_step v found f.entry w) refl
    where
      by : (b : Bool) → is_step v found f.entry w ≡ b → b ≡ false
      by false is = refl
      by true is = absurd (let no = none (step_number w there is) in let yes = top_step w there ∙ is in cc)

  no_step : (k : ℕ) → ((j : ℕ) (x : List ℕ × ℕ) → j < k → slice_get v.words j ≡ Some x → is_step v found f.entry x ≡ false) → find (is_step v found f.entry) (take k v.words) ≡ None
  no_step k none = by (find (is_step v found f.entry) (take k v.words)) refl
    where
      by : (o : Option (List ℕ × ℕ)) → find (is_step v found f.entry) (take k v.words) ≡ o → o ≡ None
      by None is = refl
      by (Some x) is =
          let first = find_is (is_step v found f.entry) (take k v.words) x is in
          let at = among_taken v.words k x first.0 in
          absurd (let no = none at.0 x at.1 at.2 in let yes = first.1 in cc)

  pub first_of : (r : Option (ℕ × ℕ)) → IsFirstBy v tops (ext.set_of e f.slot) r → IsFirst v found f.entry r
  first_of None none = by (find (is_step v found f.entry) v.words) refl
    where
      by : (o : Option (List ℕ × ℕ)) → find (is_step v found f.entry) v.words ≡ o → o ≡ None
      by None is = refl
      by (Some x) is =
          let first = find_is (is_step v found f.entry) v.words x is in
          let there = contains_from_among v.words x first.0 in
          absurd (let no = fails x there (none x there) in let yes = first.1 in cc)
  first_of (Some p) first =
      let w = first.0 in
      let there = contains_at v.words p.0 w.0 w.1 in
      (w.0, w.1, w.2, found_here (is_step v found f.entry) v.words p.0 w.0 (no_step p.0 (λ j x low at. fails x (contains_at v.words j x at) (first.1 j x low at))) w.1 (sym (top_step w.0 there) ∙ w.4))
