-- Places: the test and the record say the same, and what a text makes of a place is a place.
use Rattle.std.proofs.Common.{◌≡◌, ℕ, ◌≤◌, Bool, true, false, cond, ◌&&◌, Option, Some, None, List, [], ◌∷◌, ◌++◌, length, refl, ap, sym, subst, ◌∙◌, arith, append_assoc, length-append, nat_lt, nat_le, codes}
use Rattle.std.specs.List.{list_all}
use Rattle.std.proofs.lemmas.Bool.{leb-true, le-leb, ltb-true, lt-ltb, and_parts, and_from, false≢true}
use Rattle.std.proofs.lemmas.List.Sums.{sum_by-append}
use Rattle.lis_words.specs.Words.{same_word}
use Rattle.lis_grammar.specs.Formula.{Formula}
use Rattle.lis_grammar.specs.Formula.Formula.{Has, SizeAtLeast, SizeBelow, Negation, Both, Either}
use Rattle.lis_grammar.specs.Machine.{text_steps}
use Rattle.lis_grammar.specs.Printing.{printed_tree, printed_behind, printed}
use Rattle.lis_grammar.specs.Places.{tree_nodes, place_nodes, IsFit, AreFit, IsPlace, is_fit, is_place, without_last, within_limits, steps_from, resolved_path, resolved}
use Rattle.lis_grammar.specs.Places.Resolution.{NewPlace, BeyondLimits}
use Rattle.lis_grammar.proofs.Fits.{AreFit-front}

-- the test of a tree

pub fit_from_test : (f : Formula) → is_fit f ≡ true → IsFit f
fit_from_test (Has word) h = h
fit_from_test (SizeAtLeast n) h = ltb-true _ _ h
fit_from_test (SizeBelow n) h = ltb-true _ _ h
fit_from_test (Negation f) h = fit_from_test f h
fit_from_test (Both f g) h = let both = and_parts (is_fit f) (is_fit g) h in (fit_from_test f both.0, fit_from_test g both.1)
fit_from_test (Either f g) h = let both = and_parts (is_fit f) (is_fit g) h in (fit_from_test f both.0, fit_from_test g both.1)

pub test_from_fit : (f : Formula) → IsFit f → is_fit f ≡ true
test_from_fit (Has word) h = h
test_from_fit (SizeAtLeast n) h = lt-ltb _ _ h
test_from_fit (SizeBelow n) h = lt-ltb _ _ h
test_from_fit (Negation f) h = test_from_fit f h
test_from_fit (Both f g) h = and_from _ _ (test_from_fit f h.0) (test_from_fit g h.1)
test_from_fit (Either f g) h = and_from _ _ (test_from_fit f h.0) (test_from_fit g h.1)

pub all_fit_from_test : (fs : List Formula) → list_all is_fit fs ≡ true → AreFit fs
all_fit_from_test [] h = tt
all_fit_from_test (f ∷ fs) h = let both = and_parts (is_fit f) (list_all is_fit fs) h in (fit_from_test f both.0, all_fit_from_test fs both.1)

pub test_from_all_fit : (fs : List Formula) → AreFit fs → list_all is_fit fs ≡ true
test_from_all_fit [] h = refl
test_from_all_fit (f ∷ fs) h = and_from _ _ (test_from_fit f h.0) (test_from_all_fit fs h.1)

-- the test of a place

pub place_from_test : (steps : List Formula) → is_place steps ≡ true → IsPlace steps
unfolding is_place
place_from_test steps h =
    let nodes = nat_le (place_nodes steps) 64 in
    let bytes = nat_le (length (printed steps)) 1024 in
    let all = and_parts (nodes && bytes) (list_all is_fit steps) h in
    let sizes = and_parts nodes bytes all.0 in
    record { nodes = leb-true _ _ sizes.0; bytes = leb-true _ _ sizes.1; fit = all_fit_from_test steps all.1 }

pub test_from_place : (steps : List Formula) → IsPlace steps → is_place steps ≡ true
unfolding is_place
test_from_place steps h = and_from (nat_le (place_nodes steps) 64 && nat_le (length (printed steps)) 1024) _ (and_from _ _ (le-leb _ _ h.nodes) (le-leb _ _ h.bytes)) (test_from_all_fit steps h.fit)

pub no_place : (steps : List Formula) → (IsPlace steps → ⊥) → is_place steps ≡ false
no_place steps h = by (is_place steps) refl
  where
    by : (t : Bool) → is_place steps ≡ t → t ≡ false
    by true e = absurd (h (place_from_test steps e))
    by false e = refl

pub test_fails : (steps : List Formula) → is_place steps ≡ false → IsPlace steps → ⊥
test_fails steps h p = false≢true (sym h ∙ test_from_place steps p)

-- the first steps of a place are a place

pub root_is_place : IsPlace []
unfolding printed
root_is_place = record { nodes = omega arith; bytes = omega arith; fit = tt }

front_nodes : (fs gs : List Formula) → place_nodes fs ≤ place_nodes (fs ++ gs)
front_nodes fs gs = omega (arith, sum_by-append tree_nodes fs gs, length-append fs gs)

pub printed_behind-append : (fs gs : List Formula) → printed_behind (fs ++ gs) ≡ printed_behind fs ++ printed_behind gs
printed_behind-append [] gs = refl
printed_behind-append (f ∷ fs) gs =
    ap (λ xs. (47 ∷ printed_tree f) ++ xs) (printed_behind-append fs gs) ∙ sym (append_assoc (47 ∷ printed_tree f) (printed_behind fs) (printed_behind gs))

front_bytes : (f : Formula) (fs gs : List Formula) → length (printed (f ∷ fs)) ≤ length (printed ((f ∷ fs) ++ gs))
unfolding printed
front_bytes f fs gs =
    let longer = ap length (printed_behind-append fs gs) in
    let parts = length-append (printed_behind fs) (printed_behind gs) in
    omega (arith, length-append (printed_tree f) (printed_behind fs), length-append (printed_tree f) (printed_behind (fs ++ gs)), longer, parts)

pub front_is_place : (fs gs : List Formula) → IsPlace (fs ++ gs) → IsPlace fs
front_is_place [] gs p = root_is_place
front_is_place (f ∷ fs) gs p =
    record { nodes = omega (arith, front_nodes (f ∷ fs) gs, p.nodes); bytes = omega (arith, front_bytes f fs gs, p.bytes); fit = AreFit-front (f ∷ fs) gs p.fit }

-- all steps but the last

pub without_last-append : (fs : List Formula) (f : Formula) → without_last (fs ++ f ∷ []) ≡ fs
without_last-append [] f = refl
without_last-append (g ∷ []) f = refl
without_last-append (g ∷ h ∷ fs) f = ap (λ xs. g ∷ xs) (without_last-append (h ∷ fs) f)

pub record HasFront (steps : List Formula) : Type 0 where
  pub rest : List Formula
  pub whole : steps ≡ without_last steps ++ rest

pub has_front : (steps : List Formula) → HasFront steps
has_front [] = record { rest = []; whole = refl }
has_front (f ∷ []) = record { rest = f ∷ []; whole = refl }
has_front (f ∷ g ∷ steps) = let more = has_front (g ∷ steps) in record { rest = more.rest; whole = ap (λ xs. f ∷ xs) more.whole }

pub without_last_is_place : (steps : List Formula) → IsPlace steps → IsPlace (without_last steps)
without_last_is_place steps p = let front = has_front steps in front_is_place (without_last steps) front.rest (subst (λ fs. IsPlace fs) front.whole p)

-- what a text makes of a place is a place

new_within : (steps new : List Formula) → within_limits steps ≡ NewPlace new → IsPlace new
new_within steps new h = by (is_place steps) refl h
  where
    by : (t : Bool) → is_place steps ≡ t → cond t (NewPlace steps) BeyondLimits ≡ NewPlace new → IsPlace new
    by true e h = let same : steps ≡ new = cc in subst (λ fs. IsPlace fs) same (place_from_test steps e)
    by false e h = absurd (cc)

new_path : (place : List Formula) (found : Option (Bool × List Formula)) (new : List Formula) → resolved_path place found ≡ NewPlace new → IsPlace new
new_path place None new h = absurd (cc)
new_path place (Some path) new h = by (is_place path.1) h
  where
    by : (t : Bool) → cond t (within_limits (steps_from place path.0 path.1)) BeyondLimits ≡ NewPlace new → IsPlace new
    by true h = new_within (steps_from place path.0 path.1) new h
    by false h = absurd (cc)

pub resolved_is_place : (place : List Formula) (text : List ℕ) (new : List Formula) → IsPlace place → resolved place text ≡ NewPlace new → IsPlace new
unfolding resolved
resolved_is_place place text new p h = at_stops (same_word text (codes "..")) h
  where
    at_length : (t : Bool) → cond t BeyondLimits (resolved_path place (text_steps text)) ≡ NewPlace new → IsPlace new
    at_length true h = absurd (cc)
    at_length false h = new_path place (text_steps text) new h

    at_stops : (t : Bool) → cond t (NewPlace (without_last place)) (cond (nat_lt 1024 (length text)) BeyondLimits (resolved_path place (text_steps text))) ≡ NewPlace new
        → IsPlace new
    at_stops true h = let same : without_last place ≡ new = cc in subst (λ fs. IsPlace fs) same (without_last_is_place place p)
    at_stops false h = at_length (nat_lt 1024 (length text)) h
