-- The route to a file goes by the files that are left.
use Rattle.std.proofs.Common.{◌≡◌, ℕ, zero, suc, ◌+◌, ◌-◌, ◌<◌, Bool, true, false, cond, ◌&&◌, Option, Some, None, List, [], ◌∷◌, ◌++◌, length, filter, refl, ap, sym, ◌∙◌, arith}
use Rattle.std.proofs.lemmas.List.Folds.{list_all-append}
use Rattle.lis_grammar.specs.Formula.{Formula}
use Rattle.lis_model.specs.Tests.{step_of}
use Rattle.lis_model.specs.Table.{Table, Entry}
use Rattle.lis_model.specs.Listing.{holds, holds_all, extension, is_local}
use Rattle.lis_model.specs.Route.{word_then, first_increment, route_within, route}
use Rattle.lis_table.specs.Routes.{first_of, route_from}

-- ---- the files of a place with one more step
and_true : (a b : Bool) → (a && (b && true)) ≡ (a && b)
and_true true true = refl
and_true true false = refl
and_true false b = refl

narrowed : (place : List Formula) (step : Formula) (files : List Entry) → filter (holds_all (place ++ step ∷ [])) files ≡ filter (holds step) (filter (holds_all place) files)
narrowed place step [] = refl
narrowed place step (file ∷ files) =
    ap (λ b. cond b (file ∷ filter (holds_all (place ++ step ∷ [])) files) (filter (holds_all (place ++ step ∷ [])) files))
    (list_all-append (λ f. holds f file) place (step ∷ []) ∙ and_true (holds_all place file) (holds step file))
    ∙ by (holds_all place file) (holds step file) refl (narrowed place step files)
  where
    by : (a b : Bool) → holds step file ≡ b → filter (holds_all (place ++ step ∷ [])) files ≡ filter (holds step) (filter (holds_all place) files)
        → cond (a && b) (file ∷ filter (holds_all (place ++ step ∷ [])) files) (filter (holds_all (place ++ step ∷ [])) files)
        ≡ filter (holds step) (cond a (file ∷ filter (holds_all place) files) (filter (holds_all place) files))
    by true true e more = rw e (ap (λ fs. file ∷ fs) more)
    by true false e more = rw e more
    by false b e more = more

then_same : (o : Option (List ℕ)) (f g : List ℕ → List (List ℕ)) → ((p : List ℕ) → f p ≡ g p) → word_then o f ≡ word_then o g
then_same None f g same = refl
then_same (Some p) f g same = ap (λ ws. p ∷ ws) (same p)

within_from : (n : ℕ) (t : Table) (place : List Formula) (file : Entry) → route_within n t place file ≡ route_from n t (extension t place) file
within_from zero t place file = refl
within_from (suc n) t place file =
    ap (cond (is_local (extension t place) file) [])
    (then_same (first_increment t place file) (λ p. route_within n t (place ++ step_of p ∷ []) file) (λ p. route_from n t (filter (holds (step_of p)) (extension t place)) file)
    (λ p. within_from n t (place ++ step_of p ∷ []) file ∙ ap (λ files. route_from n t files file) (narrowed place (step_of p) t.files)))

pub route_of : (t : Table) (place : List Formula) (file : Entry) → route_from (length (extension t place)) t (extension t place) file ≡ route t place file
route_of t place file = sym (within_from (length (extension t place)) t place file)

-- ---- a step of the loop
one_left : (n i : ℕ) → i < n → n - i ≡ suc (n - (i + 1))
one_left n i lt = omega (arith, lt)

pub at_end : (n i : ℕ) (t : Table) (files : List Entry) (file : Entry) → i < n → is_local files file ≡ true → route_from (n - i) t files file ≡ []
at_end n i t files file lt local = rw (one_left n i lt) (rw local refl)

pub no_way : (n i : ℕ) (t : Table) (files : List Entry) (file : Entry) → i < n → is_local files file ≡ false → first_of t files file ≡ None → route_from (n - i) t files file ≡ []
no_way n i t files file lt far none = rw (one_left n i lt) (rw (far, none) refl)

pub onward : (n i : ℕ) (t : Table) (files : List Entry) (file : Entry) (p : List ℕ) → i < n → is_local files file ≡ false → first_of t files file ≡ Some p
    → route_from (n - i) t files file ≡ p ∷ route_from (n - (i + 1)) t (filter (holds (step_of p)) files) file
onward n i t files file p lt far first = rw (one_left n i lt) (rw (far, first) refl)

pub pushed : (words : List (List ℕ)) (word : List ℕ) (rest : List (List ℕ)) → (words ++ word ∷ []) ++ rest ≡ words ++ word ∷ rest
pushed [] word rest = refl
pushed (w ∷ words) word rest = ap (λ ws. w ∷ ws) (pushed words word rest)
