-- The truth of a place is that of all its steps.
use Rattle.std.proofs.Common.{◌≡◌, Bool, true, false, ◌&&◌, List, [], ◌∷◌, ◌++◌, map, reverse, refl, ap, ◌∙◌, append-nil}
use Rattle.std.specs.List.{list_all, fold}
use Rattle.std.proofs.lemmas.List.{reverse-append}
use Rattle.lis_grammar.specs.Formula.{Formula}
use Rattle.lis_place.specs.Nodes.{nodes_of}
use Rattle.lis_place.proofs.Trees.{IsMeaning, steps_values}
use Rattle.lis_model.specs.Table.{Entry}
use Rattle.lis_model.specs.Listing.{holds, holds_all}
use Rattle.lis_table.specs.Truth.{with_value}

truths : (file : Entry) → IsMeaning (λ f. holds f file) (with_value file)
truths file = record {
  has = λ word stack. refl;
  at_least = λ n stack. refl;
  below = λ n stack. refl;
  negation = λ f stack. refl;
  both = λ f g stack. refl;
  either = λ f g stack. refl;
}

last_true : (values : List Bool) (last : Bool) → list_all (λ v. v) (values ++ last ∷ []) ≡ (list_all (λ v. v) values && last)
last_true [] true = refl
last_true [] false = refl
last_true (true ∷ values) last = last_true values last
last_true (false ∷ values) last = refl

and_turned : (a b : Bool) → (a && b) ≡ (b && a)
and_turned true true = refl
and_turned true false = refl
and_turned false true = refl
and_turned false false = refl

pub all_turned : (values : List Bool) → list_all (λ v. v) (reverse values) ≡ list_all (λ v. v) values
all_turned [] = refl
all_turned (value ∷ values) =
    ap (list_all (λ v. v)) (reverse-append (value ∷ []) values) ∙ last_true (reverse values) value
    ∙ ap (λ b. b && value) (all_turned values) ∙ and_turned (list_all (λ v. v) values) value

all_steps : (steps : List Formula) (file : Entry) → list_all (λ v. v) (map (λ f. holds f file) steps) ≡ holds_all steps file
all_steps [] file = refl
all_steps (step ∷ steps) file = ap (λ b. holds step file && b) (all_steps steps file)

pub truth_of : (steps : List Formula) (file : Entry) → list_all (λ v. v) (fold (with_value file) [] (nodes_of steps)) ≡ holds_all steps file
truth_of steps file =
    ap (list_all (λ v. v)) (steps_values (λ f. holds f file) (with_value file) (truths file) steps [] ∙ append-nil (reverse (map (λ f. holds f file) steps)))
    ∙ all_turned (map (λ f. holds f file) steps) ∙ all_steps steps file
