use Rattle.lis_grammar.proofs.Placed.{place_from_test, test_from_place, resolved_is_place}
use Rattle.lis_formula.proofs.laws.places_stay.Goals as goal

pub returns-clause-test : goal.returns-clause-test
returns-clause-test c = λ steps. (place_from_test steps, test_from_place steps)

pub returns-clause-resolved : goal.returns-clause-resolved
returns-clause-resolved c = λ place new text. resolved_is_place place text new
