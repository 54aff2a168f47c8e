use Rattle.std.proofs.Common.{◌≡◌, ◌≤◌, ◌<◌, ℕ, All, length, count_by, true, sym, subst}
use Rattle.std.specs.List.{range_with_len}
use Rattle.lis_limits.specs.declared.TheConstants.{V3_MAX_PROPS}
use Rattle.lis_taxonomy.specs.Search.{is_found}
use Rattle.lis_taxonomy.proofs.Marks.{numbers_below, few_found, found_once}
use Rattle.lis_taxonomy.proofs.search.Search.numbers.Goals as goal

pub returns-clause-below : goal.returns-clause-below
returns-clause-below c = subst (λ xs. All (λ q. q < V3_MAX_PROPS) xs) (sym c.as_slice.ensures.value) (numbers_below c.self.inside.numbers.items c.self.inside.marks _ c.self.invariant)

pub returns-clause-few : goal.returns-clause-few
returns-clause-few c = subst (λ xs. length xs ≤ V3_MAX_PROPS) (sym c.as_slice.ensures.value) (few_found c.self.inside.numbers.items c.self.inside.marks _ c.self.invariant)

pub returns-clause-once : goal.returns-clause-once
returns-clause-once c =
    let m = c.self.inside in
    let inside = found_once m.numbers.items m.marks _ c.self.invariant in
    let seen = subst (λ xs. (props : ℕ) → props ≤ V3_MAX_PROPS → ((q : ℕ) → is_found xs q ≡ true → q < props) → length m.numbers.items ≡ count_by (is_found xs) (range_with_len 0 props)) c.self.view_is inside in
    λ props few below. subst (λ xs. length xs ≡ count_by (is_found c.args.self.now) (range_with_len 0 props)) (sym c.as_slice.ensures.value) (seen props few below)
