use Rattle.std.proofs.Common.{◌≡◌, ◌≤◌, ◌<◌, ℕ, length, count_by, true, subst, arith}
use Rattle.std.specs.List.{range_with_len}
use Rattle.lis_limits.specs.declared.TheConstants.{V3_MAX_PROPS}
use Rattle.lis_taxonomy.specs.Search.{is_found}
use Rattle.lis_taxonomy.proofs.Marks.{found_once}
use Rattle.lis_taxonomy.proofs.search.Search.count.Goals as goal

pub returns-clause-once : goal.returns-clause-once
returns-clause-once c =
    let m = c.self.inside in
    let inside = found_once m.numbers.items m.marks _ c.self.invariant in
    let seen = subst (λ xs. (props : ℕ) → props ≤ V3_MAX_PROPS → ((q : ℕ) → is_found xs q ≡ true → q < props) → length m.numbers.items ≡ count_by (is_found xs) (range_with_len 0 props)) c.self.view_is inside in
    λ props few below. omega (arith, c.len.ensures, m.numbers.ok.0, seen props few below)
