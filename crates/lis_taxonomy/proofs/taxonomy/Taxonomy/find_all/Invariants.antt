use Rattle.std.proofs.Common.{◌≡◌, ℕ, take}
use Rattle.lis_taxonomy.specs.Search.{is_found}
use Rattle.lis_taxonomy.proofs.taxonomy.Taxonomy.find_all.Given as goal

abbrev pub invariant-loop-number : goal.invariant-loop-number
invariant-loop-number l = (q : ℕ) → is_found l.search q ≡ is_found (take l.number-index l.numbers) q
