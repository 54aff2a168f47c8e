use Rattle.lis_store.proofs.Common.{◌≡◌, ◌++◌, take, filter}
use Rattle.lis_store.specs.Closing.{is_base, added}
use Rattle.lis_store.proofs.closing.base_at.Given as goal

-- those so far that are among its base
abbrev pub invariant-loop-number : goal.invariant-loop-number
invariant-loop-number l = l.base.items ≡ added l.how ++ filter (is_base l.metadata l.how l.slot) (take l.number-index l.numbers)
