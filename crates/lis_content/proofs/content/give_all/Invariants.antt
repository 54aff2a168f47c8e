use Rattle.std.proofs.Common.{◌≡◌, drop}
use Rattle.lis_content.specs.Content.{given}
use Rattle.lis_content.proofs.content.give_all.Given as goal

abbrev pub invariant-loop-n : goal.invariant-loop-n
invariant-loop-n l = given l.map (drop l.n-index l.blocks) ≡ given l.fn.map l.blocks
