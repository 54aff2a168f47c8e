use native.Mathlib.Omega.{arith}
use Rattle.lis_kept.proofs.Used.{head_by_number}
use Rattle.lis_kept.proofs.words.has_head.Goals as goal

pub returns-in-None : goal.returns-in-None
returns-in-None c = grind (arith, head_by_number c.args.dict.now c.requires c.in-Some.word c.args.head)

pub returns-in-Some-head_number : goal.returns-in-Some-head_number
returns-in-Some-head_number c = grind (arith, head_by_number c.args.dict.now c.requires c.in-Some.word c.args.head)
