use Rattle.std.proofs.Common.{◌≡◌, true, arith}
use Rattle.lis_model.specs.Sets.{fit}
use Rattle.lis_fields.proofs.NumberLists.{wide, read_wide}
use Rattle.lis_fields.proofs.numbers.read_shorts.Goals as goal

read : (c : goal.After-loop-k) → (fit 2 c.loop-k.numbers ≡ true) × (c.args.bytes.now ≡ wide 2 c.loop-k.numbers)
read c =
    read_wide 2 c.args.bytes.now c.loop-k.numbers (omega arith) (λ k. omega (arith, c.type_inv.bytes k)) (λ j lt. c.loop-k.invariant j (omega (arith, lt)))

pub returns-clause-short : goal.returns-clause-short
returns-clause-short c = (read c).0

pub returns-clause-spelled : goal.returns-clause-spelled
returns-clause-spelled c = (read c).1
