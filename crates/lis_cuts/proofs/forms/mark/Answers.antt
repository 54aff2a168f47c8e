use Rattle.std.proofs.Common.{arith}
use Rattle.std.proofs.lemmas.Grind.{common_steps}
use Rattle.lis_cuts.proofs.Numerals.{printed_numeral}
use Rattle.lis_cuts.proofs.forms.mark.Goals as goal

pub returns : goal.returns
returns c =
    let number = printed_numeral c.args.number c.ranges.number.fits c.requires.number in
    let count = printed_numeral c.args.count c.ranges.count.fits c.requires.count in
    grind (arith, common_steps, number, count)
