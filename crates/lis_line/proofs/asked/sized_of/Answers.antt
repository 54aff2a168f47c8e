use Rattle.std.proofs.Common.{Some, ap, sym}
use Rattle.lis_model.specs.Script.{words_of}
use Rattle.lis_line.proofs.Sized.{uncounted_bad}
use Rattle.lis_line.proofs.asked.sized_of.Goals as goal

pub returns-in_default-clause-asks : goal.returns-in_default-clause-asks
returns-in_default-clause-asks c = λ payload.
    let none = rw c.in_default.is at c.counted.ensures in
    sym (ap Some (uncounted_bad c.args.first.now (words_of c.args.rest.now) payload c.requires none))
