use Rattle.lis_store.proofs.Common.{ap, arith, rec_at, Metadata}
use Rattle.lis_store.proofs.Vacated.{rec_there, slot_below}
use Rattle.lis_store.proofs.removing.take_out.Goals as goal

pub describe-requires-clause-slot : goal.describe-requires-clause-slot
describe-requires-clause-slot c =
    let found = rec_there (rec_at c.args.metadata.now.catalog c.args.slot) c.requires.there in
    omega (arith, slot_below c.args.metadata.now c.args.slot found.0 c.requires.form found.1, ap (λ (k : Metadata). k.limits.files) (c.unfile.ensures.vacated found.0 found.1).metadata)

pub returns : goal.returns
returns c = λ rec there. record {
  vacated = c.unfile.new.metadata;
  vacates = c.unfile.ensures.vacated rec there;
  empties = c.describe.ensures.describes;
  sound = c.describe.ensures.sound;
}
