use Rattle.lis_kept.proofs.Common.{◌∙◌, sym}
use Rattle.lis_kept.proofs.Dropped.{file_slot_below, drops}
use Rattle.lis_kept.specs.contracts.metadata.Metadata.{the_view}
use Rattle.lis_kept.proofs.metadata.Metadata.drop_record.Goals as goal

pub mark_file-requires-clause-slot : goal.mark_file-requires-clause-slot
mark_file-requires-clause-slot c = file_slot_below (the_view c.self.inside) c.self.invariant.sound c.args.slot c.in-Some.rec (sym c.remove.ensures.was ∙ c.in-Some.is)

pub invariant_of-self : goal.invariant_of-self
invariant_of-self c =
    (drops c.args.self.now (the_view c.self.inside) c.self.inside.taxonomy c.args.slot c.in-Some.rec c.remove.new.self c.mark_file.new.marks
    c.self.view_is c.self.invariant (sym c.remove.ensures.was ∙ c.in-Some.is) c.remove.ensures.gone c.mark_file.ensures).0

pub returns : goal.returns
returns c =
    let both = drops c.args.self.now (the_view c.self.inside) c.self.inside.taxonomy c.args.slot c.in-Some.rec c.remove.new.self c.mark_file.new.marks
    c.self.view_is c.self.invariant (sym c.remove.ensures.was ∙ c.in-Some.is) c.remove.ensures.gone c.mark_file.ensures in
    record { drops = both.1; sound = both.0.sound }
