use Rattle.std.proofs.Common.{arith}
use Rattle.lis_kept.proofs.Common.{◌∙◌, ap, is_some, rec_at}
use Rattle.lis_catalog.proofs.Laws.{slot_is_below}
use Rattle.lis_ext.specs.Ext.{set_of}
use Rattle.lis_kept.specs.Metadata.{Metadata}
use Rattle.lis_kept.specs.contracts.metadata.Metadata.{the_view}
use Rattle.lis_kept.proofs.metadata.Metadata.numbers.Goals as goal

pub numbers-requires : goal.numbers-requires
numbers-requires c =
    let k = the_view c.self.inside in
    let sound = c.self.invariant.sound in
    let there = ap (λ (x : Metadata). is_some (rec_at x.catalog c.args.slot)) c.self.view_is ∙ c.requires in
    omega (arith, slot_is_below k.catalog c.args.slot sound.catalog there, sound.slots, sound.files)

pub returns-clause-numbers : goal.returns-clause-numbers
returns-clause-numbers c =
    c.numbers.ensures.numbers ∙ ap (λ (x : Metadata). set_of x.ext c.args.slot) c.self.view_is
