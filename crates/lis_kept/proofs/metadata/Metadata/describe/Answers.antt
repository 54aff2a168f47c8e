use Rattle.std.proofs.Common.{arith}
use Rattle.lis_kept.proofs.Common.{◌∙◌, map, sym, ap, Ext, marked}
use Rattle.lis_ext.specs.Ext.{set_of}
use Rattle.lis_ext.specs.Numbers.{differs}
use Rattle.lis_kept.specs.Metadata.{Metadata}
use Rattle.lis_kept.specs.Areas.{description_home}
use Rattle.lis_kept.proofs.Described.{marks_differ, few_where, where_below, numbers_below, describes}
use Rattle.lis_kept.specs.contracts.metadata.Metadata.{the_view}
use Rattle.lis_kept.proofs.metadata.Metadata.describe.Goals as goal

pub set_file-requires-clause-new_in : goal.set_file-requires-clause-new_in
set_file-requires-clause-new_in c = numbers_below c.args.self.now (the_view c.self.inside) c.args.new.now c.self.view_is c.self.invariant.sound c.requires.named

pub mark_described-requires-clause-few : goal.mark_described-requires-clause-few
mark_described-requires-clause-few c =
    let few = few_where c.self.inside.ext.props (differs (set_of c.self.inside.ext c.args.slot) c.args.new.now) c.set_file.new.self.marks (c.set_file.ensures.marks ∙ marks_differ c.self.inside.ext (set_of c.self.inside.ext c.args.slot) c.args.new.now c.self.invariant.sound.settled) in
    omega (arith, few, c.self.invariant.sound.rows)

pub mark_described-requires-clause-below : goal.mark_described-requires-clause-below
mark_described-requires-clause-below c =
    where_below c.self.inside.ext.props c.self.inside.limits.props (differs (set_of c.self.inside.ext c.args.slot) c.args.new.now) c.set_file.new.self.marks
    (c.set_file.ensures.marks ∙ marks_differ c.self.inside.ext (set_of c.self.inside.ext c.args.slot) c.args.new.now c.self.invariant.sound.settled) c.self.invariant.sound.rows

pub invariant_of-self : goal.invariant_of-self
invariant_of-self c =
    (describes c.args.self.now (the_view c.self.inside) c.self.inside.taxonomy c.args.slot (set_of c.self.inside.ext c.args.slot) c.args.new.now c.settle.new.self c.mark_described.new.marks
    c.self.view_is c.self.invariant c.set_file.ensures.kept c.requires.slot (ap (λ (k : Metadata). set_of k.ext c.args.slot) (sym c.self.view_is)) c.requires.rising c.requires.named
    (ap (λ (e : Ext). e.props) c.settle.ensures ∙ c.set_file.ensures.props) (ap (λ (e : Ext). e.sets) c.settle.ensures ∙ c.set_file.ensures.sets) (ap (λ (e : Ext). e.marks) c.settle.ensures)
    (omega (arith, ap (λ (e : Ext). e.edits) c.settle.ensures, c.set_file.ensures.edits)) (omega (arith, ap (λ (e : Ext). e.edits) c.settle.ensures, c.set_file.ensures.no_fewer))
    (c.mark_described.ensures ∙ ap (λ ns. marked c.self.inside.marks (map (description_home c.self.inside.limits c.args.slot) ns)) (c.set_file.ensures.marks ∙ marks_differ c.self.inside.ext (set_of c.self.inside.ext c.args.slot) c.args.new.now c.self.invariant.sound.settled))).0

pub returns : goal.returns
returns c =
    let both = describes c.args.self.now (the_view c.self.inside) c.self.inside.taxonomy c.args.slot (set_of c.self.inside.ext c.args.slot) c.args.new.now c.settle.new.self c.mark_described.new.marks
    c.self.view_is c.self.invariant c.set_file.ensures.kept c.requires.slot (ap (λ (k : Metadata). set_of k.ext c.args.slot) (sym c.self.view_is)) c.requires.rising c.requires.named
    (ap (λ (e : Ext). e.props) c.settle.ensures ∙ c.set_file.ensures.props) (ap (λ (e : Ext). e.sets) c.settle.ensures ∙ c.set_file.ensures.sets) (ap (λ (e : Ext). e.marks) c.settle.ensures)
    (omega (arith, ap (λ (e : Ext). e.edits) c.settle.ensures, c.set_file.ensures.edits)) (omega (arith, ap (λ (e : Ext). e.edits) c.settle.ensures, c.set_file.ensures.no_fewer))
    (c.mark_described.ensures ∙ ap (λ ns. marked c.self.inside.marks (map (description_home c.self.inside.limits c.args.slot) ns)) (c.set_file.ensures.marks ∙ marks_differ c.self.inside.ext (set_of c.self.inside.ext c.args.slot) c.args.new.now c.self.invariant.sound.settled)) in
    record { describes = both.1; sound = both.0.sound }
