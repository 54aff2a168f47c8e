use Rattle.std.proofs.Common.{◌∙◌}
use Rattle.lis_place.proofs.Kept.{kept_nodes, kept_place}
use Rattle.lis_place.proofs.place.Place.nodes.Goals as goal

pub returns-clause-nodes : goal.returns-clause-nodes
returns-clause-nodes c =
    c.as_slice.ensures.value ∙ kept_nodes c.self.inside.nodes.items c.args.self.now c.self.invariant c.self.view_is

pub returns-clause-place : goal.returns-clause-place
returns-clause-place c = kept_place c.self.inside.nodes.items c.args.self.now c.self.invariant c.self.view_is
