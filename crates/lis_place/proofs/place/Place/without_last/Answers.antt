use Rattle.std.proofs.Common.{◌≡◌, ◌++◌, take, ap, ◌∙◌}
use Rattle.lis_grammar.specs.Places.{without_last}
use Rattle.lis_place.specs.Limits.{are_place}
use Rattle.lis_place.specs.Nodes.{nodes_of}
use Rattle.lis_place.proofs.Kept.{without_last_kept, without_last_place, kept_steps}
use Rattle.lis_place.proofs.place.Place.without_last.Goals as goal

put_together : (c : goal.After-extend) → c.extend.new.held.items ≡ nodes_of (without_last c.args.self.now)
put_together c =
    let all = c.as_slice-all.result.now in
    without_last_kept c.self.inside.nodes.items all c.extend.new.held.items c.args.self.now c.self.invariant c.self.view_is c.as_slice-all.ensures.value
    (c.extend.ensures ∙ (ap (λ xs. xs ++ take c.last_start.result all) c.new-nodes.ensures ∙ c.last_start.ensures.before))

pub invariant_of-result : goal.invariant_of-result
invariant_of-result c =
    ap are_place (put_together c) ∙ without_last_place c.self.inside.nodes.items c.args.self.now c.self.invariant c.self.view_is

pub returns : goal.returns
returns c = kept_steps c.extend.new.held.items (without_last c.args.self.now) (put_together c)
