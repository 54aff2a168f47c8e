use Rattle.lis_store.proofs.Common.{◌∙◌, ◌&&◌, sym, ap, list_all, is_assignable, declared_of}
use Rattle.lis_store.specs.Assigning.{node_tags}
use Rattle.lis_store.proofs.Assigned.{all_assigned}
use Rattle.lis_store.proofs.assigning.are_assignable.Goals as goal

pub returns-then-not-all_assignable_nodes : goal.returns-then-not-all_assignable_nodes
returns-then-not-all_assignable_nodes c =
    let test = is_assignable (declared_of c.args.metadata.now) in
    let nodes = sym (ap (list_all (λ node. list_all test (node_tags node))) c.nodes.ensures.nodes) ∙ (sym c.all_assignable_nodes.ensures ∙ c.if-not-all_assignable_nodes.true) in
    sym (all_assigned test c.args.place.now c.args.tags.now c.requires ∙ ap (λ b. b && list_all test c.args.tags.now) nodes)

pub returns : goal.returns
returns c =
    let test = is_assignable (declared_of c.args.metadata.now) in
    let nodes = sym (ap (list_all (λ node. list_all test (node_tags node))) c.nodes.ensures.nodes) ∙ (sym c.all_assignable_nodes.ensures ∙ c.if-not-all_assignable_nodes.false) in
    c.all_assignable.ensures
    ∙ (ap (list_all test) c.as_slice.ensures.words
    ∙ sym (all_assigned test c.args.place.now c.args.tags.now c.requires ∙ ap (λ b. b && list_all test c.args.tags.now) nodes))
