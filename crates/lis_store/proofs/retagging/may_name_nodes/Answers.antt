use Rattle.lis_store.proofs.Common.{◌≡◌, refl, sym, ◌∙◌, true, false, list_any, flat_map, is_built_in, is_head, node_words}
use Rattle.lis_store.proofs.Retagged.{any_of_nodes}
use Rattle.lis_store.proofs.retagging.may_name_nodes.Goals as goal

pub returns-then-has_built_in : goal.returns-then-has_built_in
returns-then-has_built_in c =
    let built : list_any is_built_in (flat_map node_words c.args.nodes.now) ≡ true =
    sym (any_of_nodes is_built_in node_words c.args.nodes.now) ∙ (sym c.has_built_in.ensures ∙ c.if-has_built_in.true) in
    rw built refl

pub returns-then-has_head : goal.returns-then-has_head
returns-then-has_head c =
    let built : list_any is_built_in (flat_map node_words c.args.nodes.now) ≡ false =
    sym (any_of_nodes is_built_in node_words c.args.nodes.now) ∙ (sym c.has_built_in.ensures ∙ c.if-has_built_in.false) in
    let head : list_any is_head (flat_map node_words c.args.nodes.now) ≡ true =
    sym (any_of_nodes is_head node_words c.args.nodes.now) ∙ (sym c.has_head.ensures ∙ c.if-has_head.true) in
    rw (built, head) refl

pub returns : goal.returns
returns c =
    let built : list_any is_built_in (flat_map node_words c.args.nodes.now) ≡ false =
    sym (any_of_nodes is_built_in node_words c.args.nodes.now) ∙ (sym c.has_built_in.ensures ∙ c.if-has_built_in.false) in
    let head : list_any is_head (flat_map node_words c.args.nodes.now) ≡ false =
    sym (any_of_nodes is_head node_words c.args.nodes.now) ∙ (sym c.has_head.ensures ∙ c.if-has_head.false) in
    rw (built, head) refl
