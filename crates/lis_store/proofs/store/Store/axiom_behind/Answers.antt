use Rattle.lis_store.proofs.Common.{ap, ◌∙◌, find, Metadata, axioms_of}
use Rattle.std.specs.Option.{option_map}
use Rattle.lis_kept.specs.Behind.{rights_of, is_behind}
use Rattle.lis_store.proofs.store.Store.axiom_behind.Goals as goal

pub returns : goal.returns
returns c =
    c.axiom_behind.ensures ∙ ap (λ (k : Metadata). find (is_behind (option_map (λ w. w.now) c.args.last)) (rights_of (axioms_of k) c.args.left.now)) c.metadata.ensures.value
