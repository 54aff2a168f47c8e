use Rattle.lis_kept.proofs.Common.{Some, ap, ◌∙◌}
use Rattle.lis_kept.proofs.HeadEdges.{not_refused}
use Rattle.lis_kept.proofs.words.link_head.Goals as goal

pub unreachable-requires : goal.unreachable-requires
unreachable-requires c =
    not_refused c.args.taxonomy.now c.args.number c.in-Some.head _ c.add.result c.in_default-add.is c.add.ensures.present c.add.ensures.cycle c.add.ensures.not_absent
    (rw c.in-Some.is at c.requires.to) c.requires.from (λ e. c.requires.apart (c.in-Some.is ∙ ap Some e))
