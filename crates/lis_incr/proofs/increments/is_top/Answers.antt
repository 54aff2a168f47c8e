use Rattle.std.proofs.Common.{sym, ◌∙◌}
use Rattle.lis_incr.proofs.Tops.{top_is}
use Rattle.lis_incr.proofs.increments.is_top.Goals as goal

pub returns-then-get : goal.returns-then-get
returns-then-get g c = λ test w are there same.
    top_is (g.V.View.seen c.args.view.now) c.requires.kept c.args.marks.now c.taxonomy.result.now c.taxonomy.ensures test are w there c.args.number same (sym c.get.ensures ∙ c.if-get.true) c.leads_to_marked.result c.leads_to_marked.ensures
