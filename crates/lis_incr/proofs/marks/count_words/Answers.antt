use Rattle.std.proofs.Common.{◌∙◌}
use Rattle.lis_incr.proofs.Found.{split_by}
use Rattle.lis_incr.proofs.marks.count_words.Goals as goal

pub returns : goal.returns
returns g c =
    let v = g.V.View.seen c.args.view.now in
    split_by v c.ext.ensures.kept c.args.found.now c.requires.found c.ext.result.now c.ext.ensures.told c.count_among.new.counts c.count_among.result (c.count_among.auto.counts ∙ c.requires.room) c.count_among.ensures.counts c.count_among.ensures.found
