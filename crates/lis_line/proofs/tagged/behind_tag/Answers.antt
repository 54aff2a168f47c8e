use Rattle.std.proofs.Common.{drop, ap, ◌∙◌}
use Rattle.lis_model.specs.Script.{line_words}
use Rattle.lis_line.proofs.Rooms.{tag_fits, words_behind}
use Rattle.lis_line.proofs.tagged.behind_tag.Goals as goal

pub split_at-requires : goal.split_at-requires
split_at-requires c = rw c.after_blanks.ensures.text (tag_fits c.args.line.now c.requires)

pub returns-clause-words : goal.returns-clause-words
returns-clause-words c = λ word words is.
    ap line_words (c.split_at.ensures.back ∙ ap (drop 2) c.after_blanks.ensures.text) ∙ words_behind c.args.line.now word words c.requires is
