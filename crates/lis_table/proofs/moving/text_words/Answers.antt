use Rattle.std.proofs.Common.{◌∙◌}
use Rattle.std.proofs.lemmas.Result.{IfOk-weaker}
use Rattle.lis_formula.proofs.TextWords.{path_named, none_named}
use Rattle.lis_table.proofs.moving.text_words.Goals as goal

pub returns-in-Ok : goal.returns-in-Ok
returns-in-Ok c =
    IfOk-weaker c.named_words.result _ _
    (λ words told place new leads. told
    ∙ path_named c.args.text.now c.in-Ok.path.rooted c.in-Ok.path.place c.nodes.result.now c.in-Ok.ensures.computes c.nodes.ensures.nodes)
    c.named_words.ensures

pub returns-in-Err : goal.returns-in-Err
returns-in-Err c place new leads = c.new.ensures.items ∙ none_named place new c.args.text.now c.in-Err.field-0 c.in-Err.ensures.computes leads
