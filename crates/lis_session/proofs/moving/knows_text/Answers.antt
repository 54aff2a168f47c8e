use Rattle.lis_dict.specs.Dict.{words}
use Rattle.lis_formula.proofs.TextWords.{words_of_path, no_words}
use Rattle.lis_session.proofs.moving.knows_text.Goals as goal

pub returns-in-Ok : goal.returns-in-Ok
returns-in-Ok c place new leads =
    words_of_path (words c.args.store.now.metadata.dict) c.args.text.now c.in-Ok.path.rooted c.in-Ok.path.place c.nodes.result.now c.are_known.result
    c.in-Ok.ensures.computes c.nodes.ensures.nodes c.are_known.ensures

pub returns-in-Err : goal.returns-in-Err
returns-in-Err c place new leads = no_words (words c.args.store.now.metadata.dict) place new c.args.text.now c.in-Err.field-0 c.in-Err.ensures.computes leads
