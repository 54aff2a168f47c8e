use Rattle.std.proofs.Common.{sym}
use Rattle.lis_session.proofs.InTurn.{text_none, text_more, text_broke}
use Rattle.lis_session.proofs.Described.{text_start, text_next}
use Rattle.lis_session.proofs.description.answer_words.Goals as goal

pub loop-k-init : goal.loop-k-init
loop-k-init g c = text_none (g.T.Disk.meaning c.args.station.now) (sym (text_start c.args.store.now.metadata c.args.slot))

pub loop-k-preserved : goal.loop-k-preserved
loop-k-preserved g c = text_more c.loop-k.invariant (text_next c.args.store.now.metadata c.args.slot c.loop-k.k) c.in_ok-answer_word.ensures

pub returns-in_err-answer_word : goal.returns-in_err-answer_word
returns-in_err-answer_word g c =
    text_broke _ c.loop-k.invariant (text_next c.args.store.now.metadata c.args.slot c.loop-k.k) c.in_err-answer_word.ensures c.from_residual.ensures.1
