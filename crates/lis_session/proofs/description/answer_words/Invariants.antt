use Rattle.std.specs.List.{flat_map}
use Rattle.lis_model.specs.Replies.{body_line}
use Rattle.lis_session.specs.Described.{words_had}
use Rattle.lis_session.proofs.InTurn.{TextSoFar}
use Rattle.lis_session.proofs.Described.{text_from}
use Rattle.lis_session.proofs.description.answer_words.Given as goal

abbrev pub invariant-loop-k : goal.invariant-loop-k
invariant-loop-k g l =
    TextSoFar (flat_map (body_line 112) (words_had l.store.metadata l.slot l.store.metadata.dict.entries)) (text_from l.store.metadata l.slot l.k)
    (g.T.Disk.meaning l.fn.station) (g.T.Disk.meaning l.station)
