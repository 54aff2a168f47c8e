use Rattle.lis_store.proofs.Common.{sym, ap, is_some, word_from_number}
use Rattle.lis_store.proofs.judging.may_undeclare.Goals as goal

pub is_needed-requires : goal.is_needed-requires
is_needed-requires c =
    ap is_some (word_from_number c.args.metadata.now.dict c.requires.sound.dict c.args.word.now c.in-Some.number (sym c.in-Some.ensures))
