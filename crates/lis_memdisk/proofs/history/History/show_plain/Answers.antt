use Rattle.std.proofs.Common.{arith, sym, ◌∙◌}
use Rattle.std.proofs.lemmas.Bool.{false≢true}
use Rattle.lis_memdisk.proofs.Stored.{stored-more}
use Rattle.lis_memdisk.proofs.history.History.show_plain.Goals as goal

pub invariant_of-self-clause-stored : goal.invariant_of-self-clause-stored
invariant_of-self-clause-stored c = stored-more _ _ _ _ c.args.self.now.events.items (omega arith) (omega arith) c.args.self.now.stored

pub invariant_of-self-clause-sound : goal.invariant_of-self-clause-sound
invariant_of-self-clause-sound c = λ kept. absurd (false≢true (sym c.requires.plain ∙ kept))
