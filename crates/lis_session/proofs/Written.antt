-- The change of a store that a command requests.
use Rattle.std.proofs.Common.{◌≡◌, List, Result, subst}
use Rattle.lis_ports.specs.Meaning.{Meaning}
use Rattle.lis_grammar.specs.Formula.{Formula}
use Rattle.lis_model.specs.Step.{Situation, Outcome}
use Rattle.lis_store.specs.declared.change_fault.ChangeFault.{ChangeFault}
use Rattle.lis_store.specs.declared.write.Write.{Write}
use Rattle.lis_store.specs.Changes.{Changes, Holds}
use Rattle.lis_store.specs.Stored.{Stored}
use Rattle.lis_store.specs.Writes.{written}
use Rattle.lis_session.specs.Parts.{Makes, MakesHeld}

module _ (write : Write) {outcome : Situation → Outcome} (is : (now : Situation) → written now write ≡ outcome now) {place : List Formula} {old new : Stored} {before after : Meaning} {changed : Result (Unit {0}) ChangeFault} where
  pub makes_written : Makes (λ now. written now write) place old new before after changed → Makes outcome place old new before after changed
  makes_written makes = λ state fits.
      let now : Situation = record { state = state; place = place } in
      subst (λ (o : Outcome). Changes now o new before after changed) (is now) (makes state fits)

  pub holds_written : MakesHeld (λ now. written now write) place old new before after changed → MakesHeld outcome place old new before after changed
  holds_written holds = λ base state held.
      let now : Situation = record { state = state; place = place } in
      subst (λ (o : Outcome). Holds base now o new before after changed) (is now) (holds base state held)
