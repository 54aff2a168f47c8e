-- What is shown of an item after its change is made.
use Rattle.std.proofs.Common.{◌≡◌, ℕ, List, [], Result, Ok, Err, ap, sym, subst}
use Rattle.lis_ports.specs.Meaning.{Meaning}
use Rattle.lis_model.specs.State.{State, known}
use Rattle.lis_model.specs.Replies.{ok_line, refusal_line}
use Rattle.lis_model.specs.Step.{Situation, Outcome}
use Rattle.lis_dict.specs.Dict.{words}
use Rattle.lis_store.specs.declared.change_fault.ChangeFault.{ChangeFault}
use Rattle.lis_store.specs.declared.change_fault.ChangeFault.TheVariants.{Refused, Disk}
use Rattle.lis_store.specs.Stored.{Stored, IsSound, StoreFits}
use Rattle.lis_store.specs.Changes.{Changes}
use Rattle.lis_store.proofs.StoreSays.{known_told}
use Rattle.lis_session.specs.declared.end.End.{End}
use Rattle.lis_session.specs.declared.end.End.TheVariants.{DiskFault}
use Rattle.lis_session.specs.Item.{OneItem}
use Rattle.lis_session.specs.Parts.{Concludes, kept_up}
use Rattle.lis_session.specs.Tally.{quiet}
use Rattle.lis_session.proofs.Fitting.{store_fits_at}
use Rattle.lis_session.proofs.Saying.{quiet_broke, quiet_done, item_shows}

-- a store that fits has the words of the state
pub words_known : {k : Stored} {m : Meaning} (state : State) → IsSound k → StoreFits k m state → known state ≡ words k.metadata.dict
words_known {k} state sound fits = sym (known_told k.metadata fits.kept state sound.metadata sound.free fits.tells)

-- ---- changes
module _ {k : Stored} {old : Meaning} {now : Situation} {outcome : Outcome} (stays : outcome.next.place ≡ now.place) (sound : IsSound k) where
  -- what a change of the store gives, before its reply is shown
  pub changed_item : {mid : Meaning} (changed : Result (Unit {0}) ChangeFault) → Changes now outcome k old mid changed → OneItem now (quiet outcome) old mid (kept_up changed) (StoreFits k mid) now.place
  changed_item (Ok u) changes = quiet_done changes.moments changes.past (store_fits_at sound changes.ended.1) (sym stays)
  changed_item {mid} (Err (Refused refusal)) changes =
      quiet_done changes.moments changes.past (store_fits_at sound (subst (λ (o : Outcome). StoreFits k mid o.next.state) (sym changes.ended.0) changes.ended.1)) (sym stays)
  changed_item {mid} (Err Disk) changes = quiet_broke changes.moments changes.past [] (StoreFits k mid) now.place

  -- and after it is shown
  pub change_item : {D : Type 0} {result : Result (Unit {0}) End} (meaning : D → Meaning) (mid new : D) (changed : Result (Unit {0}) ChangeFault) → Changes now outcome k old (meaning mid) changed
      → Concludes meaning mid new changed result → OneItem now outcome old (meaning new) result (StoreFits k (meaning new)) now.place
  change_item {result = result} meaning mid new changed changes ends = by changed changes ends
    where
      answered : (reply : List ℕ) → outcome.reply ≡ reply → OneItem now (record { next = outcome.next; reply = reply }) old (meaning new) result (StoreFits k (meaning new)) now.place
          → OneItem now outcome old (meaning new) result (StoreFits k (meaning new)) now.place
      answered reply is item = subst (λ r. OneItem now (record { next = outcome.next; reply = r }) old (meaning new) result (StoreFits k (meaning new)) now.place) (sym is) item

      by : (changed : Result (Unit {0}) ChangeFault) → Changes now outcome k old (meaning mid) changed → Concludes meaning mid new changed result
          → OneItem now outcome old (meaning new) result (StoreFits k (meaning new)) now.place
      by (Ok u) changes answers = answered ok_line changes.ended.0 (item_shows result (changed_item (Ok u) changes) answers)
      by (Err (Refused refusal)) changes answers =
          answered (refusal_line refusal) (ap (λ (o : Outcome). o.reply) changes.ended.0) (item_shows result (changed_item (Err (Refused refusal)) changes) answers)
      by (Err Disk) changes ends =
          subst (λ r. OneItem now outcome old (meaning new) r (StoreFits k (meaning new)) now.place) (sym ends.1)
          (subst (λ d. OneItem now outcome old (meaning d) (Err DiskFault) (StoreFits k (meaning d)) now.place) (sym ends.0) (quiet_broke changes.moments changes.past outcome.reply (StoreFits k (meaning mid)) now.place))
