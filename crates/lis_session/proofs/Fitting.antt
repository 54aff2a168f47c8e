-- A store that fits a station, and what remains after something is shown.
use Rattle.std.proofs.Common.{sym, ◌∙◌, subst, []}
use Rattle.lis_ports.specs.Meaning.{Meaning}
use Rattle.lis_ports.specs.Calls.{IsShowCall}
use Rattle.lis_ports.proofs.Always.{always_unchanged}
use Rattle.lis_journal.specs.Images.{IsAtRest}
use Rattle.lis_model.specs.State.{State}
use Rattle.lis_store.specs.Stored.{Stored, IsSound, StoreFits}
use Rattle.lis_store.proofs.Standing.{fitting_stands}
use Rattle.lis_session.specs.Item.{FitsAt, IsSameStation}

pub store_fits_at : {k : Stored} {m : Meaning} {state : State} → IsSound k → StoreFits k m state → FitsAt (StoreFits k m) m state
store_fits_at {k} {m} {state} sound fits = record {
  honest = fits.journal.honest;
  stands = fitting_stands m k state sound fits;
  own = fits;
}

-- one call that shows
pub store_shown : {k : Stored} {old new : Meaning} {state : State} → FitsAt (StoreFits k old) old state → IsShowCall old new → FitsAt (StoreFits k new) new state
store_shown {k} fitting call =
    let same = call.same fitting.honest in
    let fits = fitting.own in
    record {
      honest = call.honest ∙ fitting.honest;
      stands = always_unchanged fitting.stands same;
      own = record {
        kept = fits.kept;
        journal = record {
          honest = call.honest ∙ fits.journal.honest;
          reads = subst (IsAtRest k.journal.layout k.journal.records [] fits.kept) (sym same.bytes) fits.journal.reads;
          leaves = λ image is. fits.journal.leaves image (same.images.only image is);
        };
        unbroken = fits.unbroken;
        settled = fits.settled;
        tells = fits.tells;
        written = fits.written;
      };
    }

-- what no call changes of a station
pub same_then : {a b c : Meaning} → IsSameStation a b → IsSameStation b c → IsSameStation a c
same_then first second = record { honest = second.honest ∙ first.honest; len = second.len ∙ first.len; recorded = second.recorded ∙ first.recorded }
