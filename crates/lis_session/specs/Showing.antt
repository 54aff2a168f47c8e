-- Texts of a state that are shown.
use Rattle.std.specs.Prelude.{ℕ, List, [], Result, IsTrue}
use Rattle.lis_ports.specs.Calls.{IsUnchanged}
use Rattle.lis_ports.specs.Meaning.{Meaning}
use Rattle.lis_ports.specs.Runs.{Adds}
use Rattle.lis_grammar.specs.Formula.{Formula}
use Rattle.lis_model.specs.State.{State}
use Rattle.lis_store.specs.Stored.{Stored, StoreFits}
use Rattle.lis_session.specs.declared.end.End.{End}
use Rattle.lis_session.specs.Item.{Does}
use Rattle.lis_session.specs.Parts.{only_shows, Ends}

-- The disk is only read: the bytes stay, and a crash leaves what it could have left before, at each moment too.
pub record DiskStays (old new : Meaning) : Type 0 where
  pub same : IsUnchanged old new
  pub moments : Adds old new (λ image bytes. old.images image)

-- A text of the state is shown, as in running an item that changes nothing, whichever state fits; how that ends on any station; and an
-- honest disk is only read.
pub record Shows (k : Stored) (text : State → List ℕ) (old new : Meaning) (result : Result (Unit {0}) End) : Type 0 where
  pub shows : Does {P = List Formula} (λ now. only_shows (text now.state) now) (StoreFits k old) [] old new result (StoreFits k new) []
  pub ends : Ends old new result
  pub disk : IsTrue old.is_honest → DiskStays old new
