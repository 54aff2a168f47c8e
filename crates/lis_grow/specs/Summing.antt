-- A session that is run with nothing shown: what it has become since a start, and the sum of its replies. No public clause cites this
-- module.
use Rattle.std.specs.Prelude.{◌≡◌, ℕ, ◌+◌, ◌*◌, ◌^◌, ◌<◌, List, [], ◌∷◌, ◌++◌, Result, Ok, Err, IfOk, false}
use Rattle.lis_limits.specs.declared.TheConstants.{V3_MAX_FILES, V3_MAX_PROPS}
use Rattle.lis_ports.specs.Meaning.{Meaning}
use Rattle.lis_ports.specs.Calls.{UsesDisk}
use Rattle.lis_ports.specs.declared.disk.Failed.{Failed}
use Rattle.lis_model.specs.State.{State}
use Rattle.lis_model.specs.Step.{Item, situation_after}
use Rattle.lis_store.specs.Stored.{IsSound, IsUsable, StoreFits}
use Rattle.lis_session.specs.Item.{FitsAt}
use Rattle.lis_session.specs.Served.{situation_at}
use Rattle.lis_session.specs.Session.{Situated}
use Rattle.lis_grow.specs.Session.{Summed}
use Rattle.lis_grow.specs.declared.summary.Sum.{Sum}
use Rattle.lis_journal.specs.Journal.{shape_of}

-- The session can continue, and this many more replies can be summed: none lists more than 12,288 words and files.
pub record CanSum (session : Situated) (sum : Sum) (m : Meaning) (more : ℕ) : Type 0 where
  pub sound : IsSound session.store
  pub usable : IsUsable session.store m
  pub replies : sum.replies + more < 2 ^ 32
  pub refused : sum.refused + more < 2 ^ 32
  pub listed : sum.listed + (V3_MAX_FILES + V3_MAX_PROPS) * more < 2 ^ 64

-- Since the start these items were run, from any state that fitted then; or all but the last one, in which a disk call failed.
pub record SumsTo (start : Situated) (entry : Meaning) (items : List Item) (now : Situated) (m : Meaning) (result : Result Sum Failed) : Type 0 where
  pub limits : now.store.metadata.limits ≡ start.store.metadata.limits
  pub image : shape_of now.store.journal ≡ shape_of start.store.journal
  pub unbroken : IfOk result (λ sum. now.store.is_broken ≡ false)
  pub sound : IsSound now.store
  pub disk : UsesDisk entry m result
  pub at : (state : State) → FitsAt (StoreFits start.store entry) entry state → IfOk result (λ sum. now.place ≡ (situation_after (situation_at start state) items).place)
  pub summed : (state : State) → FitsAt (StoreFits start.store entry) entry state → Summed (situation_at start state) items entry m result (StoreFits now.store m)

abbrev pub Sums : Situated → Meaning → List Item → Situated → Sum → Meaning → Type 0
Sums start entry first now sum m = SumsTo start entry first now m (Ok sum)

abbrev pub SumsInto : Situated → Meaning → List Item → Item → Situated → Meaning → Type 0
SumsInto start entry first item now m = SumsTo start entry (first ++ item ∷ []) now m (Err (record {}))
