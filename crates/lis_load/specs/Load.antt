-- What a stop may leave of a load, and how it ends. The items of an input are run as in a session, with many changes in one commit.
use Rattle.std.specs.Prelude.{◌≡◌, ℕ, ◌-◌, ◌≤◌, List, length, Option}
use Rattle.std.specs.Io.KnownBytes.{append_known}
use Rattle.lis_ports.specs.Meaning.{Meaning}
use Rattle.lis_ports.specs.Runs.{Always}
use Rattle.lis_ports.specs.Since.{Begins, Since}
use Rattle.lis_line.specs.declared.carrier.Halt.{Halt}
use Rattle.lis_line.specs.declared.carrier.Halt.TheVariants.{End as AtEnd, Limit, InputFault, Stopped}
use Rattle.lis_model.specs.Script.{script, session_cut}
use Rattle.lis_model.specs.Step.{Situation, Item, step}
use Rattle.lis_store.specs.Stands.{Stands}
use Rattle.lis_session.specs.declared.end.End.{End}
use Rattle.lis_session.specs.declared.end.End.TheVariants.{DiskFault, OutputFault}
use Rattle.lis_session.specs.Session.{out, state_after, EachMoment}
use Rattle.lis_session.specs.Runs.{Goes, CarriedAll, CarriedToLimit, CarriedWhole}

-- how many replies may wait, that of the command which is being run among them
abbrev pub lag : ℕ
lag = 256

module _ (start : Situation) (items : List Item) where
  -- The image represents the state after some first items. What was shown is a prefix of their replies, and at most `lag` of these items
  -- have replies that were not shown whole.
  pub record LoadMoment (image shown : List ℕ) : Type 0 where
    pub count : ℕ
    pub within : count ≤ length items
    pub stands : Stands image (state_after step start items count)
    pub no_more : Begins shown (out step start items count)
    pub no_less : Begins (out step start items (count - lag)) shown

  -- at a show fault: what was shown, with the bytes as they read and with each image, is a moment of the load
  pub record LoadStopsAt (before : Option (List ℕ)) (new : Meaning) : Type 0 where
    pub bytes : List ℕ
    pub shown : new.shown ≡ append_known before bytes
    pub moment : Always new (λ image. LoadMoment image bytes)

  -- after a disk fault only the moments say what is on the disk
  abbrev pub LoadStopped : Option (List ℕ) → Meaning → End → Type 0
  LoadStopped before new DiskFault = Unit {0}
  LoadStopped before new OutputFault = LoadStopsAt before new

  -- a load
  abbrev pub Loads : Meaning → Meaning → Type 0 → Type 0
  Loads old new end = Goes LoadMoment start.state.limits old new end

  -- without an opening, and without an exception
  abbrev pub FullLoadHeadline : Meaning → Meaning → Type 0
  FullLoadHeadline old new = EachMoment old new (Since old.shown LoadMoment)

-- How it ended, if the source had these bytes left at the start: as a session ends, with all replies shown, unless there was a fault in an
-- item or in what was held back.
abbrev pub LoadServed : Situation → ℕ → List ℕ → Option (List ℕ) → Option (List ℕ) → Meaning → Halt End → Type 0
LoadServed start limit bytes left before new AtEnd = CarriedAll step session_cut start limit bytes left before new
LoadServed start limit bytes left before new Limit = CarriedToLimit step session_cut start limit bytes before new
LoadServed start limit bytes left before new InputFault = CarriedWhole step session_cut start limit bytes left before new
LoadServed start limit bytes left before new (Stopped fault) = LoadStopped start (script bytes limit) before new fault
