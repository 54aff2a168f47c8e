-- How a session over a plain state ends.
use Rattle.std.specs.Prelude.{◌≡◌, ℕ, ◌<◌, ◌≤◌, List, ◌∷◌, ◌++◌, length, Option, Some}
use Rattle.std.specs.Io.KnownBytes.{append_known, Consumes, IsAtEnd}
use Rattle.lis_ports.specs.Shown.{AppendsFront}
use Rattle.lis_model.specs.Step.{Situation, Item, step, replies, situation_after}
use Rattle.lis_model.specs.Script.{script, whole_items}
use Rattle.lis_line.specs.declared.carrier.Halt.{Halt}
use Rattle.lis_line.specs.declared.carrier.Halt.TheVariants.{End as AtEnd, Limit as AtLimit, InputFault as AtFault, Stopped}
use Rattle.lis_open.specs.declared.mounting.OpenFault.TheVariants.{NoMemory}
use Rattle.lis_session.specs.declared.end.End.TheVariants.{OutputFault}
use Rattle.lis_plain.specs.declared.end.PlainEnd.{PlainEnd}
use Rattle.lis_plain.specs.declared.end.PlainEnd.TheVariants.{OutputFault as ShowFailed, NoMemory as NoRoom}
use Rattle.lis_shell.specs.declared.status.Status.{Status}
use Rattle.lis_shell.specs.declared.status.Status.TheVariants.{Opening, Ended}

-- Of the bytes taken, none of which is past the limit, the items that are whole were run, and their replies were shown.
pub record ShowsWhole (start : Situation) (limit : ℕ) (bytes : List ℕ) (left before now : Option (List ℕ)) (end : Situation) : Type 0 where
  pub taken : List ℕ
  pub consumed : Consumes (Some bytes) left taken
  pub within : length taken ≤ limit
  pub shown : now ≡ append_known before (replies start (whole_items taken))
  pub at : end ≡ situation_after start (whole_items taken)

-- Some first items were run, and their whole replies were shown.
pub record ShowsFirst (start : Situation) (items : List Item) (before now : Option (List ℕ)) (end : Situation) : Type 0 where
  pub first : List Item
  pub others : List Item
  pub all : items ≡ first ++ others
  pub shown : now ≡ append_known before (replies start first)
  pub at : end ≡ situation_after start first

-- Some first items and the item after them were run. The whole replies to the first items were shown, and a prefix of the reply to that
-- item.
pub record ShowsFront (start : Situation) (items : List Item) (before now : Option (List ℕ)) (end : Situation) : Type 0 where
  pub first : List Item
  pub item : Item
  pub others : List Item
  pub all : items ≡ first ++ item ∷ others
  pub shown : AppendsFront (append_known before (replies start first)) now (step (situation_after start first) item).reply
  pub at : end ≡ (step (situation_after start first) item).next

-- what was shown and where the session ended, by the status, if the source had these bytes left at the start
abbrev pub Tries : Situation → ℕ → List ℕ → Option (List ℕ) → Option (List ℕ) → Option (List ℕ) → Situation → Status → Type 0
Tries start limit bytes left before now end (Ended AtEnd) =
    (length bytes ≤ limit) × IsAtEnd left × (now ≡ append_known before (replies start (script bytes limit))) × (end ≡ situation_after start (script bytes limit))
Tries start limit bytes left before now end (Ended AtLimit) =
    (limit < length bytes) × (now ≡ append_known before (replies start (script bytes limit))) × (end ≡ situation_after start (script bytes limit))
Tries start limit bytes left before now end (Ended AtFault) = ShowsWhole start limit bytes left before now end
Tries start limit bytes left before now end (Ended (Stopped OutputFault)) = ShowsFront start (script bytes limit) before now end
Tries start limit bytes left before now end (Opening NoMemory) = ShowsFirst start (script bytes limit) before now end
Tries start limit bytes left before now end status = ⊥

-- the status by how its items ended, as for a session over an image; out of memory is a status of the opening, whenever it happens
abbrev pub try_status : Halt PlainEnd → Status
try_status AtEnd = Ended AtEnd
try_status AtLimit = Ended AtLimit
try_status AtFault = Ended AtFault
try_status (Stopped ShowFailed) = Ended (Stopped OutputFault)
try_status (Stopped NoRoom) = Opening NoMemory
