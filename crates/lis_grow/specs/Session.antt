-- Running the session that is made from a number, and showing its summary.
use Rattle.std.specs.Prelude.{◌≡◌, ℕ, ◌+◌, ◌≤◌, ◌<◌, if◌then◌else◌, List, [], ◌∷◌, length, Option, Result, Ok, Err, IfOk}
use Rattle.std.specs.Io.KnownBytes.{append_known}
use Rattle.lis_ports.specs.Meaning.{Meaning}
use Rattle.lis_ports.specs.Runs.{Leaves, Always}
use Rattle.lis_ports.specs.Since.{Begins}
use Rattle.lis_ports.specs.declared.disk.Failed.{Failed}
use Rattle.lis_journal.specs.Images.{KeepsPast}
use Rattle.lis_model.specs.Image.{image_blocks}
use Rattle.lis_model.specs.Script.{all_items}
use Rattle.lis_model.specs.State.{State}
use Rattle.lis_model.specs.Step.{Situation, Item, step, situation_after, free_blocks}
use Rattle.lis_store.specs.Stands.{Stands}
use Rattle.lis_session.specs.declared.end.End.{End}
use Rattle.lis_session.specs.declared.end.End.TheVariants.{DiskFault, OutputFault}
use Rattle.lis_session.specs.Item.{FitsAt}
use Rattle.lis_session.specs.Session.{state_after}
use Rattle.lis_session.specs.Runs.{Goes}
use Rattle.lis_session.specs.Tally.{is_refusal, listed}
use Rattle.lis_grow.specs.Grow.{grow_bytes}
use Rattle.lis_grow.specs.Summary.{summary_text}
use Rattle.lis_grow.specs.declared.summary.Sum.{Sum}

-- the items of the session
unfoldable pub grow_items : ℕ → List Item
grow_items n = all_items (grow_bytes n)

-- how many of these items are refused
abbrev pub refusals : Situation → List Item → ℕ
refusals now [] = 0
refusals now (item ∷ items) = (if is_refusal (step now item).reply then 1 else 0) + refusals (step now item).next items

-- how many lines of words and of files the replies to `ls` among them have
abbrev pub listings : Situation → List Item → ℕ
listings now [] = 0
listings now (item ∷ items) = listed now item + listings (step now item).next items

abbrev pub summary_in : State → ℕ → ℕ → ℕ → List ℕ
summary_in last replies refused lines = summary_text replies refused (length last.files) (length last.axioms) (free_blocks last) lines

-- the summary of these items
abbrev pub summary : Situation → List Item → List ℕ
summary start items = summary_in (situation_after start items).state (length items) (refusals start items) (listings start items)

-- The image represents the state after some first items.
pub record StandsAmong (start : Situation) (items : List Item) (image : List ℕ) : Type 0 where
  pub count : ℕ
  pub within : count ≤ length items
  pub stands : Stands image (state_after step start items count)

-- all items were run, with nothing shown, and this is their sum
pub record SummedAll (start : Situation) (items : List Item) (new : Meaning) (fits : State → Type 0) (sum : Sum) : Type 0 where
  pub fitting : FitsAt fits new (situation_after start items).state
  pub replies : sum.replies ≡ length items
  pub refused : sum.refused ≡ refusals start items
  pub listed : sum.listed ≡ listings start items

-- Items run with nothing shown: their moments, that the blocks past the image stay, and their sum.
pub record Summed (start : Situation) (items : List Item) (old new : Meaning) (result : Result Sum Failed) (fits : State → Type 0) : Type 0 where
  pub moments : Leaves old new (StandsAmong start items)
  pub past : KeepsPast (image_blocks start.state.limits) old new
  pub ended : IfOk result (SummedAll start items new fits)

-- A moment of the session: the image represents the state after some first items, and what was shown is a prefix of the summary. Nothing is
-- shown before all items were run.
pub record GrowMoment (start : Situation) (items : List Item) (image shown : List ℕ) : Type 0 where
  pub count : ℕ
  pub within : count ≤ length items
  pub stands : Stands image (state_after step start items count)
  pub front : Begins shown (summary start items)
  pub quiet : count < length items → shown ≡ []

-- all items were run, and these bytes were shown
pub record GrewAll (start : Situation) (items : List Item) (before : Option (List ℕ)) (new : Meaning) (bytes : List ℕ) : Type 0 where
  pub shown : new.shown ≡ append_known before bytes
  pub stands : Always new (λ image. Stands image (situation_after start items).state)

-- How it ended: the whole summary was shown; or, at a show fault, a prefix of it; or nothing, at a disk fault, after which only the moments
-- say what is on the disk.
abbrev pub GrowEnded : Situation → List Item → Option (List ℕ) → Meaning → Result (Unit {0}) End → Type 0
GrowEnded start items before new (Ok done) = GrewAll start items before new (summary start items)
GrowEnded start items before new (Err OutputFault) = (shown : List ℕ) × Begins shown (summary start items) × GrewAll start items before new shown
GrowEnded start items before new (Err DiskFault) = new.shown ≡ before

-- the session
abbrev pub Grows : Situation → List Item → Meaning → Meaning → Type 0 → Type 0
Grows start items old new end = Goes (GrowMoment start items) start.state.limits old new end
