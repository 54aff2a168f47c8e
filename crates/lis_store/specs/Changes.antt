-- How a call that changes a store ends.
use Rattle.std.specs.Prelude.{◌≡◌, ◌⊎◌, ℕ, ◌+◌, ◌≤◌, Bool, true, false, Some, None, Result, Ok, Err, List, [], length, map, sum, MatchResult}
use Rattle.std.specs.List.{range_with_len}
use Rattle.lis_ports.specs.Meaning.{Meaning}
use Rattle.lis_ports.specs.Runs.{IsDiskRun, Leaves}
use Rattle.lis_ports.specs.Calls.{Rose, DiskFaultEnds}
use Rattle.lis_journal.specs.Images.{KeepsPast}
use Rattle.lis_ext.specs.Ext.{Ext, set_of}
use Rattle.lis_ext.specs.Numbers.{differs, numbers_where}
use Rattle.lis_model.specs.declared.refusal.Refusal.{Refusal}
use Rattle.lis_model.specs.Image.{image_blocks}
use Rattle.lis_model.specs.State.{State}
use Rattle.lis_model.specs.Replies.{ok_line}
use Rattle.lis_model.specs.Step.{Situation, Outcome, refused, first_refusal}
use Rattle.lis_store.specs.Stands.{Stands}
use Rattle.lis_store.specs.Stored.{Stored, IsSound, StoreFits, StoreHolds}
use Rattle.lis_store.specs.declared.change_fault.ChangeFault.{ChangeFault}
use Rattle.lis_store.specs.declared.change_fault.ChangeFault.TheVariants.{Refused, Disk}
use Rattle.lis_journal.specs.Journal.{shape_of}

-- a judgement that returns the first refusal of a row that holds, or that none holds
abbrev pub Judges : {T : Type 0} → List (Bool × Refusal) → Result T Refusal → Type 0
Judges checks result = MatchResult result (λ _. first_refusal checks ≡ None) (λ refusal. first_refusal checks ≡ Some refusal)

-- Unless the disk fails, the store fits it after the call: at the new state, or, after a refusal, at the old one.
abbrev pub ChangeEnded : {T : Type 0} → Situation → Outcome → Stored → Meaning → Result T ChangeFault → Type 0
ChangeEnded now outcome new m (Ok done) = (outcome.reply ≡ ok_line) × StoreFits new m outcome.next.state
ChangeEnded now outcome new m (Err (Refused refusal)) = (outcome ≡ refused now refusal) × StoreFits new m now.state
ChangeEnded now outcome new m (Err Disk) = new.is_broken ≡ true

-- The call breaks the store exactly at a fault of the disk, and refuses nothing.
abbrev pub EndsUnrefused : {T : Type 0} → Bool → Result T ChangeFault → Type 0
EndsUnrefused is_broken (Ok done) = is_broken ≡ false
EndsUnrefused is_broken (Err (Refused refusal)) = false ≡ true
EndsUnrefused is_broken (Err Disk) = is_broken ≡ true

-- At each moment in the call the image represents the old state or the new one, and blocks past the image stay.
pub record Changes {T : Type 0} (now : Situation) (outcome : Outcome) (new : Stored) (before after : Meaning) (result : Result T ChangeFault) : Type 0 where
  pub moments : Leaves before after (λ image. Stands image now.state ⊎ Stands image outcome.next.state)
  pub past : KeepsPast (image_blocks now.state.limits) before after
  pub ended : ChangeEnded now outcome new after result

-- ---- changes that are held back
-- Unless the disk fails, memory represents the new state after the call, or, after a refusal, the old one. The images represent the base;
-- if so many blocks were held back that they were committed, they represent the new state.
abbrev pub HeldEnded : {T : Type 0} → State → Situation → Outcome → Stored → Meaning → Result T ChangeFault → Type 0
HeldEnded base now outcome new m (Ok done) =
    (outcome.reply ≡ ok_line) × (StoreHolds new m base outcome.next.state ⊎ StoreHolds new m outcome.next.state outcome.next.state)
HeldEnded base now outcome new m (Err (Refused refusal)) = (outcome ≡ refused now refusal) × StoreHolds new m base now.state
HeldEnded base now outcome new m (Err Disk) = new.is_broken ≡ true

-- At each moment in the call the image represents the base, the old state or the new one, and blocks past the image stay.
pub record Holds {T : Type 0} (base : State) (now : Situation) (outcome : Outcome) (new : Stored) (before after : Meaning) (result : Result T ChangeFault) : Type 0 where
  pub moments : Leaves before after (λ image. (Stands image base ⊎ Stands image now.state) ⊎ Stands image outcome.next.state)
  pub past : KeepsPast (image_blocks base.limits) before after
  pub ended : HeldEnded base now outcome new after result

-- How a commit ends: it refuses nothing.
abbrev pub CommitEnded : {T : Type 0} → State → Stored → Meaning → Result T ChangeFault → Type 0
CommitEnded s new m (Ok done) = StoreFits new m s
CommitEnded s new m (Err (Refused refusal)) = false ≡ true
CommitEnded s new m (Err Disk) = new.is_broken ≡ true

-- All that is held back is committed: at each moment the image represents the base or the state that memory represents.
pub record Commits {T : Type 0} (base s : State) (new : Stored) (before after : Meaning) (result : Result T ChangeFault) : Type 0 where
  pub moments : Leaves before after (λ image. Stands image base ⊎ Stands image s)
  pub past : KeepsPast (image_blocks base.limits) before after
  pub ended : CommitEnded s new after result

-- At Ok the store fits the new state. A refusal leaves all that was held back as it was.
abbrev pub AppliedEnded : {T : Type 0} → State → Situation → Outcome → Stored → Meaning → Result T ChangeFault → Type 0
AppliedEnded base now outcome new m (Ok done) = (outcome.reply ≡ ok_line) × StoreFits new m outcome.next.state
AppliedEnded base now outcome new m (Err (Refused refusal)) = (outcome ≡ refused now refusal) × StoreHolds new m base now.state
AppliedEnded base now outcome new m (Err Disk) = new.is_broken ≡ true

-- A change is made, and committed with all that was held back: at each moment in the call the image represents the base, the old state or
-- the new one, and blocks past the image stay.
pub record Applies {T : Type 0} (base : State) (now : Situation) (outcome : Outcome) (new : Stored) (before after : Meaning) (result : Result T ChangeFault) : Type 0 where
  pub moments : Leaves before after (λ image. (Stands image base ⊎ Stands image now.state) ⊎ Stands image outcome.next.state)
  pub past : KeepsPast (image_blocks base.limits) before after
  pub ended : AppliedEnded base now outcome new after result

-- ---- on any disk
-- What a commit says of a store on any disk.
abbrev pub CommitLeft : {T : Type 0} → Stored → Result T ChangeFault → Type 0
CommitLeft new (Ok done) = (new.is_broken ≡ false) × (new.journal.staged ≡ [])
CommitLeft new (Err (Refused refusal)) = false ≡ true
CommitLeft new (Err Disk) = new.is_broken ≡ true

-- The result is a disk fault only if the count rose. With every other result the count stays.
abbrev pub HasChangeCause : {T : Type 0} → ℕ → ℕ → Result T ChangeFault → Type 0
HasChangeCause before now (Ok done) = now ≡ before
HasChangeCause before now (Err (Refused refusal)) = now ≡ before
HasChangeCause before now (Err Disk) = Rose before now

-- What a change, or a part of one, does to a disk: the first disk fault ends it.
pub record ChangesDisk {T : Type 0} (old new : Meaning) (result : Result T ChangeFault) : Type 0 where
  pub run : IsDiskRun old new
  pub cause : HasChangeCause old.disk_faults new.disk_faults result
  pub first_fault : DiskFaultEnds old new

-- What a result says of a store on any disk: a refusal changes nothing, and a disk fault breaks the store.
abbrev pub ChangeLeft : {T : Type 0} → Stored → Stored → Result T ChangeFault → Type 0
ChangeLeft old new (Ok done) = new.is_broken ≡ false
ChangeLeft old new (Err (Refused refusal)) = new ≡ old
ChangeLeft old new (Err Disk) = new.is_broken ≡ true

-- how many bits of the rows differ
abbrev pub differing_bits : Ext → Ext → ℕ
differing_bits old new =
    sum (map (λ slot. length (numbers_where old.props (differs (set_of old slot) (set_of new slot)))) (range_with_len 0 (length old.sets)))

-- Whatever the result, the count of edits does not fall, and the rows are edited at most as often as bits of them differ.
abbrev pub AreEditsFew : Ext → Ext → Type 0
AreEditsFew old new = (old.edits ≤ new.edits) × (new.edits ≤ old.edits + differing_bits old new)

-- What a change, or a part of one, keeps of a store on any disk, whatever the result.
pub record ChangeKeeps {T : Type 0} (old new : Stored) (result : Result T ChangeFault) : Type 0 where
  pub limits : new.metadata.limits ≡ old.metadata.limits
  -- layout and capacity of the journal
  pub image : shape_of new.journal ≡ shape_of old.journal
  -- a refusal changes nothing, and a disk fault breaks the store
  pub left : ChangeLeft old new result
  -- the count of edits does not fall, and rises by at most the number of bits that differ
  pub edits : AreEditsFew old.metadata.ext new.metadata.ext
  pub sound : IsSound new

-- What every change says at its end, on any disk.
pub record Ends {T : Type 0} (Untouched : Type 0) (old new : Stored) (before after : Meaning) (result : Result T ChangeFault) : Type 0 where
  -- what a refusal leaves of the disk
  pub untouched : (refusal : Refusal) → result ≡ Err (Refused refusal) → Untouched
  -- the store was sound before
  pub entry : IsSound old
  -- the store is sound after it, and of the same image
  pub keeps : ChangeKeeps old new result
  -- the first disk fault ends it
  pub disk : ChangesDisk before after result
