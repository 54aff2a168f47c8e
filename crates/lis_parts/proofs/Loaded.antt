-- The bytes of a file, read block by block into a payload.
use Rattle.std.proofs.Common.{◌≡◌, ℕ, ◌+◌, ◌-◌, ◌*◌, ◌<◌, ◌≤◌, min, Option, Some, None, IsSomeAnd, List, [], ◌∷◌, length, take, Result, Ok, Err, refl, ap, subst, ◌∙◌, arith, le-leb}
use Rattle.std.proofs.lemmas.List.{length-take-le, take_all}
use Rattle.lis_ports.specs.Meaning.{Meaning}
use Rattle.lis_ports.specs.Calls.{HasCause, ReadsDisk}
use Rattle.lis_ports.proofs.OnlyReading.{reads_then}
use Rattle.lis_ports.proofs.Ending.{ends_then}
use Rattle.lis_catalog.specs.Catalog.{slot_of, rec_at}
use Rattle.lis_fields.specs.Records.{FileRecord}
use Rattle.lis_fields.proofs.Parts.{size_fits}
use Rattle.lis_model.specs.State.{State}
use Rattle.lis_model.specs.Changes.{file_of}
use Rattle.lis_model.specs.Step.{Payload, no_payload}
use Rattle.lis_model.specs.Script.{payload_limit}
use Rattle.lis_line.specs.Segments.{with_bytes}
use Rattle.lis_kept.proofs.Dropped.{record_in_form}
use Rattle.lis_store.specs.Stored.{Stored, IsSound, StoreFits}
use Rattle.lis_cuts.specs.Returns.{Holds}
use Rattle.lis_cuts.proofs.Pouring.{held_more}
use Rattle.lis_session.specs.declared.end.End.{End}
use Rattle.lis_session.specs.declared.end.End.TheVariants.{DiskFault}
use Rattle.lis_session.specs.Item.{FitsAt}
use Rattle.lis_session.specs.Parts.{Ends, Answers}
use Rattle.lis_session.specs.Showing.{Shows}
use Rattle.lis_session.proofs.Blocks.{size_is, block_is, block_item, block_broke, block_more, first_blocks, block_of}
use Rattle.lis_session.proofs.DiskKept.{reads_stay}
use Rattle.lis_session.proofs.InTurn.{answers_none}
use Rattle.lis_session.proofs.Shown.{as_shown, shown_same, shown_then, shown_front}

-- ---- what reads do
-- A run that only reads, and how it ends.
pub record Reading {E : Type 0} (k : Stored) (old new : Meaning) (result : Result (Unit {0}) E) : Type 0 where
  pub disk : ReadsDisk old new result
  pub fits : (s : State) → StoreFits k old s → StoreFits k new s

pub reading_then : {E : Type 0} {k : Stored} {a b c : Meaning} (u : Unit {0}) (result : Result (Unit {0}) E) → Reading {E = E} k a b (Ok u) → Reading k b c result → Reading k a c result
reading_then {c = c} u result first second = record {
  disk = record {
    reads = reads_then first.disk.reads second.disk.reads;
    cause = subst (λ n. HasCause n c.disk_faults result) first.disk.cause.stays second.disk.cause;
    first_fault = ends_then first.disk.first_fault first.disk.cause.stays second.disk.first_fault;
  };
  fits = λ s fits. second.fits s (first.fits s fits);
}

-- how an item ends of which this is a part
abbrev pub as_end : {E : Type 0} → Result (Unit {0}) E → Result (Unit {0}) End
as_end (Ok done) = Ok tt
as_end (Err failed) = Err DiskFault

reading_ends : {E : Type 0} {k : Stored} {old new : Meaning} (result : Result (Unit {0}) E) → Reading k old new result → Ends old new (as_end result)
reading_ends (Ok u) reading =
    let run = reading.disk.reads.run in
    record { cause = (reading.disk.cause.stays, run.show_faults); first_fault = reading.disk.first_fault.ends; same = record { honest = run.honest; len = run.len; recorded = run.recorded } }
reading_ends (Err e) reading =
    let run = reading.disk.reads.run in
    record { cause = (reading.disk.cause.rose, run.show_faults); first_fault = reading.disk.first_fault.ends; same = record { honest = run.honest; len = run.len; recorded = run.recorded } }

-- Nothing is shown when a file is loaded.
pub load_shows : {E : Type 0} {k : Stored} {old new : Meaning} (result : Result (Unit {0}) E) → Reading k old new result → Shows k (λ state. []) old new (as_end result)
load_shows {new = new} (Ok u) reading = record {
  shows = λ state fitting. block_item [] fitting (reading.disk.reads.moments fitting.honest) (reading.disk.reads.same fitting.honest) (Ok tt) (reading.fits state fitting.own) (answers_none new);
  ends = reading_ends (Ok u) reading;
  disk = reads_stay reading.disk.reads;
}
load_shows (Err e) reading = record {
  shows = λ state fitting. block_broke [] fitting (reading.disk.reads.moments fitting.honest) (reading.disk.reads.same fitting.honest);
  ends = reading_ends (Err e) reading;
  disk = reads_stay reading.disk.reads;
}

-- A text that is made from the file's bytes: the file could not be loaded, or it was loaded and then the text is shown.
module _ {E : Type 0} {k : Stored} {a b : Meaning} (text : State → List ℕ) where
  pub loaded_broke : (failed : E) → Reading k a b (Err failed) → Shows k text a b (Err DiskFault)
  loaded_broke failed reading = shown_front (λ state. []) text DiskFault (load_shows (Err failed) reading)

  pub loaded_then : {c : Meaning} {result : Result (Unit {0}) End} {bytes : List ℕ} (u : Unit {0}) → Reading {E = E} k a b (Ok u) → ((state : State) → FitsAt (StoreFits k a) a state → bytes ≡ text state) → Answers b c bytes result
      → Shows k text a c result
  loaded_then {result = result} {bytes} u reading same answers =
      shown_same text same (shown_then (λ state. []) (λ state. bytes) u result (load_shows (Ok u) reading) (as_shown answers))

-- ---- the bytes
abbrev pub HasSize : Stored → ℕ → ℕ → Type 0
HasSize k slot size = IsSomeAnd (rec_at k.metadata.catalog slot) (λ (rec : FileRecord). size ≡ rec.size)

-- all bytes of each file fit in a payload
pub size_within : {k : Stored} (slot size : ℕ) → IsSound k → HasSize k slot size → size ≤ payload_limit
size_within {k} slot size sound told = by (rec_at k.metadata.catalog slot) refl told
  where
    by : (o : Option FileRecord) → rec_at k.metadata.catalog slot ≡ o → IsSomeAnd o (λ (rec : FileRecord). size ≡ rec.size) → size ≤ payload_limit
    by None is told = absurd told
    by (Some rec) is told =
        let form = record_in_form k.metadata.limits k.metadata.dict k.metadata.limits.blocks rec (sound.metadata.records slot rec is) in
        omega (arith, told, size_fits k.metadata.limits rec.size form.small)

-- The first blocks of a file are in the payload.
pub record IsLoaded (k : Stored) (slot size n : ℕ) (old : Meaning) (payload : Payload) : Type 0 where
  pub so_far : payload.size ≡ min size (4096 * n)
  pub front : (s : State) (name : List ℕ) → StoreFits k old s → slot_of k.metadata.catalog name ≡ Some slot → Holds payload (first_blocks n (file_of s.files name).bytes)

pub loaded_none : (k : Stored) (slot size : ℕ) (old : Meaning) (payload : Payload) → payload ≡ no_payload → IsLoaded k slot size 0 old payload
loaded_none k slot size old payload is = record { so_far = ap (λ (p : Payload). p.size) is ∙ omega arith; front = λ s name fits is_slot. is ∙ none (file_of s.files name).bytes }
  where
    none : (bytes : List ℕ) → Holds no_payload (first_blocks 0 bytes)
    none [] = refl
    none (b ∷ bytes) = refl

-- this much of a block is a block of the file
abbrev pub IsBlock : Stored → ℕ → ℕ → Meaning → List ℕ → Type 0
IsBlock k slot n old buf =
    (s : State) (name : List ℕ) → StoreFits k old s → slot_of k.metadata.catalog name ≡ Some slot → take (length (block_of n (file_of s.files name).bytes)) buf ≡ block_of n (file_of s.files name).bytes

module _ {k : Stored} (slot size n : ℕ) {old : Meaning} {payload : Payload} (sound : IsSound k) (told : HasSize k slot size) (loaded : IsLoaded k slot size n old payload) where
  pub loaded_more : {longer : Payload} (buf : List ℕ) (count : ℕ) → 4096 * n < size → length buf ≡ 4096 → count ≡ min (size - 4096 * n) 4096 → IsBlock k slot n old buf
      → longer ≡ with_bytes payload (take count buf) → IsLoaded k slot size (n + 1) old longer
  loaded_more {longer} buf count within whole is read appended = record {
    so_far =
        let more : longer.size ≡ payload.size + length (take count buf) = ap (λ (p : Payload). p.size) appended in
        omega (arith, more, loaded.so_far, length-take-le count buf (omega (arith, is, whole)), is, within);
    front = λ s name fits is_slot.
        let bytes = (file_of s.files name).bytes in
        let len = size_is name slot size sound fits is_slot told in
        let block = block_is bytes buf n size count len is (read s name fits is_slot) in
        subst (λ xs. Holds longer xs) (block_more n bytes)
        (held_more payload longer (first_blocks n bytes) (block_of n bytes) (loaded.front s name fits is_slot) (appended ∙ ap (with_bytes payload) block));
  }

  pub loaded_all : size ≤ 4096 * n → (s : State) (name : List ℕ) → StoreFits k old s → slot_of k.metadata.catalog name ≡ Some slot → payload.bytes ≡ (file_of s.files name).bytes
  loaded_all enough s name fits is_slot =
      let bytes = (file_of s.files name).bytes in
      let len = size_is name slot size sound fits is_slot told in
      let within = size_within slot size sound told in
      let held = subst (λ xs. Holds payload xs) (take_all (4096 * n) bytes (omega (arith, len, enough))) (loaded.front s name fits is_slot) in
      ap (λ (p : Payload). p.bytes) held ∙ rw (le-leb (length bytes) payload_limit (omega (arith, len, within))) refl
