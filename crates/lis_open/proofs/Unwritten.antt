-- What opening leaves if no gate is open.
use Rattle.std.proofs.Common.{◌≡◌, ◌≢◌, ℕ, false, List, Result, Ok, Err, refl, subst, inl, inr}
use Rattle.std.proofs.lemmas.Bool.{both_ways}
use Rattle.lis_ports.specs.Meaning.{Meaning}
use Rattle.lis_ports.specs.Calls.{IsUnchanged}
use Rattle.lis_ports.specs.Runs.{Leaves, IsSettled}
use Rattle.lis_ports.proofs.Moments.{leaves_weaken}
use Rattle.lis_journal.specs.Record.{has_open}
use Rattle.lis_journal.proofs.Recovering.{recovered-closed}
use Rattle.lis_kept.specs.Image.{image_layout}
use Rattle.lis_store.specs.Stored.{Stored}
use Rattle.lis_open.specs.declared.mounting.OpenFault.{OpenFault}
use Rattle.lis_open.specs.declared.mounting.OpenFault.TheVariants.{TooShort, Damaged, DiskFault, NoMemory}
use Rattle.lis_open.specs.Opens.{Recovers, OpenLeft, InOpening, Unwritten, OpenUnwritten}

unchanged_unwritten : {old new : Meaning} → IsUnchanged old new → Unwritten old new
unchanged_unwritten same = record { bytes = same.bytes; images = λ image there. inl (same.images.only image there) }

had_before : (old : Meaning) → has_open old.bytes ≡ false → (image : List ℕ) → InOpening old image → old.images image
had_before old shut image (inl there) = there
had_before old shut image (inr recovering) = absurd (both_ways (has_open old.bytes) shut recovering.2.opened)

module _ {old new : Meaning} (shut : has_open old.bytes ≡ false) where
  recovered_unwritten : Recovers old new → Unwritten old new
  recovered_unwritten at =
      let settled : IsSettled new old.bytes = subst (IsSettled new) (recovered-closed (image_layout at.0) old.bytes shut) at.2 in
      record { bytes = settled.reads; images = λ image there. inr (settled.only image there) }

  left_unwritten : (result : Result Stored OpenFault) → OpenLeft old new result → result ≢ Err DiskFault → Unwritten old new
  left_unwritten (Ok store) left worked = recovered_unwritten left
  left_unwritten (Err (TooShort len need)) left worked = unchanged_unwritten left
  left_unwritten (Err (Damaged spot)) (inl none) worked = unchanged_unwritten none.1
  left_unwritten (Err (Damaged spot)) (inr at) worked = recovered_unwritten at
  left_unwritten (Err DiskFault) left worked = absurd (worked refl)
  left_unwritten (Err NoMemory) left worked = unchanged_unwritten left

pub open_unwritten : {old new : Meaning} (result : Result Stored OpenFault) → OpenLeft old new result → Leaves old new (InOpening old) → has_open old.bytes ≡ false
    → OpenUnwritten old new result
open_unwritten {old} result left moments shut = record {
  left = left_unwritten shut result left;
  moments = leaves_weaken old.images moments (had_before old shut);
}
