-- What memory represents by what a disk keeps, whether changes are held back or not.
use Rattle.lis_store.proofs.Common.{◌≡◌, inr, ℕ, ◌+◌, ◌<◌, ◌==◌, Bool, true, false, cond, List, [], ◌∷◌, length, arith, and_parts, eqb-true, Meaning, looked, are_whole, data_start, State, IsWritten, Tells, HomeBlock}
use Rattle.lis_journal.specs.Images.{look}
use Rattle.lis_journal.proofs.Fitting.{kept_whole}
use Rattle.lis_store.specs.Stored.{Stored, IsSound, StoreFits, StoreHolds}
use Rattle.lis_kept.proofs.Image.{same_blocks, same_homes}

-- by these blocks memory represents the state and is written, and each data block is whole
pub record ToldBy (k : Stored) (s : State) : Type 0 where
  pub kept : ℕ → List ℕ
  pub tells : Tells k.metadata kept s
  pub written : IsWritten k.metadata kept
  pub whole : (b : ℕ) → b < k.metadata.limits.blocks → length (kept (data_start k.metadata.limits + b)) ≡ 4096

-- whole blocks over whole blocks are whole
pub look_whole : (es : List HomeBlock) (n : ℕ) (old : List ℕ) → are_whole es ≡ true → length old ≡ 4096 → length (look es n old) ≡ 4096
look_whole [] n old whole len = len
look_whole (e ∷ es) n old whole len =
    let parts = and_parts (length e.bytes == 4096) (are_whole es) whole in
    look_whole es n (cond (n == e.home) e.bytes old) parts.1 (by (n == e.home) (eqb-true (length e.bytes) 4096 parts.0))
  where
    by : (b : Bool) → length e.bytes ≡ 4096 → length (cond b e.bytes old) ≡ 4096
    by true here = here
    by false here = len

abbrev pub told_fits : (k : Stored) (m : Meaning) (s : State) → IsSound k → StoreFits k m s → ToldBy k s
told_fits k m s sound fits = record {
  kept = fits.kept;
  tells = fits.tells;
  written = fits.written;
  whole = λ b lt. kept_whole k.journal fits.journal (data_start k.metadata.limits + b) (inr (omega (arith, same_homes sound.image))) (omega (arith, lt, same_blocks sound.image));
}

abbrev pub told_held : (k : Stored) (m : Meaning) (base s : State) → IsSound k → StoreHolds k m base s → ToldBy k s
told_held k m base s sound holds = record {
  kept = looked k.journal.staged holds.kept;
  tells = holds.tells;
  written = holds.written;
  whole = λ b lt.
      look_whole k.journal.staged (data_start k.metadata.limits + b) (holds.kept (data_start k.metadata.limits + b)) (sound.whole holds.unbroken)
      (kept_whole k.journal holds.journal (data_start k.metadata.limits + b) (inr (omega (arith, same_homes sound.image))) (omega (arith, lt, same_blocks sound.image)));
}
