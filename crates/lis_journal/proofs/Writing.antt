-- Writing all staged blocks, one disk call after another.
use Rattle.std.proofs.Common.{◌≡◌, ℕ, zero, suc, ◌+◌, ◌*◌, ◌<◌, ◌≤◌, ◌==◌, List, [], ◌∷◌, ◌++◌, length, get_or, take, IsTrue, refl, sym, ◌∙◌, ap, subst, arith}
use Rattle.std.specs.List.{list_all}
use Rattle.std.proofs.lemmas.Bool.{and_parts, eqb-true}
use Rattle.std.proofs.lemmas.List.{take_more, take_all}
use Rattle.lis_ports.specs.Meaning.{Meaning}
use Rattle.lis_ports.specs.Bytes.{put}
use Rattle.lis_ports.specs.Runs.{IsDiskRun}
use Rattle.lis_ports.specs.Calls.{DiskFaultEnds, Elapses, IsTorn, IsWritten}
use Rattle.lis_ports.proofs.Ending.{ends_none}
use Rattle.lis_ports.proofs.Moments.{run_none}
use Rattle.lis_journal.specs.Record.{HomeBlock, homes, rises, apply}
use Rattle.lis_journal.specs.Spreads.{Spreads, Touched}
use Rattle.lis_journal.specs.Phases.{renumbered, at_target}
use Rattle.lis_journal.specs.declared.commit.Target.{Target}
use Rattle.lis_journal.specs.declared.commit.Target.TheVariants.{Record, Homes}
use Rattle.lis_journal.proofs.Entries.{Within, AtHome, touched_refl, touched_trans, touched_torn}
use Rattle.lis_journal.proofs.Spreading.{spreads_none, spreads_torn, spreads_then}
use Rattle.lis_journal.proofs.Places.{rise_parts}

pub renumbered-home : (m : ℕ) (es : List HomeBlock) (k : ℕ) (d : HomeBlock) → k < length es → (get_or (renumbered m es) k d).home ≡ m + k
renumbered-home m [] k d lt = absurd (omega arith)
renumbered-home m (e ∷ es) zero d lt = omega arith
renumbered-home m (e ∷ es) (suc k) d lt =
    let less : k < length es = omega (arith, lt) in
    omega (arith, renumbered-home (m + 1) es k d less)

renumbered-bytes : (m : ℕ) (es : List HomeBlock) (k : ℕ) (d : HomeBlock) → k < length es → (get_or (renumbered m es) k d).bytes ≡ (get_or es k d).bytes
renumbered-bytes m [] k d lt = absurd (omega arith)
renumbered-bytes m (e ∷ es) zero d lt = refl
renumbered-bytes m (e ∷ es) (suc k) d lt = let less : k < length es = omega (arith, lt) in renumbered-bytes (m + 1) es k d less

length-renumbered : (m : ℕ) (es : List HomeBlock) → length (renumbered m es) ≡ length es
length-renumbered m [] = refl
length-renumbered m (e ∷ es) = ap suc (length-renumbered (m + 1) es)

pub length-target : (t : Target) (es : List HomeBlock) → length (at_target t es) ≡ length es
length-target (Record first) es = length-renumbered first es
length-target Homes es = refl

pub target-bytes : (t : Target) (es : List HomeBlock) (k : ℕ) (d : HomeBlock) → k < length es → (get_or (at_target t es) k d).bytes ≡ (get_or es k d).bytes
target-bytes (Record first) es k d lt = renumbered-bytes first es k d lt
target-bytes Homes es k d lt = refl

apply-append : (es fs : List HomeBlock) (image : List ℕ) → apply (es ++ fs) image ≡ apply fs (apply es image)
apply-append [] fs image = refl
apply-append (e ∷ es) fs image = apply-append es fs (put image (4096 * e.home) e.bytes)

-- one more entry
pub apply-more : (ps : List HomeBlock) (k : ℕ) (d : HomeBlock) (image : List ℕ) → k < length ps → apply (take (k + 1) ps) image ≡ put (apply (take k ps) image) (4096 * (get_or ps k d).home) (get_or ps k d).bytes
apply-more ps k d image lt = ap (λ es. apply es image) (take_more ps k d lt) ∙ apply-append (take k ps) (get_or ps k d ∷ []) image

-- What was written by the k-th turn of the loop.
pub record SoFar (old now : Meaning) (ps : List HomeBlock) (k : ℕ) : Type 0 where
  pub run : IsDiskRun old now
  pub faults : now.disk_faults ≡ old.disk_faults
  pub first_fault : DiskFaultEnds old now
  pub spreads : IsTrue old.is_honest → Spreads old now (Touched ps)
  pub written : IsTrue old.is_honest → now.bytes ≡ apply (take k ps) old.bytes

pub begin : (m : Meaning) (ps : List HomeBlock) → SoFar m m ps 0
begin m ps = record {
  run = run_none m;
  faults = refl;
  first_fault = ends_none m;
  spreads = λ honest. spreads_none m (Touched ps) (touched_refl ps);
  written = λ honest. refl;
}

-- what is written spreads over one more write, failed or not
pub spread_on : {old now next : Meaning} (ps : List HomeBlock) (k : ℕ) (d : HomeBlock) (at n : ℕ) → k < length ps → at ≡ 4096 * (get_or ps k d).home → n ≡ 4096 → (IsTrue old.is_honest → Spreads old now (Touched ps)) → IsDiskRun old now → IsDiskRun now next → Elapses now next → (IsTrue now.is_honest → IsTorn at n now next) → IsTrue old.is_honest → Spreads old next (Touched ps)
spread_on {old} {now} {next} ps k d at n lt is_at is_n spreads before run time torn honest =
    let torn_at : IsTorn (4096 * (get_or ps k d).home) 4096 now next =
    subst (λ m. IsTorn (4096 * (get_or ps k d).home) m now next) is_n (subst (λ p. IsTorn p n now next) is_at (torn (before.honest ∙ honest))) in
    spreads_then (Touched ps) (touched_trans ps) (spreads honest)
    (spreads_torn (Touched ps) (4096 * (get_or ps k d).home) 4096 run time torn_at (λ from image t. touched_torn ps k d lt from image t))

pub write_on : {old now next : Meaning} (ps : List HomeBlock) (k : ℕ) (d : HomeBlock) (at : ℕ) (bytes : List ℕ) → k < length ps → at ≡ 4096 * (get_or ps k d).home → bytes ≡ (get_or ps k d).bytes → IsDiskRun old now → (IsTrue old.is_honest → now.bytes ≡ apply (take k ps) old.bytes) → (IsTrue now.is_honest → IsWritten at bytes now next) → IsTrue old.is_honest → next.bytes ≡ apply (take (k + 1) ps) old.bytes
write_on {old} {now} {next} ps k d at bytes lt is_at is_bytes before was written honest =
    (written (before.honest ∙ honest)).reads
    ∙ (ap (λ xs. put xs at bytes) (was honest)
    ∙ (ap (λ p. put (apply (take k ps) old.bytes) p bytes) is_at
    ∙ (ap (put (apply (take k ps) old.bytes) (4096 * (get_or ps k d).home)) is_bytes
    ∙ sym (apply-more ps k d old.bytes lt))))

pub all_written : (ps : List HomeBlock) (k : ℕ) (old now : List ℕ) → length ps ≤ k → now ≡ apply (take k ps) old → now ≡ apply ps old
all_written ps k old now le is = is ∙ ap (λ es. apply es old) (take_all k ps le)

-- The staged blocks are home blocks within the image.
pub within_from : (blocks last : ℕ) (es : List HomeBlock) → IsTrue (rises blocks last (homes es)) → IsTrue (list_all (λ e. length e.bytes == 4096) es) → Within blocks es
within_from blocks last [] rise whole = tt
within_from blocks last (e ∷ es) rise whole =
    let parts = rise_parts blocks last e.home (homes es) rise in
    let wide = and_parts (length e.bytes == 4096) (list_all (λ e. length e.bytes == 4096) es) whole in
    (parts.1, eqb-true (length e.bytes) 4096 wide.0, within_from blocks e.home es parts.2 wide.1)

pub home_from : (blocks start last : ℕ) (es : List HomeBlock) → start ≤ last + 1 → IsTrue (rises blocks last (homes es)) → AtHome start es
home_from blocks start last [] le rise = tt
home_from blocks start last (e ∷ es) le rise =
    let parts = rise_parts blocks last e.home (homes es) rise in
    (omega (arith, parts.0, le), home_from blocks start e.home es (omega (arith, parts.0, le)) parts.2)

pub home_within : (blocks last : ℕ) (es : List HomeBlock) (k : ℕ) (d : HomeBlock) → IsTrue (rises blocks last (homes es)) → k < length es → (get_or es k d).home < blocks
home_within blocks last [] k d rise lt = absurd (omega arith)
home_within blocks last (e ∷ es) zero d rise lt = (rise_parts blocks last e.home (homes es) rise).1
home_within blocks last (e ∷ es) (suc k) d rise lt =
    let less : k < length es = omega (arith, lt) in
    home_within blocks e.home es k d (rise_parts blocks last e.home (homes es) rise).2 less

pub home_above : (blocks last : ℕ) (es : List HomeBlock) (k : ℕ) (d : HomeBlock) → IsTrue (rises blocks last (homes es)) → k < length es → last < (get_or es k d).home
home_above blocks last [] k d rise lt = absurd (omega arith)
home_above blocks last (e ∷ es) zero d rise lt = (rise_parts blocks last e.home (homes es) rise).0
home_above blocks last (e ∷ es) (suc k) d rise lt =
    let less : k < length es = omega (arith, lt) in
    let parts = rise_parts blocks last e.home (homes es) rise in
    omega (arith, parts.0, home_above blocks e.home es k d parts.2 less)
