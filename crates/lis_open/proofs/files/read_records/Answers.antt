use Rattle.lis_open.proofs.Common.{rules, ℕ, List, refl, sym, subst, ◌∙◌, ends_none, ends_then, Fits}
use Rattle.std.proofs.lemmas.Bool.{OnTrue_at, OnFalse_at}
use Rattle.lis_open.specs.declared.files.FileSlots.{FileSlots}
use Rattle.lis_open.specs.ReadFiles.{in_slots, AreFirstRecords, RecordsEnded, TakesFile}
use Rattle.lis_ports.proofs.OnlyReading.{reads_none, reads_then}
use Rattle.lis_open.proofs.BlocksRead.{fits_after}
use Rattle.lis_open.proofs.Common.{err_from_is_err_and}
use Rattle.lis_open.proofs.ReadOn.{HasRead, read_well, read_then, reads_disk, fails_then}
use Rattle.lis_open.proofs.FilesRead.{files_on, so_far_on, no_files_yet, none_so_far, file_fails}
use Rattle.lis_open.proofs.files.read_records.Goals as goal

pub loop-slot-init : goal.loop-slot-init
loop-slot-init g c = record {
  reads = reads_none (g.D.Disk.meaning c.args.disk.now);
  faults = refl;
  first_fault = ends_none (g.D.Disk.meaning c.args.disk.now);
  first = subst (λ (slots : FileSlots). AreFirstRecords c.args.known.limits.now c.args.known.words.now c.args.known.axioms.now slots 0) (sym c.requires.none) (no_files_yet c.args.known.limits.now c.args.known.words.now c.args.known.axioms.now);
  recalls = λ kept fits recalls. recalls;
  so_far = λ kept fits recalls. none_so_far c.args.known.limits.now c.args.known.words.now c.args.known.axioms.now c.args.slots.now kept c.requires.none;
}

pub returns-then-not-is_taken-clause-ended : goal.returns-then-not-is_taken-clause-ended
returns-then-not-is_taken-clause-ended g c = λ kept fits recalls told pairs.
    let l = c.loop-slot in
    let limits = c.args.known.limits.now in
    let words = c.args.known.words.now in
    let axioms = c.args.known.axioms.now in
    let fits_read = fits_after c.args.known.journal.now kept l.invariant.reads fits in
    let fits_take = fits_after c.args.known.journal.now kept c.in_ok-found.ensures.disk.reads fits_read in
    let refused = OnFalse_at c.if-not-is_taken.true c.in_ok-is_taken.ensures.refused in
    let so_far = l.invariant.so_far kept fits recalls in
    subst (λ (slots : FileSlots). RecordsEnded limits kept words axioms slots l.slot) (sym refused.0) (record {
      so_far = so_far;
      fails = λ below.
          file_fails limits words axioms (in_slots l.slots) l.slot c.requires.words c.requires.axioms l.invariant.first.taken kept told pairs so_far.spelled c.in_ok-found.found below (refused.1 kept fits_take)
          (c.in_ok-found.ensures.read kept fits_read (l.invariant.recalls kept fits recalls)) so_far.blocks;
    })

pub loop-slot-preserved : goal.loop-slot-preserved
loop-slot-preserved g c =
    let l = c.loop-slot in
    let limits = c.args.known.limits.now in
    let words = c.args.known.words.now in
    let axioms = c.args.known.axioms.now in
    let below = c.loop-slot-test.true in
    let found = c.in_ok-found.found in
    let next = c.take_file.new.slots in
    let form = c.in_ok-found.ensures.form in
    let MayBeKept : (ℕ → List ℕ) → Type 0 = Fits c.args.known.journal.now (g.D.Disk.meaning c.read_slot.new.disk) in
    let taken = OnTrue_at {P = TakesFile limits MayBeKept words axioms.taxonomy l.slot found l.slots next} c.if-not-is_taken.false c.in_ok-is_taken.ensures.taken in
    let read = c.in_ok-found.ensures.disk in
    let took = c.in_ok-is_taken.ensures.disk in
    let to_found = reads_then l.invariant.reads read.reads in
    let faults = read.cause.stays ∙ l.invariant.faults in
    record {
      reads = reads_then to_found took.reads;
      faults = took.cause.stays ∙ faults;
      first_fault = ends_then (ends_then l.invariant.first_fault l.invariant.faults read.first_fault) faults took.first_fault;
      first = files_on limits MayBeKept words axioms l.slots l.slot l.invariant.first below found next form taken;
      recalls = λ kept fits recalls. c.in_ok-found.ensures.recalls kept (fits_after c.args.known.journal.now kept l.invariant.reads fits) (l.invariant.recalls kept fits recalls);
      so_far = λ kept fits recalls.
          so_far_on limits MayBeKept words axioms l.slots l.slot l.invariant.first below kept (fits_after c.args.known.journal.now kept to_found fits) (l.invariant.so_far kept fits recalls) found next form taken
          (c.in_ok-found.ensures.read kept (fits_after c.args.known.journal.now kept l.invariant.reads fits) (l.invariant.recalls kept fits recalls));
    }

pub returns-in_err-is_taken : goal.returns-in_err-is_taken
returns-in_err-is_taken g c =
    let l = c.loop-slot in
    let p = err_from_is_err_and c.from_residual-in_err-is_taken.result c.from_residual-in_err-is_taken.ensures.1 in
    let before : HasRead (g.D.Disk.meaning c.args.disk.now) (g.D.Disk.meaning l.disk) = record { reads = l.invariant.reads; faults = l.invariant.faults; first_fault = l.invariant.first_fault } in
    rw p.1 (record {
      disk = fails_then p.0 (read_then before (read_well c.in_ok-found.ensures.disk)) c.in_err-is_taken.ensures.disk;
      read = tt;
      recalls = λ kept fits recalls. c.in_ok-found.ensures.recalls kept (fits_after c.args.known.journal.now kept l.invariant.reads fits) (l.invariant.recalls kept fits recalls);
      ended = λ kept fits recalls told pairs. tt;
    })

pub returns-in_err-found-clause-disk : goal.returns-in_err-found-clause-disk
returns-in_err-found-clause-disk g c =
    let l = c.loop-slot in
    let p = err_from_is_err_and c.from_residual.result c.from_residual.ensures.1 in
    let before : HasRead (g.D.Disk.meaning c.args.disk.now) (g.D.Disk.meaning l.disk) = record { reads = l.invariant.reads; faults = l.invariant.faults; first_fault = l.invariant.first_fault } in
    rw p.1 (fails_then p.0 before c.in_err-found.ensures.disk)

pub returns-then-not-is_taken-clause-disk : goal.returns-then-not-is_taken-clause-disk
returns-then-not-is_taken-clause-disk g c =
    let l = c.loop-slot in
    let before : HasRead (g.D.Disk.meaning c.args.disk.now) (g.D.Disk.meaning l.disk) = record { reads = l.invariant.reads; faults = l.invariant.faults; first_fault = l.invariant.first_fault } in
    reads_disk l.slot (read_then (read_then before (read_well c.in_ok-found.ensures.disk)) (read_well c.in_ok-is_taken.ensures.disk))

pub returns-then-not-is_taken-clause-recalls : goal.returns-then-not-is_taken-clause-recalls
returns-then-not-is_taken-clause-recalls g c = λ kept fits recalls.
    let l = c.loop-slot in
    c.in_ok-found.ensures.recalls kept (fits_after c.args.known.journal.now kept l.invariant.reads fits) (l.invariant.recalls kept fits recalls)
