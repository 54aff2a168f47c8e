use Rattle.std.proofs.Common.{IfOk, ap₂}
use Rattle.lis_open.proofs.Common.{rules, refl, ◌≡◌, ◌⊎◌, ◌≤◌, ◌==◌, Bool, true, IsTrue, Limits, are_in_range, ℕ, List, ◌∙◌, sym, ap, subst, Err, Result, false, arith, err_from_is_err_and, block, Held, Leaves, IsSettled, Stored, IsSound, recovered}
use Rattle.lis_journal.specs.declared.layout.Capacity.{Capacity}
use Rattle.lis_journal.specs.Journal.{shape_of}
use Rattle.lis_journal.specs.Recovery.{InRecovery, MountEnded}
use Rattle.lis_journal.specs.declared.journal.JournalFault.{JournalFault}
use Rattle.lis_journal.specs.declared.journal.JournalFault.TheVariants.{DiskFault as JournalDisk}
use Rattle.lis_ports.proofs.OnlyReading.{unchanged_none}
use Rattle.lis_ports.specs.Calls.{IsUnchanged}
use Rattle.lis_open.specs.declared.mounting.OpenFault.{OpenFault}
use Rattle.lis_open.proofs.Opening.{one_fault, memory_opened, journal_cause, journal_enough, journal_opened, journal_moments, store_opened, store_moments}
use Rattle.lis_open.specs.Opens.{journal_fault}
use Rattle.lis_open.proofs.mounting.mount_image.Goals as goal
use Rattle.lis_kept.specs.Image.{image_layout, most_staged, most_placed}
use Rattle.lis_kept.proofs.InArea.{few_files, some_properties}
use Rattle.lis_kept.proofs.Image.{early_staged, third_staged, early_placed, third_placed}
use Rattle.lis_model.specs.Image.{record_blocks}
use Rattle.lis_model.proofs.Ranges.{few_parts, few_records, third_records}
use Rattle.lis_journal.specs.Record.{record_len}
use Rattle.lis_journal.specs.declared.layout.Layout.{Layout}

-- a record of the most blocks has room
record_fits : (limits : Limits) → IsTrue (are_in_range limits) → record_len (most_staged limits) ≤ record_blocks limits
record_fits limits range = by (limits.version == 3) refl
  where
    by : (third : Bool) → (limits.version == 3) ≡ third → record_len (most_staged limits) ≤ record_blocks limits
    by true third = omega (arith, third_staged limits third, third_records limits third, few_files limits range)
    by false early = omega (arith, early_staged limits early, (few_parts limits range early).records)

few_placed : (limits : Limits) → most_placed limits ≤ 65536
few_placed limits = by (limits.version == 3) refl
  where
    by : (third : Bool) → (limits.version == 3) ≡ third → most_placed limits ≤ 65536
    by true third = omega (arith, third_placed limits third)
    by false early = omega (arith, early_placed limits early)

pub mount-requires-clause-blocks : goal.mount-requires-clause-blocks
mount-requires-clause-blocks g c =
    omega (arith, ap (λ (l : Layout). l.records) c.image_layout-layout.ensures, ap (λ (l : Layout). l.blocks) c.image_layout-layout.ensures, some_properties c.args.limits c.requires.range)

pub mount-requires-clause-few : goal.mount-requires-clause-few
mount-requires-clause-few g c = omega (arith, ap (λ (l : Layout). l.records) c.image_layout-layout.ensures, few_records c.args.limits c.requires.range)

pub mount-requires-clause-fits : goal.mount-requires-clause-fits
mount-requires-clause-fits g c =
    omega (arith, ap (λ (l : Layout). l.records) c.image_layout-layout.ensures, ap (λ (k : Capacity). k.staged) c.image_capacity.ensures, record_fits c.args.limits c.requires.range)

pub mount-requires-clause-placed : goal.mount-requires-clause-placed
mount-requires-clause-placed g c = omega (arith, ap (λ (k : Capacity). k.placed) c.image_capacity.ensures, few_placed c.args.limits)

pub mount-requires-clause-long : goal.mount-requires-clause-long
mount-requires-clause-long g c = omega (arith, ap (λ (l : Layout). l.blocks) c.image_layout-layout.ensures, c.requires.long)

pub read_store-requires-clause-readable : goal.read_store-requires-clause-readable
read_store-requires-clause-readable g c =
    let held = c.in-Ok.ensures.held in
    let blocks = ap (λ (h : Held). h.layout.blocks) held ∙ ap (λ (l : Layout). l.blocks) c.image_layout-layout.ensures in
    record {
      range = c.requires.range;
      image = ap shape_of held ∙ ap₂ (λ (l : Layout) (k : Capacity). record { layout = l; capacity = k }) c.image_layout-layout.ensures c.image_capacity.ensures;
      clean = ap (λ (h : Held). h.staged) held;
      usable = record {
        unbroken = ap (λ (h : Held). h.is_broken) held;
        long = omega (arith, blocks, c.requires.long, c.mount.ensures.run.len);
      };
    }

pub returns-in_err-memory-clause-opened : goal.returns-in_err-memory-clause-opened
returns-in_err-memory-clause-opened g c = λ honest.
    let old = g.D.Disk.meaning c.args.disk.now in
    let p = err_from_is_err_and c.from_residual.result c.from_residual.ensures.1 in
    rw (p.1, p.2) (memory_opened old c.args.limits (c.requires.begins honest) c.requires.long old (unchanged_none old))

pub returns-in-Err : goal.returns-in-Err
returns-in-Err g c =
    let old = g.D.Disk.meaning c.args.disk.now in
    let new = g.D.Disk.meaning c.mount.new.disk in
    let fault = c.in-Err.fault in
    let mounted = rw c.image_layout-layout.ensures at c.mount.ensures in
    let failed : c.mount.result ≡ Err JournalDisk → fault ≡ JournalDisk = λ is. one_fault (sym c.in-Err.is ∙ is) in
    record {
      run = search rules;
      cause = rw c.from.ensures (journal_cause Stored _ _ fault c.in-Err.ensures.cause);
      first_fault = search rules;
      fits_disk = journal_enough (Err c.from.result) c.from.result fault refl c.from.ensures;
      opened = λ honest.
          rw c.from.ensures (journal_opened old c.args.limits (c.requires.begins honest) c.requires.long new c.mount.result fault c.in-Err.is (mounted.ended honest)
          (λ memory. subst (λ d. IsUnchanged old (g.D.Disk.meaning d)) (sym (mounted.memory memory)) (unchanged_none old)));
      sound = search rules;
      ready = search rules;
      long = search rules;
      any_moment = λ honest. journal_moments old c.args.limits (c.requires.begins honest) c.requires.long new (mounted.any_moment honest);
      past = λ honest settled. mounted.past honest (λ is. settled (ap Err (c.from.ensures ∙ ap journal_fault (failed is))));
    }

pub returns-in-Ok-clause-opened : goal.returns-in-Ok-clause-opened
returns-in-Ok-clause-opened g c = λ honest.
    let old = g.D.Disk.meaning c.args.disk.now in
    let mid = g.D.Disk.meaning c.mount.new.disk in
    let ended = subst (λ b. MountEnded b old mid c.mount.result) c.image_layout-layout.ensures (c.mount.ensures.ended honest) in
    store_opened old c.args.limits (c.requires.begins honest) c.requires.long (g.met.D.Disk.reads_len c.args.disk.now honest) c.in-Ok.journal mid (g.D.Disk.meaning c.read_store.new.disk) c.read_store.result
    (subst (λ (o : Result Held JournalFault). MountEnded (image_layout c.args.limits) old mid o) c.in-Ok.is ended)
    (subst (λ b. IsSettled mid (recovered b old.bytes)) c.image_layout-layout.ensures (c.in-Ok.ensures.left honest)) c.read_store.ensures.disk.reads
    (λ store is. record {
      sound = subst (λ (o : Result Stored OpenFault). IfOk o IsSound) is c.read_store.ensures.sound;
      over = subst (λ (o : Result Stored OpenFault). IfOk o (λ k. k.journal ≡ c.in-Ok.journal)) is c.read_store.ensures.journal;
      unbroken = subst (λ (o : Result Stored OpenFault). IfOk o (λ k. k.is_broken ≡ false)) is c.read_store.ensures.unbroken;
      settled = ap (λ (h : Held). h.staged) (subst (λ (o : Result Stored OpenFault). IfOk o (λ k. k.journal ≡ c.in-Ok.journal)) is c.read_store.ensures.journal ∙ c.in-Ok.ensures.held);
    })
    c.read_store.ensures.ended

pub returns-in-Ok-clause-any_moment : goal.returns-in-Ok-clause-any_moment
returns-in-Ok-clause-any_moment g c = λ honest.
    let old = g.D.Disk.meaning c.args.disk.now in
    let mid = g.D.Disk.meaning c.mount.new.disk in
    store_moments old c.args.limits (c.requires.begins honest) c.requires.long mid (g.D.Disk.meaning c.read_store.new.disk)
    (subst (λ b. (image : List ℕ) → mid.images image → old.images image ⊎ InRecovery b old.bytes image) c.image_layout-layout.ensures (c.in-Ok.ensures.images honest))
    (subst (λ b. Leaves old mid (λ image. old.images image ⊎ InRecovery b old.bytes image)) c.image_layout-layout.ensures (c.mount.ensures.any_moment honest))
    (c.read_store.ensures.disk.reads.moments (c.mount.ensures.run.honest ∙ honest))

pub returns-in-Ok-clause-past : goal.returns-in-Ok-clause-past
returns-in-Ok-clause-past g c = λ honest settled n past.
    ap (block n) (c.read_store.ensures.disk.reads.same (c.mount.ensures.run.honest ∙ honest)).bytes ∙ c.in-Ok.ensures.past honest (λ e. absurd (cc)) n (omega (arith, past, ap (λ (l : Layout). l.blocks) c.image_layout-layout.ensures))
