use Rattle.std.proofs.Common.{◌≡◌, ℕ, List, ◌+◌, ◌-◌, ◌*◌, ◌<◌, min, length, get_or, ◌∙◌, ap, take, drop, length-drop, arith}
use Rattle.std.proofs.lemmas.Bool.{cond-true, lt-ltb}
use Rattle.std.proofs.lemmas.List.{length-take-le, length-replicate}
use Rattle.lis_ports.proofs.Ending.{ends_then}
use Rattle.lis_ports.proofs.OnlyReading.{reads_then}
use Rattle.lis_model.specs.State.{blocks_needed}
use Rattle.lis_journal.specs.Phases.{looked}
use Rattle.lis_content.specs.Large.{content_blocks, block_within}
use Rattle.lis_content.proofs.Indexes.{length-content_blocks}
use Rattle.lis_content.proofs.Reading.{so_far_none, may_have_next, within_at, filled_more, filled_all}
use Rattle.lis_content.proofs.large.read_content.Goals as goal

pub loop-n-init : goal.loop-n-init
loop-n-init g c =
    so_far_none (g.D.Disk.meaning c.args.disk.now) c.args.journal.now c.args.laid.version c.args.laid.base c.args.laid.blocks.now c.args.laid.size _ c.args.buf.now (length-replicate {A = ℕ} 4096 0)

pub loop-n-preserved : goal.loop-n-preserved
loop-n-preserved g c =
    let was = c.loop-n.invariant in
    let read = c.in_ok-read_next.ensures in
    let laid = c.args.laid in
    let journal = c.args.journal.now in
    let n = c.loop-n.n in
    let inside : n < blocks_needed laid.size = omega (arith, c.loop-n-test.true) in
    record {
      reads = reads_then was.reads read.disk.reads;
      faults = read.disk.cause.stays ∙ was.faults;
      first_fault = ends_then was.first_fault was.faults read.disk.first_fault;
      fits = λ kept fits. read.fits kept (was.fits kept fits);
      block = read.index;
      has = λ kept fits. may_have_next laid.base laid.blocks.now laid.size n (looked journal.staged kept) c.read_next.new.index (read.has kept (was.fits kept fits) (was.has kept fits));
      filled = λ kept fits within.
          let at : ℕ → List ℕ = looked journal.staged kept in
          let ns = content_blocks laid.version laid.base laid.blocks.now laid.size at in
          let count : length ns ≡ blocks_needed laid.size = length-content_blocks laid.version laid.base laid.blocks.now laid.size at c.requires.count in
          let here = within_at laid.base journal.layout.blocks ns n within (omega (arith, inside, count)) in
          let a = n * 4096 in
          let e = c.min-end.result in
          let buf = c.loop-n.buf in
          let len : length buf ≡ laid.size = omega arith in
          let is_e : e ≡ min laid.size (a + 4096) = c.min-end.ensures ∙ ap (λ l. min l (a + 4096)) len in
          let wide : length (take (e - a) (drop a buf)) ≡ e - a = length-take-le (e - a) (drop a buf) (omega (arith, length-drop a buf, is_e, len)) in
          let is_read : c.read_next.new.buf ≡ take (e - a) (at (laid.base + get_or ns n 0)) =
          read.read kept (was.fits kept fits) (was.has kept fits)
          ∙ (ap (λ i. take i (block_within laid.base journal.layout.blocks at (get_or ns n 0))) wide ∙ ap (take (e - a)) (cond-true _ _ _ (lt-ltb _ _ here))) in
          filled_more (λ b. at (laid.base + b)) ns n laid.size a e buf c.read_next.new.buf (was.filled kept fits within) (omega (arith, inside, count)) len count (omega arith) is_e (read.whole kept (was.fits kept fits) (was.has kept fits) here) is_read;
    }

pub returns-clause-read : goal.returns-clause-read
returns-clause-read g c = λ kept fits within.
    let laid = c.args.laid in
    let at : ℕ → List ℕ = looked c.args.journal.now.staged kept in
    let ns = content_blocks laid.version laid.base laid.blocks.now laid.size at in
    let count : length ns ≡ blocks_needed laid.size = length-content_blocks laid.version laid.base laid.blocks.now laid.size at c.requires.count in
    filled_all (λ b. at (laid.base + b)) ns c.loop-n.n laid.size c.loop-n.buf (c.loop-n.invariant.filled kept fits within) (omega (arith, count, c.loop-n-test.false)) (omega arith) count
