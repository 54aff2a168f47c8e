use Rattle.lis_open.proofs.Common.{◌∙◌, ap, sym, ◌+◌, ◌*◌, nat_lt, length, take, get_or, arith, ltb-true}
use Rattle.lis_content.proofs.Places.{filled_next}
use Rattle.lis_content.proofs.Reading.{filled_all}
use Rattle.lis_derive.specs.Fronts.{gives_all}
use Rattle.lis_ports.proofs.Ending.{ends_then}
use Rattle.lis_ports.proofs.OnlyReading.{reads_then}
use Rattle.lis_open.proofs.ContentRead.{block_read, front_has_words, number_passes, same_bytes, whole_at}
use Rattle.lis_open.proofs.contents.read_front.Goals as goal

pub read_block-requires-clause-within : goal.read_block-requires-clause-within
read_block-requires-clause-within g c =
    let passes = number_passes (λ b. nat_lt (c.args.base + b) c.args.journal.now.layout.blocks) c.args.blocks.now c.loop-n.n c.requires.within c.loop-n-test.true in
    omega (arith, ltb-true _ _ passes)

pub loop-n-preserved : goal.loop-n-preserved
loop-n-preserved g c =
    let was = c.loop-n.invariant in
    let read = c.in_ok-read_block.ensures in
    let base = c.args.base in
    let ns = c.args.blocks.now in
    let n = c.loop-n.n in
    record {
      reads = reads_then was.reads read.disk.reads;
      faults = read.disk.cause.stays ∙ was.faults;
      first_fault = ends_then was.first_fault was.faults read.disk.first_fault;
      fits = λ kept fits. read.fits kept (was.fits kept fits);
      sized = read.place.len ∙ was.sized;
      filled = λ kept fits.
          filled_next (λ b. kept (base + b)) ns n (length c.args.bytes.now) c.loop-n.bytes c.read_block.new.self (was.filled kept fits) c.loop-n-test.true c.requires.count
          (whole_at c.args.journal.now fits base ns c.requires.home c.requires.within n c.loop-n-test.true) read.place
          (block_read c.args.journal.now.staged kept (base + get_or ns n 0) _ _ (4096 * n) _ c.requires.clean was.sized
          (read.read kept (was.fits kept fits)));
    }

pub returns-then-gives_all-clause-words : goal.returns-then-gives_all-clause-words
returns-then-gives_all-clause-words g c = λ kept fits.
    let is = c.loop-n.invariant in
    let seen = c.saturating_sub-seen.result in
    let gives =
    ap (λ bs. gives_all c.args.name.now (take (4096 * c.loop-n.n) bs) seen) (sym c.bytes.ensures.bytes) ∙ (sym c.gives_all.ensures ∙ c.if-gives_all.true) in
    front_has_words c.args.journal.now fits c.args.base c.args.blocks.now c.requires.home c.requires.within c.args.name.now c.loop-n.bytes c.loop-n.n (length c.args.bytes.now) seen
    (is.filled kept fits) is.sized c.requires.count gives

pub returns-clause-words : goal.returns-clause-words
returns-clause-words g c = λ kept fits.
    let is = c.loop-n.invariant in
    same_bytes c.args.name.now _ c.loop-n.bytes
    (filled_all (λ b. kept (c.args.base + b)) c.args.blocks.now c.loop-n.n (length c.args.bytes.now) c.loop-n.bytes (is.filled kept fits) (omega arith) is.sized c.requires.count)
