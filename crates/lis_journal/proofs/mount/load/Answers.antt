use Rattle.std.proofs.Common.{◌≡◌, ◌+◌, ◌*◌, IsTrue, length, ◌∙◌, ap, inr, arith}
use Rattle.lis_ports.specs.Bytes.{part}
use Rattle.lis_ports.proofs.Ending.{ends_call}
use Rattle.lis_journal.specs.declared.layout.Layout.{Layout}
use Rattle.lis_journal.specs.Staging.{Staging}
use Rattle.lis_journal.proofs.Entries.{length-with_entry}
use Rattle.lis_journal.proofs.Headers.{form_of}
use Rattle.lis_journal.proofs.Loading.{home_at, load_on}
use Rattle.lis_journal.proofs.mount.load.Goals as goal

pub read_at-requires : goal.read_at-requires
read_at-requires g c =
    omega (arith, c.from.ensures, c.from-in-loop-k.ensures, c.loop-k.auto.block, c.requires.whole, c.requires.fits, c.loop-k-test.true, c.word-count.ensures, c.requires.long, c.requires.blocks, c.loop-k.invariant.run.len)

pub put-requires-clause-home : goal.put-requires-clause-home
put-requires-clause-home g c =
    let h = c.args.header.now in
    let layout = c.args.latest.now.layout in
    omega (arith, c.word.ensures, ap (λ (l : Layout). l.records) c.loop-k.invariant.layout_is, (home_at layout c.loop-k.k h (form_of layout h c.requires.form) (omega (arith, c.loop-k-test.true, c.word-count.ensures))).0)

pub put-requires-clause-within : goal.put-requires-clause-within
put-requires-clause-within g c =
    let h = c.args.header.now in
    let layout = c.args.latest.now.layout in
    omega (arith, c.word.ensures, ap (λ (l : Layout). l.blocks) c.loop-k.invariant.layout_is, (home_at layout c.loop-k.k h (form_of layout h c.requires.form) (omega (arith, c.loop-k-test.true, c.word-count.ensures))).1)

pub put-requires-clause-room : goal.put-requires-clause-room
put-requires-clause-room g c =
    inr (omega (arith, c.loop-k.invariant.few, c.loop-k.invariant.capacity_is, c.requires.frames, c.loop-k-test.true, c.word-count.ensures, c.requires.fits, c.requires.room))

pub loop-k-preserved : goal.loop-k-preserved
loop-k-preserved g c =
    let h = c.args.header.now in
    let k = c.loop-k.k in
    let b = c.args.contents in
    let now = g.D.Disk.meaning c.loop-k.disk in
    let at : (c.from.result + c.from-in-loop-k.result) * 4096 ≡ 4096 * (b + k) = omega (arith, c.from.ensures, c.from-in-loop-k.ensures) in
    let len : length c.loop-k.block ≡ 4096 = omega (arith, c.loop-k.auto.block, c.requires.whole) in
    let read : IsTrue now.is_honest → c.read_at.new.buf ≡ part (4096 * (b + k)) 4096 now.bytes =
    λ honest. c.in_ok-read_at.ensures.read honest ∙ (ap (λ m. part ((c.from.result + c.from-in-loop-k.result) * 4096) m now.bytes) len ∙ ap (λ p. part p 4096 now.bytes) at) in
    load_on b k c.word.result _ c.loop-k.latest c.put.new.self h c.read_at.new.buf c.loop-k.invariant c.word.ensures c.read_at.ensures.call.run c.read_at.ensures.call.time c.in_ok-read_at.ensures.call.cause.stays (ends_call c.read_at.ensures.call) c.read_at.ensures.same read
    (ap (λ (s : Staging). s.layout) c.put.ensures.put)
    (ap (λ (s : Staging). s.capacity) c.put.ensures.put)
    (omega (arith, ap (λ (s : Staging). length s.entries) c.put.ensures.put, length-with_entry c.loop-k.latest.entries c.word.result c.read_at.new.buf))
    c.put.ensures.looks

pub returns-in_err-read_at-clause-few : goal.returns-in_err-read_at-clause-few
returns-in_err-read_at-clause-few g c =
    omega (arith, c.loop-k.invariant.few, c.loop-k-test.true, c.word-count.ensures)

pub returns-clause-few : goal.returns-clause-few
returns-clause-few g c =
    omega (arith, c.loop-k.invariant.few, c.loop-k.auto.k-end, c.word-count.ensures)
