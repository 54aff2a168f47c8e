use Rattle.std.proofs.Common.{◌≡◌, ◌*◌, ◌∙◌, sym, inr, arith, ap}
use Rattle.lis_ports.specs.Bytes.{part}
use Rattle.lis_journal.specs.Record.{block}
use Rattle.lis_journal.specs.Images.{look}
use Rattle.lis_journal.proofs.Saving.{on_ok}
use Rattle.lis_journal.proofs.Entries.{look-absent}
use Rattle.lis_journal.proofs.Fitting.{fits_held}
use Rattle.lis_journal.proofs.journal.Journal.read.Goals as goal

pub returns-in-Some-clause-held : goal.returns-in-Some-clause-held
returns-in-Some-clause-held g c = λ honest.
    c.copy_from_slice.ensures.after ∙ sym (c.in-Some.ensures.some (block c.args.n (g.D.Disk.meaning c.args.disk.now).bytes))

pub returns-in-Some-clause-read : goal.returns-in-Some-clause-read
returns-in-Some-clause-read g c = λ kept fits.
    c.copy_from_slice.ensures.after
    ∙ (sym (c.in-Some.ensures.some (block c.args.n (g.D.Disk.meaning c.args.disk.now).bytes)) ∙ fits_held c.args.self.now fits c.args.n (inr c.requires.home))

pub returns-in-None-clause-held : goal.returns-in-None-clause-held
returns-in-None-clause-held g c = on_ok c.read_at.result (λ read. λ honest.
    let bytes = (g.D.Disk.meaning c.args.disk.now).bytes in
    let n = c.args.n in
    let held = c.args.self.now in
    let at : c.from.result * 4096 ≡ 4096 * n = omega (arith, c.from.ensures) in
    let there : look held.records.latest n (block n bytes) ≡ block n bytes = look-absent held.records.latest n (block n bytes) c.in-None.ensures.none.1 in
    read honest
    ∙ (ap (λ m. part (c.from.result * 4096) m bytes) c.requires.whole
    ∙ (ap (λ p. part p 4096 bytes) at ∙ (sym there ∙ sym (look-absent held.staged n (look held.records.latest n (block n bytes)) c.in-None.ensures.none.0)))))
    c.read_at.ensures.read

pub returns-in-None-clause-read : goal.returns-in-None-clause-read
returns-in-None-clause-read g c = on_ok c.read_at.result (λ read. λ kept fits.
    let bytes = (g.D.Disk.meaning c.args.disk.now).bytes in
    let n = c.args.n in
    let held = c.args.self.now in
    let at : c.from.result * 4096 ≡ 4096 * n = omega (arith, c.from.ensures) in
    let there : look held.records.latest n (block n bytes) ≡ block n bytes = look-absent held.records.latest n (block n bytes) c.in-None.ensures.none.1 in
    read fits.honest
    ∙ (ap (λ m. part (c.from.result * 4096) m bytes) c.requires.whole
    ∙ (ap (λ p. part p 4096 bytes) at
    ∙ (sym there ∙ (sym (look-absent held.staged n (look held.records.latest n (block n bytes)) c.in-None.ensures.none.0) ∙ fits_held held fits n (inr c.requires.home))))))
    c.read_at.ensures.read
