use Rattle.std.proofs.Common.{◌≡◌, ℕ, ◌+◌, ◌*◌, ◌<◌, ◌≤◌, List, true, Ok, Err, ◌∙◌, subst, sym, rules, arith}
use Rattle.std.proofs.lemmas.Result.{err_from_is_err_and}
use Rattle.lis_store.specs.Stored.{IsIndex}
use Rattle.lis_store.proofs.Reading.{index_first}
use Rattle.lis_parts.proofs.Loaded.{reading_then, loaded_more, loaded_all}
use Rattle.lis_parts.proofs.loading.load.Goals as goal

pub loop-n-init : goal.loop-n-init
loop-n-init g c = search (rules, index_first)

pub loop-n-preserved : goal.loop-n-preserved
loop-n-preserved g c =
    let was = c.loop-n.invariant in
    let e = c.in_ok-content_next.ensures in
    let old = g.D.Disk.meaning c.args.disk.now in
    let I : ℕ → List ℕ → List ℕ → Type 0 = λ n index xs. IsIndex c.args.store.now xs c.args.slot n index in
    let within : 4096 * c.loop-n.n < c.args.size = omega arith in
    let same = λ (honest : old.is_honest ≡ true). was.reading.disk.reads.same honest in
    record {
      reading = reading_then tt (Ok tt) was.reading (record { disk = e.disk; fits = e.fits });
      whole = e.len;
      loaded = loaded_more c.args.slot c.args.size c.loop-n.n c.requires.sound c.requires.size was.loaded c.content_next.new.buf c.min.result within e.len c.min.ensures
          (λ s name fits is_slot.
          e.read s name (was.reading.fits s fits) is_slot (subst (I c.loop-n.n c.loop-n.index) (sym (same fits.journal.honest).bytes) (was.held fits.journal.honest))) c.append.ensures;
      index = e.index;
      held = λ honest.
          subst (I (c.loop-n.n + 1) c.content_next.new.index) (same honest).bytes
          (e.next (was.reading.disk.reads.run.honest ∙ honest) (subst (I c.loop-n.n c.loop-n.index) (sym (same honest).bytes) (was.held honest)));
    }

pub returns-in_err-content_next-clause-disk : goal.returns-in_err-content_next-clause-disk
returns-in_err-content_next-clause-disk g c =
    let e = c.in_err-content_next.ensures in
    let p = err_from_is_err_and c.from_residual.result c.from_residual.ensures.1 in
    rw (p.1, p.2) (reading_then tt (Err c.in_err-content_next.field-0.0) c.loop-n.invariant.reading (record { disk = e.disk; fits = e.fits })).disk

pub returns-clause-loads : goal.returns-clause-loads
returns-clause-loads g c =
    let enough : c.args.size ≤ 4096 * c.loop-n.n = omega arith in
    loaded_all c.args.slot c.args.size c.loop-n.n c.requires.sound c.requires.size c.loop-n.invariant.loaded enough
