use Rattle.std.proofs.Common.{IsTrue, [], get_or, refl, sym, ap, ◌∙◌, arith}
use Rattle.std.proofs.lemmas.Slice.Eq.{bytes_eq-Decides}
use Rattle.lis_graph.proofs.Passes.{passed_same, passed_other}
use Rattle.lis_words.specs.Words.{is_file_name}
use Rattle.lis_catalog.specs.Inside.{name_in}
use Rattle.lis_catalog.proofs.unsorted.first_again.Goals as goal
use Rattle.lis_catalog.proofs.unsorted.first_again.Goals.{then-eq, else-eq}

pub loop-slot-preserved : goal.loop-slot-preserved
loop-slot-preserved c =
    let records = c.args.records.now in
    let order = c.args.order.now in
    let i = c.loop-slot.slot-index in
    let bytes = c.name_at-name.ensures.bytes in
    let form : IsTrue (is_file_name (name_in records (get_or order i 0))) = ap is_file_name (sym bytes) ∙ c.name_at-name.ensures.name (c.requires i (omega (arith, c.loop-slot-test.true))) in
    let tested = bytes_eq-Decides c.name_at-name.result.now c.loop-slot.before.now in
    elim c.if-eq.branch [
      | then-eq w ↦ rw (w.before-is, w.first-is, w.min.ensures, w.unwrap_or.ensures, bytes)
          (passed_same (name_in records) is_file_name [] refl order i c.loop-slot.before.now c.loop-slot.first c.loop-slot.invariant form (sym bytes ∙ tested.0 (sym w.if-eq.ensures)))
      | else-eq w ↦ rw (w.before-is, w.first-is, bytes)
          (passed_other (name_in records) is_file_name [] refl order i c.loop-slot.before.now c.loop-slot.first c.loop-slot.invariant form (λ same. let yes = tested.1 (bytes ∙ same) in let no = w.if-eq.ensures in cc))
    ]
