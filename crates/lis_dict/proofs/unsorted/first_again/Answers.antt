use Rattle.std.proofs.Common.{IsTrue, [], get_or, refl, sym, ap, ◌∙◌, arith}
use Rattle.std.proofs.lemmas.Slice.Eq.{bytes_eq-Decides}
use Rattle.lis_graph.proofs.Passes.{passed_same, passed_other}
use Rattle.lis_words.specs.Words.{is_property}
use Rattle.lis_dict.specs.Inside.{word_in}
use Rattle.lis_dict.proofs.unsorted.first_again.Goals as goal
use Rattle.lis_dict.proofs.unsorted.first_again.Goals.{then-eq, else-eq}

pub loop-number-preserved : goal.loop-number-preserved
loop-number-preserved c =
    let held = c.args.holders.now in
    let order = c.args.order.now in
    let i = c.loop-number.number-index in
    let bytes = c.bytes_at-bytes.ensures.bytes in
    let form : IsTrue (is_property (word_in held (get_or order i 0))) = ap is_property (sym bytes) ∙ c.bytes_at-bytes.ensures.word (c.requires i (omega (arith, c.loop-number-test.true))) in
    let tested = bytes_eq-Decides c.bytes_at-bytes.result.now c.loop-number.before.now in
    elim c.if-eq.branch [
      | then-eq w ↦ rw (w.before-is, w.first-is, w.min.ensures, w.unwrap_or.ensures, bytes)
          (passed_same (word_in held) is_property [] refl order i c.loop-number.before.now c.loop-number.first c.loop-number.invariant form (sym bytes ∙ tested.0 (sym w.if-eq.ensures)))
      | else-eq w ↦ rw (w.before-is, w.first-is, bytes)
          (passed_other (word_in held) is_property [] refl order i c.loop-number.before.now c.loop-number.first c.loop-number.invariant form (λ same. let yes = tested.1 (bytes ∙ same) in let no = w.if-eq.ensures in cc))
    ]
