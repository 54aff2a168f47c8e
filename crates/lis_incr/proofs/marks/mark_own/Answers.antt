use Rattle.std.proofs.Common.{◌≡◌, ◌==◌, true, if◌then◌else◌, get_or, refl, sym, ap, subst, ◌∙◌, arith}
use Rattle.std.proofs.lemmas.List.{take_all, get_or_default}
use Rattle.lis_graph.proofs.Members.{among_from_contains}
use Rattle.lis_bits.specs.Rows.{get}
use Rattle.lis_bits.proofs.Laws.{row_sets}
use Rattle.lis_ext.specs.Ext as ext
use Rattle.lis_ext.specs.Numbers.{has_number}
use Rattle.lis_ext.proofs.Numbers.{has_decides}
use Rattle.lis_eval.proofs.Slots.{bits_same}
use Rattle.lis_incr.specs.Marked.{MarksOnly, MarkedOf}
use Rattle.lis_incr.proofs.Own.{of_more, of_all, of_only, splits_own, own_numbers, own_splits}
use Rattle.lis_incr.proofs.marks.mark_own.Goals as goal

pub loop-number-preserved : goal.loop-number-preserved
loop-number-preserved g c =
    let v = g.V.View.seen c.args.view.now in
    let kept = c.requires.kept in
    let found = c.args.found.now in
    let e = c.ext.result.now in
    let tells = c.ext.ensures.told in
    let numbers = c.numbers-numbers.result.now in
    let k = c.loop-number.number-index in
    let lt = c.loop-number-test.true in
    let number = get_or numbers k 0 in
    let old = c.loop-number.candidates in
    let has = (has_decides numbers number).1 (among_from_contains numbers number (k, lt, get_or_default numbers k number 0 lt)) in
    let has_in : ext.has e number c.args.slot ≡ true = subst (λ set. has_number set number ≡ true) c.numbers-numbers.ensures.numbers has in
    let sets = row_sets old c.put.new.self 1 v.limits.props 0 (λ n. if n == number then c.is_lacked.result else get old 0 n) c.loop-number.invariant.shape (omega arith) c.put.ensures in
    record {
      shape = sets.shape;
      marked = λ f here placed.
          let own : ext.has e number f.slot ≡ true = ap (ext.has e number) placed ∙ has_in in
          let w = tells.named f number here own in
          let test = splits_own v found e tells f here in
          let splits = c.is_lacked.ensures w.0 w.1 w.2 ∙ own_splits v found e tells f here (ap (get found 0) placed ∙ c.requires.here) w.0 w.1 (ap (λ n. ext.has e n f.slot) w.2 ∙ own) in
          of_more v test c.args.candidates.now kept numbers k lt old c.put.new.self w.0 w.1 (sym w.2) (c.loop-number.invariant.marked f here placed)
          (bits_same old c.put.new.self 1 v.limits.props 0 _ (λ n. if n == w.0.1 then test w.0.0 else get old 0 n) sets (λ n below. rw (w.2, splits) refl));
    }

pub returns-clause-own : goal.returns-clause-own
returns-clause-own g c =
    let v = g.V.View.seen c.args.view.now in
    let f = c.requires.slot in
    let numbers = c.numbers-numbers.result.now in
    let new = c.loop-number.candidates in
    let all = take_all c.loop-number.number-index numbers (omega arith) in
    let test = splits_own v c.args.found.now c.ext.result.now c.ext.ensures.told f.0 f.1 in
    let to = subst (λ ns. MarkedOf v test ns c.args.candidates.now new) all (c.loop-number.invariant.marked f.0 f.1 f.2) in
    let set = ap (λ x. ext.set_of x c.args.slot) (sym c.ext.ensures.rows) ∙ sym c.numbers-numbers.ensures.numbers in
    subst (λ ns. MarksOnly v ns new) (sym set) (of_only v test c.args.candidates.now numbers (subst (λ ns. MarksOnly v ns c.args.candidates.now) set c.requires.own) new to)

pub returns-clause-marked : goal.returns-clause-marked
returns-clause-marked g c = λ f here placed.
    let v = g.V.View.seen c.args.view.now in
    let e = c.ext.result.now in
    let tells = c.ext.ensures.told in
    let numbers = c.numbers-numbers.result.now in
    let new = c.loop-number.candidates in
    let all = take_all c.loop-number.number-index numbers (omega arith) in
    let test = splits_own v c.args.found.now e tells f here in
    let to = subst (λ ns. MarkedOf v test ns c.args.candidates.now new) all (c.loop-number.invariant.marked f here placed) in
    let set = ap (λ x. ext.set_of x c.args.slot) (sym c.ext.ensures.rows) ∙ sym c.numbers-numbers.ensures.numbers in
    let in_slot : ext.set_of e f.slot ≡ numbers = ap (ext.set_of e) placed ∙ sym c.numbers-numbers.ensures.numbers in
    of_all v test c.args.candidates.now numbers (subst (λ ns. MarksOnly v ns c.args.candidates.now) set c.requires.own) new to
    (λ n lt passes. ap (λ ns. has_number ns n) (sym in_slot) ∙ own_numbers v c.args.found.now e tells f here n lt passes)
