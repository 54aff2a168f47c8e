use Rattle.std.proofs.Common.{◌≡◌, ℕ, ◌<◌, List, length, get_or, sym, ap, subst, ◌∙◌, arith, length-set}
use Rattle.std.specs.List.{All}
use Rattle.std.specs.List.Sorted.{IsStrictlyIncreasing}
use Rattle.lis_ext.specs.Numbers.{differs}
use Rattle.lis_ext.specs.Ext.{count_of}
use Rattle.lis_ext.specs.Inside.{IsSoundExt}
use Rattle.lis_ext.proofs.Bits.{edits_all}
use Rattle.lis_ext.proofs.Numbers.{has_decides}
use Rattle.lis_ext.proofs.Counted.{retaken, each_set, each_below, counted_some, counts_set, marks_set}
use Rattle.lis_ext.proofs.ext.Ext.set_file.Goals as goal

pub lose-requires-clause-counted : goal.lose-requires-clause-counted
lose-requires-clause-counted c = λ p there.
    let e = c.self.inside in
    let inv = c.self.invariant in
    let file = c.args.file in
    let old = c.numbers-old.result.now in
    let file_in = rw (← c.self.view_is) at c.requires.file in
    let in_files : file < e.files = omega (arith, inv.long, file_in) in
    let low = each_below e.props old (rw (sym c.numbers-old.ensures.numbers) at (inv.in_range file in_files)) p ((has_decides old p).0 there) in
    let some = counted_some e.lists file p file_in (rw c.numbers-old.ensures.numbers at there) in
    rw c.deref_mut.ensures.value (omega (arith, inv.counted p low, some))

pub invariant_of-self : goal.invariant_of-self
invariant_of-self c =
    let e = c.self.inside in
    let inv = c.self.invariant in
    let file = c.args.file in
    let old = c.numbers-old.result.now in
    let new = c.args.new.now in
    let mid = c.lose.new.counts in
    let after = c.gain.new.counts in
    let file_in = rw (← c.self.view_is) at c.requires.file in
    let new_in = rw (← c.self.view_is) at c.requires.new_in in
    let mid_long : length mid ≡ e.counts.len = omega (arith, c.lose.auto.counts, c.deref_mut.ensures.len) in
    let mid_is : c.deref_mut-2.result.now ≡ mid = c.deref_mut-2.ensures.value ∙ retaken e.counts.len mid _ mid_long in
    let after_long : length after ≡ e.counts.len = omega (arith, c.gain.auto.counts, ap length mid_is, mid_long) in
    let up = rw mid_is at c.gain.ensures.counts in
    subst (λ (xs : List ℕ). IsSoundExt c.set.new.self xs c.replace_bits.new.rows c.gain.new.marks e.props e.files e.kept) (sym (retaken e.counts.len after _ after_long)) (record {
      few_props = inv.few_props;
      few_files = inv.few_files;
      long = omega (arith, ap length c.set.ensures, length-set e.lists file new, inv.long);
      all_or_none = inv.all_or_none;
      rows_shape = c.replace_bits.ensures.shape;
      marks_shape = c.gain.ensures.marks.shape;
      room = omega (arith, after_long, c.deref_mut.ensures.len, ap length c.deref_mut.ensures.value, inv.room);
      rise = λ i lt. rw c.set.ensures (each_set IsStrictlyIncreasing e.lists file new (λ k low. inv.rise k (omega (arith, inv.long))) c.requires.new_rises i (omega (arith, inv.long)));
      in_range = λ i lt. rw c.set.ensures (each_set (All (λ p. p < e.props)) e.lists file new (λ k low. inv.in_range k (omega (arith, inv.long))) new_in i (omega (arith, inv.long)));
      counted = λ p lt. counts_set e.props old new c.deref_mut.result.now mid after e.lists file file_in (sym c.numbers-old.ensures.numbers) c.lose.ensures.counts up
          (λ k low. ap (λ (xs : List ℕ). get_or xs k 0) c.deref_mut.ensures.value ∙ inv.counted k low) p lt ∙ ap (λ (sets : List (List ℕ)). count_of sets p) (sym c.set.ensures);
      in_step = rw c.set.ensures (c.replace_bits.ensures.in_step e.lists inv.long (sym c.numbers-old.ensures.numbers) inv.in_step);
    })

pub returns-clause-marks : goal.returns-clause-marks
returns-clause-marks c =
    let e = c.self.inside in
    rw (← c.self.view_is, ← c.numbers-old.ensures.numbers) (marks_set e.props c.numbers-old.result.now c.args.new.now e.marks c.lose.new.marks c.gain.new.marks c.lose.ensures.marks c.gain.ensures.marks)

pub returns-clause-edits : goal.returns-clause-edits
returns-clause-edits c =
    let e = c.self.inside in
    rw (← c.self.view_is, ← c.numbers-old.ensures.numbers) (edits_all e.rows c.replace_bits.new.rows e.kept e.props (differs c.numbers-old.result.now c.args.new.now) c.self.invariant.all_or_none c.replace_bits.ensures.edits)

pub returns-clause-no_fewer : goal.returns-clause-no_fewer
returns-clause-no_fewer c = rw (← c.self.view_is) c.replace_bits.ensures.no_fewer
