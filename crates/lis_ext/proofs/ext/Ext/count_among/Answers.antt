use Rattle.std.proofs.Common.{rules, ◌≡◌, ℕ, ◌+◌, ◌<◌, ◌&&◌, if◌then◌else◌, List, [], length, get_or, replicate, sym, ap, ◌∙◌, arith}
use Rattle.std.proofs.lemmas.Bool.{and_left}
use Rattle.std.proofs.lemmas.List.{get_or-replicate}
use Rattle.lis_bits.specs.Rows.{get}
use Rattle.lis_ext.specs.Numbers.{numbers_where}
use Rattle.lis_ext.specs.Ext.{Ext, has}
use Rattle.lis_ext.proofs.Counted.{where_zero, where_ends, where_le, counted_next, found_next}
use Rattle.lis_ext.proofs.ext.Ext.count_among.Goals as goal

pub loop-init : goal.loop-init
loop-init c =
    let found = c.args.found.now in
    let zeros : c.fill.new.self ≡ replicate (length c.args.counts.now) 0 = c.fill.ensures.after (λ y e. search rules) in
    record {
      counts = λ p lt. ap (λ (xs : List ℕ). get_or xs p 0) zeros ∙ (get_or-replicate (length c.args.counts.now) p 0 0 (omega (arith, c.requires.room)) ∙ sym (where_zero (λ file. get found 0 file && has c.args.self.now p file)));
      many = sym (where_zero (get found 0));
      low = omega arith;
      high = omega arith;
    }

pub returns-in-None-clause-counts : goal.returns-in-None-clause-counts
returns-in-None-clause-counts c = λ p lt.
    let l = c.loop in
    let found = c.args.found.now in
    l.invariant.counts p lt ∙ ap length (where_ends l.start (length c.args.self.now.sets) (λ file. get found 0 file && has c.args.self.now p file) l.invariant.high
    (λ k ge low. and_left (get found 0 k) (has c.args.self.now p k) (c.in-None.ensures.none k ge (omega (arith, c.requires.bits)))))

pub returns-in-None-clause-found : goal.returns-in-None-clause-found
returns-in-None-clause-found c =
    let l = c.loop in
    l.invariant.many ∙ ap length (where_ends l.start (length c.args.self.now.sets) (get c.args.found.now 0) l.invariant.high (λ k ge low. c.in-None.ensures.none k ge (omega (arith, c.requires.bits))))

pub count_all-requires-clause-fit : goal.count_all-requires-clause-fit
count_all-requires-clause-fit c = λ p lt.
    let l = c.loop in
    let found = c.args.found.now in
    let low : p < c.args.self.now.props = omega (arith, l.auto.counts, c.requires.room) in
    let files : length c.args.self.now.sets ≡ c.self.inside.files = ap (λ (e : Ext). length e.sets) (sym c.self.view_is) ∙ c.self.invariant.long in
    omega (arith, l.invariant.counts p low, where_le l.start (λ file. get found 0 file && has c.args.self.now p file), l.invariant.high, files, c.self.invariant.few_files)

pub overflow_add-many : goal.overflow_add-many
overflow_add-many c =
    let l = c.loop in
    let files : length c.args.self.now.sets ≡ c.self.inside.files = ap (λ (e : Ext). length e.sets) (sym c.self.view_is) ∙ c.self.invariant.long in
    omega (arith, l.invariant.many, where_le l.start (get c.args.found.now 0), l.invariant.high, files, c.self.invariant.few_files)

pub loop-preserved : goal.loop-preserved
loop-preserved c =
    let l = c.loop in
    let found = c.args.found.now in
    let self = c.args.self.now in
    let file = c.in-Some.file in
    let next = c.in-Some.ensures in
    let numbers = c.numbers.result.now in
    let set : get_or self.sets file [] ≡ numbers = ap (λ (e : Ext). get_or e.sets file []) (sym c.self.view_is) ∙ sym c.numbers.ensures.numbers in
    record {
      counts = λ p lt.
          let in_counts : p < length l.counts = omega (arith, l.auto.counts, c.requires.room) in
          let up = rw (← set) at (c.count_all.ensures p in_counts) in
          let was = l.invariant.counts p lt in
          let more = counted_next l.start file (get found 0) (has self p) next.from_start next.least next.true_bit in
          up ∙ (ap (λ (n : ℕ). n + (if has self p file then 1 else 0)) was ∙ sym more);
      many = let more = found_next l.start file (get found 0) next.from_start next.least next.true_bit in omega (arith, l.invariant.many);
      low = omega (arith, l.invariant.low, next.from_start);
      high = omega (arith, next.in_row, c.requires.bits);
    }

pub returns-clause-counts : goal.returns-clause-counts
returns-clause-counts c = λ p lt.
    let l = c.loop in
    let files : length c.args.self.now.sets ≡ c.self.inside.files = ap (λ (e : Ext). length e.sets) (sym c.self.view_is) ∙ c.self.invariant.long in
    let all : l.start ≡ length c.args.self.now.sets = omega (arith, l.invariant.low, l.invariant.high, files, c.loop-test.false) in
    l.invariant.counts p lt ∙ ap (λ n. length (numbers_where n (λ file. get c.args.found.now 0 file && has c.args.self.now p file))) all
