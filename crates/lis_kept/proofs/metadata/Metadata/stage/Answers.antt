use Rattle.std.proofs.Common.{arith, ◌-◌}
use Rattle.lis_kept.proofs.Common.{rules, ◌≡◌, ◌≤◌, ◌+◌, ◌<◌, ℕ, false, length, sym, ap, ◌∙◌, subst, Held, Limits, data_start}
use Rattle.lis_model.specs.Image.{properties_start}
use Rattle.lis_kept.specs.Metadata.{Metadata}
use Rattle.lis_kept.specs.Areas.{is_marked}
use Rattle.lis_journal.specs.Journal.{Shape}
use Rattle.lis_kept.specs.Inside.{StagedBelow}
use Rattle.lis_kept.specs.Sound.{AreSound}
use Rattle.lis_kept.proofs.Staged.{staged_none, staged_more, staged_over, staged_all, marks_before}
use Rattle.lis_kept.proofs.metadata.Metadata.stage.Goals as goal

-- no block up to a later one is marked
skipped : (k : Metadata) (old now : Held) (from n : ℕ) → from ≤ n → n ≤ length k.marks → properties_start k.limits ≤ from → ((j : ℕ) → from ≤ j → j < n → is_marked k j ≡ false)
    → StagedBelow k from old now → StagedBelow k n old now
skipped k old now from n le within low none so_far =
    let same : (n - from) + from ≡ n = omega (arith, le) in
    subst (λ m. StagedBelow k m old now) same (staged_over k old now from (n - from) (omega (arith, within, same)) low (λ j ge lt. none j ge (omega (arith, lt, same))) so_far)

-- the blocks before the data blocks have marks
end_within : (k : Metadata) (limits : Limits) (end : ℕ) → limits ≡ k.limits → end ≡ data_start limits → AreSound k → end ≤ length k.marks
end_within k limits end is at sound = omega (arith, at, ap data_start is, sound.marks)

pub loop-from-init : goal.loop-from-init
loop-from-init c =
    let k = c.args.self.now in
    let start : c.properties_start-from.result ≡ properties_start k.limits = c.properties_start-from.ensures ∙ ap properties_start c.limits-2.ensures.value in
    let P : ℕ → Type 0 = λ n. StagedBelow k n c.args.journal.now c.args.journal.now in
    let at : c.data_start-end.result ≡ data_start k.limits = c.data_start-end.ensures.start ∙ ap data_start c.limits.ensures.value in
    (omega (arith, start), omega (arith, start, at), subst P (sym start) (staged_none k c.args.journal.now c.limits.ensures.sound.range))

pub stage_block-requires-clause-room : goal.stage_block-requires-clause-room
stage_block-requires-clause-room c =
    let k = c.args.self.now in
    let n = c.in-Some.n in
    let below : n < length k.marks = c.in-Some.ensures.below in
    let so_far = skipped k c.args.journal.now c.loop-from.journal c.loop-from.from n c.in-Some.ensures.from (omega (arith, below)) c.loop-from.invariant.0 c.in-Some.ensures.least c.loop-from.invariant.2 in
    omega (arith, c.requires.room, so_far.few, marks_before k n below c.in-Some.ensures.marked, ap (λ (s : Shape). s.capacity.staged) c.loop-from.invariant.2.image)

pub loop-from-preserved : goal.loop-from-preserved
loop-from-preserved c =
    let k = c.args.self.now in
    let n = c.in-Some.n in
    let old = c.args.journal.now in
    let now = c.loop-from.journal in
    let below : n < length k.marks = c.in-Some.ensures.below in
    let so_far = skipped k old now c.loop-from.from n c.in-Some.ensures.from (omega (arith, below)) c.loop-from.invariant.0 c.in-Some.ensures.least c.loop-from.invariant.2 in
    (omega (arith, c.loop-from.invariant.0, c.in-Some.ensures.from), omega (arith, c.if-n-end.false), staged_more k n old now below (omega (arith, c.loop-from.invariant.0, c.in-Some.ensures.from)) so_far c.stage_block.new.journal c.in-Some.ensures.marked c.stage_block.ensures)

pub returns-in_default-clause-staged : goal.returns-in_default-clause-staged
returns-in_default-clause-staged c =
    let k = c.args.self.now in
    let at : c.data_start-end.result ≡ data_start k.limits = c.data_start-end.ensures.start ∙ ap data_start c.limits.ensures.value in
    let within = end_within k k.limits c.data_start-end.result (ap (λ (l : Limits). l) (sym c.limits.ensures.value ∙ c.limits.ensures.value)) at c.limits.ensures.sound in
    let all = skipped k c.args.journal.now c.loop-from.journal c.loop-from.from c.data_start-end.result (omega (arith, c.loop-from-test.true)) within c.loop-from.invariant.0
    (λ j ge lt. c.in_default.ensures.none j ge (omega (arith, lt, within))) c.loop-from.invariant.2 in
    staged_all k c.data_start-end.result c.args.journal.now c.loop-from.journal c.limits.ensures.sound.range at all

pub returns-then-n-end-clause-staged : goal.returns-then-n-end-clause-staged
returns-then-n-end-clause-staged c =
    let k = c.args.self.now in
    let at : c.data_start-end.result ≡ data_start k.limits = c.data_start-end.ensures.start ∙ ap data_start c.limits.ensures.value in
    let within = end_within k k.limits c.data_start-end.result (ap (λ (l : Limits). l) (sym c.limits.ensures.value ∙ c.limits.ensures.value)) at c.limits.ensures.sound in
    let all = skipped k c.args.journal.now c.loop-from.journal c.loop-from.from c.data_start-end.result (omega (arith, c.loop-from-test.true)) within c.loop-from.invariant.0
    (λ j ge lt. c.in-Some.ensures.least j ge (omega (arith, lt, c.if-n-end.true))) c.loop-from.invariant.2 in
    staged_all k c.data_start-end.result c.args.journal.now c.loop-from.journal c.limits.ensures.sound.range at all

pub returns-clause-staged : goal.returns-clause-staged
returns-clause-staged c =
    let k = c.args.self.now in
    let at : c.data_start-end.result ≡ data_start k.limits = c.data_start-end.ensures.start ∙ ap data_start c.limits.ensures.value in
    staged_all k c.loop-from.from c.args.journal.now c.loop-from.journal c.limits.ensures.sound.range (omega (arith, at, c.loop-from.invariant.1, c.loop-from-test.false)) c.loop-from.invariant.2
