use Rattle.std.proofs.Common.{◌+◌, ◌<◌, ◌^◌, ◌∙◌, ap, arith, rules, length}
use Rattle.lis_memdisk.proofs.Redo.{stopped_at, went_on, counted_at, few_at}
use Rattle.lis_memdisk.proofs.history.History.shown_at.Goals as goal

pub returns-then-not-had_happened : goal.returns-then-not-had_happened
returns-then-not-had_happened c =
    let self = c.args.self.now in
    let inv = c.loop-event.invariant in
    inv.count ∙ ap (λ s. length s.shown)
    (stopped_at self.start.items self.given.items self.shown.items self.events.items c.deref-event-items.result.now c.args.call c.loop-event.event-index _ c.had_happened.result inv.state c.deref-event-items.ensures.value c.loop-event-test.true (c.had_happened.ensures _ _) c.if-not-had_happened.true inv.so_far)

pub overflow_add-count : goal.overflow_add-count
overflow_add-count c =
    let self = c.args.self.now in
    let inv = c.loop-event.invariant in
    let so_far = went_on self.start.items self.given.items self.shown.items self.events.items c.deref-event-items.result.now c.args.call c.loop-event.event-index _ c.had_happened.result inv.state c.deref-event-items.ensures.value c.loop-event-test.true (c.had_happened.ensures _ _) c.if-not-had_happened.false inv.so_far in
    let count = counted_at self.start.items self.given.items self.shown.items self.events.items c.deref-event-items.result.now c.args.call c.loop-event.event-index _ inv.state c.shown_len.result c.deref-event-items.ensures.value c.loop-event-test.true c.shown_len.ensures inv.so_far in
    let few = few_at self.start.items self.given.items self.shown.items self.events.items c.args.call _ _ (self.sound c.requires).shows so_far in
    let small : length self.shown.items < 2 ^ 63 = search rules in
    omega (arith, inv.count, count, few, small)

pub loop-event-preserved : goal.loop-event-preserved
loop-event-preserved c =
    let self = c.args.self.now in
    let inv = c.loop-event.invariant in
    record {
      state = _;
      so_far = went_on self.start.items self.given.items self.shown.items self.events.items c.deref-event-items.result.now c.args.call c.loop-event.event-index _ c.had_happened.result inv.state c.deref-event-items.ensures.value c.loop-event-test.true (c.had_happened.ensures _ _) c.if-not-had_happened.false inv.so_far;
      count = ap (λ n. n + c.shown_len.result) inv.count ∙ counted_at self.start.items self.given.items self.shown.items self.events.items c.deref-event-items.result.now c.args.call c.loop-event.event-index _ inv.state c.shown_len.result c.deref-event-items.ensures.value c.loop-event-test.true c.shown_len.ensures inv.so_far;
    }
