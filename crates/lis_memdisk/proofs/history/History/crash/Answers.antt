use Rattle.std.proofs.Common.{◌∙◌, ap, get_or}
use Rattle.lis_memdisk.specs.Changes.{crashed}
use Rattle.lis_memdisk.proofs.Redo.{stopped_at, went_on, at_same}
use Rattle.lis_memdisk.proofs.history.History.crash.Goals as goal

pub returns-then-not-had_happened : goal.returns-then-not-had_happened
returns-then-not-had_happened c =
    let self = c.args.self.now in
    let inv = c.loop-event.invariant in
    inv.at.image_is ∙ ap (λ s. crashed c.args.pick s.unsynced s.synced)
    (stopped_at self.start.items self.given.items self.shown.items self.events.items c.deref-event-items.result.now c.args.call c.loop-event.event-index _ c.had_happened.result inv.state c.deref-event-items.ensures.value c.loop-event-test.true (c.had_happened.ensures _ _) c.if-not-had_happened.true inv.so_far)

pub loop-event-preserved : goal.loop-event-preserved
loop-event-preserved c =
    let self = c.args.self.now in
    let inv = c.loop-event.invariant in
    record {
      state = _;
      so_far = went_on self.start.items self.given.items self.shown.items self.events.items c.deref-event-items.result.now c.args.call c.loop-event.event-index _ c.had_happened.result inv.state c.deref-event-items.ensures.value c.loop-event-test.true (c.had_happened.ensures _ _) c.if-not-had_happened.false inv.so_far;
      at = at_same c.args.pick inv.state self.shown.items _ _ _ _ (get_or c.deref-event-items.result.now c.loop-event.event-index _).kind c.deref-in-loop-event.ensures.value (c.redo_vec.ensures.at inv.state self.shown.items inv.at);
      image_len = c.redo_vec.ensures.image_len ∙ inv.image_len;
      bytes_len = c.redo_vec.ensures.bytes_len ∙ inv.bytes_len;
    }
