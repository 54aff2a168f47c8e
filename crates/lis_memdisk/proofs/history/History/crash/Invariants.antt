use Rattle.std.proofs.Common.{◌≡◌, length, drop}
use Rattle.lis_memdisk.specs.Changes.{Medium, IsAt}
use Rattle.lis_memdisk.proofs.Redo.{Redoing}
use Rattle.lis_memdisk.proofs.history.History.crash.Given as goal

abbrev pub invariant-loop-event : goal.invariant-loop-event
invariant-loop-event l = record {
  state : Medium;
  so_far : Redoing l.self.start.items l.self.given.items l.self.shown.items l.self.events.items l.call (drop l.event-index l.self.events.items) state;
  at : IsAt l.pick state l.image.items l.bytes.items;
  image_len : length l.image.items ≡ length l.self.start.items;
  bytes_len : length l.bytes.items ≡ length l.self.start.items;
}
