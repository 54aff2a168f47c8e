use Rattle.std.proofs.Common.{◌≡◌, ◌+◌, ◌^◌, ◌<◌, ◌≤◌, length, vec_len, vec_capacity}
use Rattle.lis_region.specs.Region.{free_frames}
use Rattle.lis_journal.specs.Inside.{AreApart, entries_of}
use Rattle.lis_journal.proofs.Frames.{AllWhole}
use Rattle.lis_journal.proofs.stage.Stage.clear.Given as goal

abbrev pub invariant-loop-last : goal.invariant-loop-last
invariant-loop-last l = record {
  layout : l.self-inside.layout ≡ l.initial.self-inside.layout;
  capacity : l.self-inside.capacity ≡ l.initial.self-inside.capacity;
  narrow : l.self-inside.layout.blocks < 2 ^ 32;
  small : l.self-inside.capacity ≤ 2 ^ 16;
  wide : l.self-inside.pool.width ≡ 4096;
  whole : AllWhole (entries_of l.self-inside.pool l.self-inside.staged.items);
  apart : AreApart l.self-inside.staged.items;
  counted : free_frames l.self-inside.pool + length l.self-inside.staged.items ≡ l.self-inside.capacity;
  has_room : l.self-inside.capacity ≤ vec_capacity l.self-inside.staged;
}

abbrev pub decreases-loop-last : goal.decreases-loop-last
decreases-loop-last l = vec_len l.self-inside.staged
