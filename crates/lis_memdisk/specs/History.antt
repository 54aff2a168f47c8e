-- A history as a contract sees it.
use Rattle.lis_memdisk.specs.declared.history.History.{History}
use Rattle.lis_memdisk.specs.Seen.{Seen}
use Rattle.lis_memdisk.specs.Event.{changes_of}

abbrev pub seen_of : History → Seen
seen_of h = record {
  is_kept = h.is_kept;
  start = h.start.items;
  changes = changes_of h.given.items h.shown.items h.events.items;
  bytes = h.bytes.items;
  shown = h.shown.items;
  left = h.left;
  calls = h.calls;
  shows = h.shows;
}
