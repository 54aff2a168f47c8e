-- A disk in memory as a contract sees it, and its meaning.
use Rattle.std.specs.Prelude.{◌≡◌, ℕ, ◌+◌, ◌-◌, ◌^◌, ◌<◌, ◌≤◌, min, nat_lt, nat_le, Bool, true, ◌&&◌, ◌||◌, if◌then◌else◌, List, [], ◌∷◌, ◌++◌, length, Some, IsTrue}
use Rattle.std.specs.List.{list_all}
use Rattle.lis_memdisk.specs.declared.history.TheConstants.{PLAIN_ROOM}
use Rattle.lis_ports.specs.Meaning.{Meaning}
use Rattle.lis_ports.specs.Bytes.{put}
use Rattle.lis_memdisk.specs.Changes.{Deed, Change, Medium, fresh, bytes_of, replay, IsImage, clock_at, time_of, Moment}
use Rattle.lis_memdisk.specs.Changes.Deed.{Writes, Syncs, Shows}

pub record Seen : Type 0 where
  -- a record is kept of what changed it
  pub is_kept : Bool
  pub start : List ℕ
  pub changes : List Change
  pub bytes : List ℕ
  pub shown : List ℕ
  -- how many bytes of room are left
  pub left : ℕ
  pub calls : ℕ
  pub shows : ℕ

abbrev pub now_of : Seen → Medium
now_of s = replay (fresh s.start) s.changes

abbrev pub clock_of : Seen → ℕ
clock_of s = clock_at s.calls s.shows

-- how many disk calls and how many calls that show failed, and how many of both when the last call began
pub record Faults : Type 0 where
  pub disk : ℕ
  pub show : ℕ
  pub behind : ℕ

-- The meaning of the disk: it is honest, and reports images and moments if a record is kept.
abbrev pub meaning : Seen → Faults → Meaning
meaning s faults = record {
  is_honest = true;
  len = length s.bytes;
  bytes = s.bytes;
  images = λ image. IsTrue s.is_kept × IsImage (now_of s).unsynced (now_of s).synced image;
  clock = clock_of s;
  is_recorded = s.is_kept;
  moments = λ t image bytes. IsTrue s.is_kept × Moment t (fresh s.start) s.changes image bytes;
  shown = Some s.shown;
  disk_faults = faults.disk;
  show_faults = faults.show;
  behind = faults.behind;
}

-- a write within this many bytes
abbrev pub is_within : ℕ → Deed → Bool
is_within len (Writes place bytes) = nat_le (place + length bytes) len
is_within len Syncs = true
is_within len (Shows piece) = true

-- a deed that shows is counted
abbrev pub is_counted : ℕ → Deed → Bool
is_counted shows (Writes place bytes) = true
is_counted shows Syncs = true
is_counted shows (Shows piece) = nat_lt 0 shows

-- The record is that of a disk that reads as these bytes, shows these, and has these counts of calls.
pub record IsSoundSeen (s : Seen) : Type 0 where
  pub within : IsTrue (list_all (λ c. is_within (length s.start) c.deed) s.changes)
  pub counted : IsTrue (list_all (λ c. is_counted c.shows c.deed) s.changes)
  pub past : IsTrue (list_all (λ c. nat_le (time_of c) (clock_of s)) s.changes)
  pub reads : bytes_of (now_of s) ≡ s.bytes
  pub shows : (now_of s).shown ≡ s.shown

-- a count after one more call: it stays at its largest value
abbrev pub next_of : ℕ → ℕ
next_of count = min (count + 1) (2 ^ 64 - 1)

abbrev pub moved : Seen → ℕ → ℕ → Seen
moved s calls shows = record {
  is_kept = s.is_kept;
  start = s.start;
  changes = s.changes;
  bytes = s.bytes;
  shown = s.shown;
  left = s.left;
  calls = calls;
  shows = shows;
}

-- A call passed, and changed nothing but the counts of calls.
abbrev pub Passed : Seen → Seen → Type 0
Passed old new = new ≡ moved old new.calls new.shows

abbrev pub bytes_after : Deed → List ℕ → List ℕ
bytes_after (Writes place bytes) xs = put xs place bytes
bytes_after Syncs xs = xs
bytes_after (Shows piece) xs = xs

abbrev pub shown_after : Deed → List ℕ → List ℕ
shown_after (Writes place bytes) xs = xs
shown_after Syncs xs = xs
shown_after (Shows piece) xs = xs ++ piece

-- A call did this, and took this much room. If a record is kept, the deed is the last change of the record, and the clock advanced.
pub record Did (old new : Seen) (deed : Deed) (cost : ℕ) : Type 0 where
  pub kept : new.is_kept ≡ old.is_kept
  pub start : new.start ≡ old.start
  pub changes : IsTrue old.is_kept → new.changes ≡ old.changes ++ record { calls = new.calls; shows = new.shows; deed = deed } ∷ []
  pub passes : IsTrue old.is_kept → clock_of old < clock_of new
  pub bytes : new.bytes ≡ bytes_after deed old.bytes
  pub shown : new.shown ≡ shown_after deed old.shown
  pub left : new.left + cost ≡ old.left

-- There was one more disk call.
pub record IsNext (old new : Seen) : Type 0 where
  pub calls : new.calls ≡ next_of old.calls
  pub shows : new.shows ≡ old.shows
  pub later : clock_of old ≤ clock_of new

-- There was one more call that shows.
pub record IsNextShow (old new : Seen) : Type 0 where
  pub calls : new.calls ≡ old.calls
  pub shows : new.shows ≡ next_of old.shows
  pub later : clock_of old ≤ clock_of new

-- the room in the record that an event with n bytes takes, if a record is kept
abbrev pub cost_of : Bool → ℕ → ℕ
cost_of is_kept n = if is_kept then 48 + n else 0

-- The same for bytes that are shown: they take room in any case.
abbrev pub show_cost_of : Bool → ℕ → ℕ
show_cost_of is_kept n = if is_kept then 48 + n else n

-- There is no room left for a cost, or the record cannot count one more call.
abbrev pub is_full : Bool → ℕ → ℕ → ℕ → Bool
is_full is_kept left count cost = nat_lt left cost || (is_kept && nat_le (2 ^ 64 - 1) count)

-- at the start: with room 0 no record is kept, and 65,536 bytes may be shown
abbrev pub first_seen : List ℕ → ℕ → Seen
first_seen bytes room = record {
  is_kept = nat_lt 0 room;
  start = bytes;
  changes = [];
  bytes = bytes;
  shown = [];
  left = if nat_lt 0 room then room else PLAIN_ROOM;
  calls = 0;
  shows = 0;
}
