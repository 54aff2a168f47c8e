-- The record as it is stored: the bytes of all writes are in sequence, and so are those of all shows.
use Rattle.std.specs.Prelude.{ℕ, ◌+◌, nat_le, Bool, true, List, map}
use Rattle.std.specs.List.{list_all}
use Rattle.lis_ports.specs.Bytes.{part}
use Rattle.lis_memdisk.specs.declared.event.Span.{Span}
use Rattle.lis_memdisk.specs.declared.event.Kind.{Kind}
use Rattle.lis_memdisk.specs.declared.event.Kind.TheVariants.{Write, Sync, Show}
use Rattle.lis_memdisk.specs.declared.event.Event.{Event}
use Rattle.lis_memdisk.specs.Changes.{Deed, Change}
use Rattle.lis_memdisk.specs.Changes.Deed.{Writes, Syncs, Shows}

abbrev pub spanned : Span → List ℕ → List ℕ
spanned span xs = part span.from span.len xs

abbrev pub deed_of : List ℕ → List ℕ → Kind → Deed
deed_of given shown (Write place span) = Writes place (spanned span given)
deed_of given shown Sync = Syncs
deed_of given shown (Show span) = Shows (spanned span shown)

abbrev pub change_of : List ℕ → List ℕ → Event → Change
change_of given shown e = record { calls = e.calls; shows = e.shows; deed = deed_of given shown e.kind }

abbrev pub changes_of : List ℕ → List ℕ → List Event → List Change
changes_of given shown events = map (change_of given shown) events

abbrev pub is_in : Span → ℕ → Bool
is_in span len = nat_le (span.from + span.len) len

abbrev pub has_bytes : ℕ → ℕ → Kind → Bool
has_bytes given shown (Write place span) = is_in span given
has_bytes given shown Sync = true
has_bytes given shown (Show span) = is_in span shown

-- the bytes of each event are stored
abbrev pub all_stored : ℕ → ℕ → List Event → Bool
all_stored given shown events = list_all (λ e. has_bytes given shown e.kind) events

-- the bytes that a write took are stored
abbrev pub has_given : ℕ → Kind → Bool
has_given given (Write place span) = is_in span given
has_given given Sync = true
has_given given (Show span) = true

-- how many bytes an event showed
abbrev pub shown_len : Kind → ℕ
shown_len (Write place span) = 0
shown_len Sync = 0
shown_len (Show span) = span.len
