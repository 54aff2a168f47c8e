-- A station in memory as a contract sees it, and when it fails.
use Rattle.std.specs.Prelude.{◌≡◌, ℕ, ◌-◌, ◌^◌, ◌==◌, nat_lt, Bool, ◌||◌, List, []}
use Rattle.std.specs.List.{list_any}
use Rattle.lis_memdisk.specs.declared.history.TheConstants.{PLAIN_ROOM}
use Rattle.lis_ports.specs.Meaning.{Meaning}
use Rattle.lis_memdisk.specs.declared.mem_station.MemStation.{MemStation}
use Rattle.lis_memdisk.specs.Changes.{Medium, fresh, state_at}
use Rattle.lis_memdisk.specs.Seen.{Seen, Faults, Passed, meaning, next_of, is_full, cost_of, show_cost_of, first_seen}
use Rattle.lis_memdisk.specs.History.{seen_of}

-- what the station holds, whatever its settings
abbrev pub held : MemStation → Seen
held m = seen_of m.history

abbrev pub faults_of : MemStation → Faults
faults_of m = record { disk = m.disk_faults; show = m.show_faults; behind = m.behind }

abbrev pub meaning_of : MemStation → Meaning
meaning_of m = meaning (held m) (faults_of m)

-- The fuse is spent: the number of the next disk call is past it. The largest fuse is never spent.
abbrev pub is_spent : MemStation → Bool
is_spent m = nat_lt m.fuse (next_of (held m).calls)

-- The next disk call was set to fail.
abbrev pub is_told : MemStation → Bool
is_told m = list_any (λ n. n == next_of (held m).calls) m.fails.items || is_spent m

-- The next call that shows was set to fail.
abbrev pub is_told_to_show : MemStation → Bool
is_told_to_show m = list_any (λ n. n == next_of (held m).shows) m.show_fails.items || is_spent m

-- The record has no room for a disk call with n bytes.
abbrev pub lacks_room : MemStation → ℕ → Bool
lacks_room m n = is_full (held m).is_kept (held m).left (held m).calls (cost_of (held m).is_kept n)

-- The station has no room for n bytes that are shown.
abbrev pub lacks_room_to_show : MemStation → ℕ → Bool
lacks_room_to_show m n = is_full (held m).is_kept (held m).left (held m).shows (show_cost_of (held m).is_kept n)

-- the state when a disk call returned
abbrev pub state_of : MemStation → ℕ → Medium
state_of m call = state_at (fresh (held m).start) call (held m).changes

-- A new station: it reads as these bytes, nothing was written or shown, no call failed, and none was set to fail.
pub record IsNew (m : MemStation) (bytes : List ℕ) (room : ℕ) : Type 0 where
  pub held_is : held m ≡ first_seen bytes room
  pub disk_faults : m.disk_faults ≡ 0
  pub show_faults : m.show_faults ≡ 0
  pub behind : m.behind ≡ 0
  pub fails : m.fails.items ≡ []
  pub show_fails : m.show_fails.items ≡ []
  pub fuse : m.fuse ≡ 2 ^ 64 - 1
  pub step : m.step ≡ PLAIN_ROOM

-- The settings stay: which calls fail, and how much one shows.
abbrev pub KeepsOrders : MemStation → MemStation → Type 0
KeepsOrders old new =
    (new.fails.items ≡ old.fails.items) × (new.show_fails.items ≡ old.show_fails.items) × (new.fuse ≡ old.fuse) × (new.step ≡ old.step)

-- A call failed: what is held stays except for the counts of calls, and this count of faults is one more, or stays at its largest value.
abbrev pub CountsOne : MemStation → MemStation → ℕ → ℕ → Type 0
CountsOne old new before now = Passed (held old) (held new) × (now ≡ next_of before)
