-- A disk in memory by what changed it: the states that it had, and what a crash could have left at each.
use Rattle.std.specs.Prelude.{◌≡◌, ◌⊎◌, ℕ, ◌+◌, ◌*◌, ◌%◌, ◌^◌, ◌<◌, ◌==◌, nat_lt, nat_le, Bool, if◌then◌else◌, List, [], ◌∷◌, ◌++◌, length}
use Rattle.lis_ports.specs.Bytes.{part, put, Torn}

-- what a call that changes something did
pub data Deed : Type 0 where
  Writes : ℕ → List ℕ → Deed
  Syncs : Deed
  Shows : List ℕ → Deed

-- a deed, and how many disk calls and how many calls that show there were by then, its own call included
pub record Change : Type 0 where
  pub calls : ℕ
  pub shows : ℕ
  pub deed : Deed

-- a write that no sync followed
pub record Unsynced : Type 0 where
  pub place : ℕ
  pub bytes : List ℕ

pub record Medium : Type 0 where
  -- the bytes of the last sync, or of the start
  pub synced : List ℕ
  -- the newest first
  pub unsynced : List Unsynced
  pub shown : List ℕ

abbrev pub fresh : List ℕ → Medium
fresh start = record { synced = start; unsynced = []; shown = [] }

abbrev pub written : List Unsynced → List ℕ → List ℕ
written [] synced = synced
written (w ∷ ws) synced = put (written ws synced) w.place w.bytes

-- the bytes as they read
abbrev pub bytes_of : Medium → List ℕ
bytes_of s = written s.unsynced s.synced

abbrev pub after : Medium → Deed → Medium
after s (Writes place bytes) = record {
  synced = s.synced;
  unsynced = record { place = place; bytes = bytes } ∷ s.unsynced;
  shown = s.shown;
}
after s Syncs = record { synced = bytes_of s; unsynced = []; shown = s.shown }
after s (Shows piece) = record { synced = s.synced; unsynced = s.unsynced; shown = s.shown ++ piece }

abbrev pub replay : Medium → List Change → Medium
replay s [] = s
replay s (c ∷ cs) = replay (after s c.deed) cs

-- An image: the synced bytes, with any bytes in the range of each unsynced write.
abbrev pub IsImage : List Unsynced → List ℕ → List ℕ → Type 0
IsImage [] synced image = image ≡ synced
IsImage (w ∷ ws) synced image =
    (from : List ℕ) × IsImage ws synced from × Torn w.place (length w.bytes) from image

-- what a crash in this state leaves, with the bytes shown by then
abbrev pub IsLeft : Medium → List ℕ → List ℕ → Type 0
IsLeft s image bytes = IsImage s.unsynced s.synced image × (bytes ≡ s.shown)

-- a time: calls that show advance it between two disk calls
abbrev pub clock_at : ℕ → ℕ → ℕ
clock_at calls shows = calls * 2 ^ 64 + shows

abbrev pub time_of : Change → ℕ
time_of c = clock_at c.calls c.shows

-- A moment since a time: what a crash could have left in a state that a later change ended, or in the last state.
abbrev pub Moment : ℕ → Medium → List Change → List ℕ → List ℕ → Type 0
Moment t s [] image bytes = IsLeft s image bytes
Moment t s (c ∷ cs) image bytes =
    ((t < time_of c) × IsLeft s image bytes) ⊎ Moment t (after s c.deed) cs image bytes

-- A deed with these counts had happened when this disk call returned.
abbrev pub is_by : ℕ → ℕ → Deed → Bool
is_by call calls (Writes place bytes) = nat_le calls call
is_by call calls Syncs = nat_le calls call
is_by call calls (Shows piece) = nat_lt calls call

abbrev pub had_happened : ℕ → Change → Bool
had_happened call c = is_by call c.calls c.deed

-- the state just after a disk call; the changes are in the order of their calls
abbrev pub state_at : Medium → ℕ → List Change → Medium
state_at s call [] = s
state_at s call (c ∷ cs) = if had_happened call c then state_at (after s c.deed) call cs else s

-- what one unsynced byte at an index becomes
abbrev pub picked_byte : ℕ → ℕ → ℕ → ℕ → ℕ
picked_byte pick at new old =
    if pick == 0 then old else (if pick == 1 then new else (if pick == 2 then (if at % 2 == 0 then new else old) else pick))

abbrev pub picked : ℕ → ℕ → List ℕ → List ℕ → List ℕ
picked pick at [] old = []
picked pick at (x ∷ new) [] = []
picked pick at (x ∷ new) (y ∷ old) = picked_byte pick at x y ∷ picked pick (at + 1) new old

-- the image that a pick gives: in each unsynced write it decides of each byte between the new one and the one before
abbrev pub crashed : ℕ → List Unsynced → List ℕ → List ℕ
crashed pick [] synced = synced
crashed pick (w ∷ ws) synced =
    put (crashed pick ws synced) w.place (picked pick w.place w.bytes (part w.place (length w.bytes) (crashed pick ws synced)))

-- the bytes of a state, and the image that a pick gives of it
pub record IsAt (pick : ℕ) (s : Medium) (image bytes : List ℕ) : Type 0 where
  pub image_is : image ≡ crashed pick s.unsynced s.synced
  pub bytes_are : bytes ≡ bytes_of s
