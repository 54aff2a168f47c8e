-- What a disk or a station means: what it reads as, what a crash may leave, and what was shown.
use Rattle.std.specs.Prelude.{◌≡◌, ℕ, ◌+◌, Bool, List, Option, Some}

pub record Meaning : Type 1 where
  -- The disk keeps the rules on content, and nobody else writes it. What is stated of bytes and images below is stated only if this holds.
  pub is_honest : Bool
  -- how many bytes the disk has
  pub len : ℕ
  -- the bytes as they read
  pub bytes : List ℕ
  -- the images that a crash now may leave
  pub images : List ℕ → Type 0
  -- a number that does not fall
  pub clock : ℕ
  -- The disk records its moments.
  pub is_recorded : Bool
  -- the moments since a time: an image that a crash could have left, with the bytes shown by then
  pub moments : ℕ → List ℕ → List ℕ → Type 0
  -- the bytes shown so far, or none if they are not recorded
  pub shown : Option (List ℕ)
  -- how many disk calls failed, and how many calls that show
  pub disk_faults : ℕ
  pub show_faults : ℕ
  -- how many calls had failed when the last one began
  pub behind : ℕ

-- how many calls failed, of the disk and of those that show
abbrev pub failed : Meaning → ℕ
failed m = m.disk_faults + m.show_faults

-- the moments of now
abbrev pub Now : Meaning → List ℕ → List ℕ → Type 0
Now m image bytes = m.images image × (m.shown ≡ Some bytes)
