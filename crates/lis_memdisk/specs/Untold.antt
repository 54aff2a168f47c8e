-- A station that reports no content.
use Rattle.std.specs.Prelude.{ℕ, false, [], None}
use Rattle.lis_ports.specs.Meaning.{Meaning}

-- its length, its two counts of faults and how many calls had failed when the last one began, and nothing else
abbrev pub untold : ℕ → ℕ → ℕ → ℕ → Meaning
untold len disk_faults show_faults behind = record {
  is_honest = false;
  len = len;
  bytes = [];
  images = λ _. ⊥;
  clock = 0;
  is_recorded = false;
  moments = λ _ _ _. ⊥;
  shown = None;
  disk_faults = disk_faults;
  show_faults = show_faults;
  behind = behind;
}
