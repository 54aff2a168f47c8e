-- What the headline requires at the start, of a station and a source in memory.
use Rattle.std.specs.Prelude.{◌≡◌, ℕ, nat_lt, List, [], drop, Option, Some}
use Rattle.lis_ports.specs.declared.source.MemSource.{MemSource}
use Rattle.lis_memdisk.specs.declared.mem_station.MemStation.{MemStation}
use Rattle.lis_memdisk.specs.MemStation.{meaning_of}
use Rattle.lis_model.specs.declared.limits.Limits.{Limits}
use Rattle.lis_model.specs.State.{empty_state}
use Rattle.lis_shell.specs.Runs.{AtEntry}

-- the bytes that a source in memory has left
abbrev pub left_of : MemSource → Option (List ℕ)
left_of source = Some (drop source.place source.bytes.items)

-- A run over the station begins as the headline requires, with any source in memory. The image represents the empty state, and a crash then
-- leaves the bytes as they read. What was shown is known, and, if there is room for a record, so are the moments.
pub record IsBegun (limits : Limits) (room : ℕ) (station : MemStation) : Type 0 where
  pub entry : (source : MemSource) (bytes : List ℕ) → left_of source ≡ Some bytes
      → AtEntry (meaning_of station) (left_of source) (empty_state limits) bytes
  pub settled : (image : List ℕ) → (meaning_of station).images image → image ≡ (meaning_of station).bytes
  pub shown : (meaning_of station).shown ≡ Some []
  pub recorded : (meaning_of station).is_recorded ≡ nat_lt 0 room
