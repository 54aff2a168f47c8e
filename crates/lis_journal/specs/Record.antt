-- The journal on a disk: blocks, gates, records, and the image that counts once the open records are replayed.
use Rattle.std.specs.Prelude.{◌-◌, ℕ, ◌+◌, ◌*◌, ◌/◌, ◌==◌, zero, suc, nat_lt, nat_le, Bool, true, ◌&&◌, if◌then◌else◌, List, [], ◌∷◌, ◌++◌, drop, map, replicate, slice_index, Option, Some, None, is_some}
use Rattle.std.specs.Int.{w32, from_le_bytes}
use Rattle.std.specs.List.{list_all, list_any, prefix_len}
use Rattle.lis_limits.specs.declared.TheConstants.{BLOCK_LEN, GATES}
use Rattle.lis_ports.specs.Bytes.{part, put}
use Rattle.lis_journal.specs.declared.layout.Layout.{Layout}

-- the first home block, after block 0, the gates, and the blocks of the records
abbrev pub homes_start : Layout → ℕ
homes_start layout = layout.records + 2

abbrev pub block : ℕ → List ℕ → List ℕ
block n image = part (BLOCK_LEN * n) BLOCK_LEN image

-- The gates are the first 64 bytes of block 1. A gate is open if its byte is 1, and closed if it has any other value.
abbrev pub gates : List ℕ → List ℕ
gates image = part BLOCK_LEN GATES image

abbrev pub is_open : ℕ → List ℕ → Bool
is_open k image = slice_index (gates image) k == 1

abbrev pub has_open : List ℕ → Bool
has_open image = list_any (λ gate. gate == 1) (gates image)

-- How many records are open: the gates before the first closed one.
unfoldable pub open_count : List ℕ → ℕ
open_count image = prefix_len (λ gate. gate == 1) (gates image)

-- all of the journal's bytes except the gates: the rest of block 1, and the records
abbrev pub behind_gates : Layout → List ℕ → List ℕ
behind_gates layout image = part (BLOCK_LEN + GATES) (BLOCK_LEN * layout.records + (BLOCK_LEN - GATES)) image

-- a block and its content
pub record HomeBlock : Type 0 where
  pub home : ℕ
  pub bytes : List ℕ

abbrev pub homes : List HomeBlock → List ℕ
homes entries = map (λ e. e.home) entries

-- the k-th number of a header, lowest byte first
abbrev pub word : ℕ → List ℕ → ℕ
word k header = from_le_bytes w32 (part (4 * k) 4 header)

-- n numbers of a header, from the k-th on
abbrev pub words : ℕ → ℕ → List ℕ → List ℕ
words k zero header = []
words k (suc n) header = word k header ∷ words (k + 1) n header

abbrev pub count_of : List ℕ → ℕ
count_of header = word 0 header

abbrev pub homes_of : List ℕ → List ℕ
homes_of header = words 1 (count_of header) header

-- Homes rise from above a number, and stay inside the image.
abbrev pub rises : ℕ → ℕ → List ℕ → Bool
rises blocks last [] = true
rises blocks last (home ∷ homes) = nat_lt last home && nat_lt home blocks && rises blocks home homes

-- A header is well formed: its count is not 0, it has as many homes, strictly rising, each a home block inside the image, then zeros.
abbrev pub is_header : Layout → List ℕ → Bool
is_header layout header =
    nat_lt 0 (count_of header) && rises layout.blocks (layout.records + 1) (homes_of header) && list_all (λ b. b == 0) (drop (4 * (count_of header + 1)) header)

-- how many blocks the header of a record of `count` homes has: a number takes 4 bytes, and the count comes before the homes
abbrev pub header_blocks : ℕ → ℕ
header_blocks count = count / (BLOCK_LEN / 4) + 1

-- how many blocks such a record has: its header, and a content for each home
abbrev pub record_len : ℕ → ℕ
record_len count = header_blocks count + count

-- the count and the header of the record that begins at block b
abbrev pub count_at : ℕ → List ℕ → ℕ
count_at b image = from_le_bytes w32 (part (BLOCK_LEN * b) 4 image)

abbrev pub header_at : ℕ → List ℕ → List ℕ
header_at b image = part (BLOCK_LEN * b) (BLOCK_LEN * header_blocks (count_at b image)) image

-- the block after the record that begins at block b
unfoldable pub record_end : ℕ → List ℕ → ℕ
record_end b image = b + record_len (count_at b image)

-- A record is well formed: its header is, and it ends before the home blocks.
unfoldable pub is_record : Layout → ℕ → List ℕ → Bool
is_record layout b image = is_header layout (header_at b image) && nat_le (record_end b image) (homes_start layout)

-- homes with the blocks of the image from the k-th on
abbrev pub entries_from : ℕ → List ℕ → List ℕ → List HomeBlock
entries_from k [] image = []
entries_from k (home ∷ homes) image =
    record { home = home; bytes = block k image } ∷ entries_from (k + 1) homes image

-- what the record that begins at block b puts into the homes
unfoldable pub recorded : ℕ → List ℕ → List HomeBlock
recorded b image = entries_from (b + header_blocks (count_at b image)) (homes_of (header_at b image)) image

-- Of n records in sequence from block b on: the block after them, the block of the first malformed one, and the contents of all of them, in
-- their order.
abbrev pub behind : ℕ → ℕ → List ℕ → ℕ
behind b zero image = b
behind b (suc n) image = behind (record_end b image) n image

abbrev pub first_bad : Layout → ℕ → ℕ → List ℕ → Option ℕ
first_bad layout b zero image = None
first_bad layout b (suc n) image =
    if is_record layout b image then first_bad layout (record_end b image) n image else Some b

abbrev pub all_recorded : ℕ → ℕ → List ℕ → List HomeBlock
all_recorded b zero image = []
all_recorded b (suc n) image = recorded b image ++ all_recorded (record_end b image) n image

-- an image with each entry in its home, the later ones over the earlier
abbrev pub apply : List HomeBlock → List ℕ → List ℕ
apply [] image = image
apply (e ∷ entries) image = apply entries (put image (BLOCK_LEN * e.home) e.bytes)

-- the block of the first malformed open record
unfoldable pub bad_record : Layout → List ℕ → Option ℕ
bad_record layout image = first_bad layout 2 (open_count image) image

-- The replayed image: the image with the contents of the open records in their homes; none if an open record is malformed.
unfoldable pub replayed : Layout → List ℕ → Option (List ℕ)
replayed layout image =
    if is_some (bad_record layout image) then None
    else Some (apply (all_recorded 2 (open_count image) image) image)

-- An image with its gates closed: gate 0 if it was open, and all others.
unfoldable pub gates_closed : Bool → List ℕ → List ℕ
gates_closed first image = put (if first then put image BLOCK_LEN (0 ∷ []) else image) (BLOCK_LEN + 1) (replicate (GATES - 1) 0)

-- What a recovery makes of an image. If a gate is open and there is a replayed image, that image with its gates closed; otherwise the image
-- itself.
abbrev pub recovered_as : List ℕ → Option (List ℕ) → List ℕ
recovered_as image None = image
recovered_as image (Some replay) = gates_closed (is_open 0 image) replay

unfoldable pub recovered : Layout → List ℕ → List ℕ
recovered layout image =
    if has_open image then recovered_as image (replayed layout image) else image
