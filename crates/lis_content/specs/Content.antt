-- The bytes of a file over data blocks, and what is taken for them.
use Rattle.std.specs.Prelude.{ℕ, ◌+◌, ◌==◌, nat_lt, Bool, true, false, not, ◌&&◌, List, length, take, slice_set}
use Rattle.std.specs.List.{flat_map, fold, list_all, list_any}
use Rattle.lis_blockmap.specs.Bitmap.{is_taken}

-- the bytes of a file, by what each block has
abbrev pub content : ℕ → List ℕ → ℕ → (ℕ → List ℕ) → List ℕ
content base blocks size at = take size (flat_map (λ b. at (base + b)) blocks)

-- what is taken when these blocks are freed
abbrev pub given : List Bool → List ℕ → List Bool
given taken blocks = fold (λ t n. slice_set t n false) taken blocks

-- and when these are taken
abbrev pub marked : List Bool → List ℕ → List Bool
marked taken blocks = fold (λ t n. slice_set t n true) taken blocks

abbrev pub are_taken : List Bool → List ℕ → Bool
are_taken taken blocks = list_all (is_taken taken) blocks

-- There are such blocks, and none of them is taken.
abbrev pub are_free : List Bool → List ℕ → Bool
are_free taken blocks = list_all (λ n. nat_lt n (length taken) && not (is_taken taken n)) blocks

-- n is the home of one of the data blocks
abbrev pub has_home : ℕ → List ℕ → ℕ → Bool
has_home base blocks n = list_any (λ b. base + b == n) blocks

-- the homes of the data blocks are below a bound
abbrev pub are_within : ℕ → ℕ → List ℕ → Bool
are_within base bound blocks = list_all (λ b. nat_lt (base + b) bound) blocks
