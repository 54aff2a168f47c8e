-- Which limits a state may have.
use Rattle.std.specs.Prelude.{ℕ, ◌^◌, ◌%◌, ◌==◌, nat_le, Bool, ◌&&◌, if◌then◌else◌}
use Rattle.std.specs.List.{list_any, range_with_len}
use Rattle.lis_limits.specs.declared.TheConstants.{MAX_FILES, MAX_PROPS, MAX_BLOCKS, V3_MAX_FILES, V3_MAX_PROPS, V3_MAX_BLOCKS}
use Rattle.lis_model.specs.declared.limits.Limits.{Limits}

-- the most files, words and data blocks of a version
abbrev pub most_files : ℕ → ℕ
most_files version = if version == 3 then V3_MAX_FILES else MAX_FILES

abbrev pub most_props : ℕ → ℕ
most_props version = if version == 3 then V3_MAX_PROPS else MAX_PROPS

abbrev pub most_blocks : ℕ → ℕ
most_blocks version = if version == 3 then V3_MAX_BLOCKS else MAX_BLOCKS

-- a power of two from 64 to the most files
abbrev pub is_files_limit : ℕ → ℕ → Bool
is_files_limit version n = list_any (λ k. n == 2 ^ k) (range_with_len 6 13) && nat_le n (most_files version)

-- a multiple of 64 from 64 to the most words
abbrev pub is_props_limit : ℕ → ℕ → Bool
is_props_limit version n = nat_le 64 n && nat_le n (most_props version) && (n % 64 == 0)

abbrev pub is_blocks_limit : ℕ → ℕ → Bool
is_blocks_limit version n = nat_le 1 n && nat_le n (most_blocks version)

abbrev pub is_version : ℕ → Bool
is_version n = nat_le 1 n && nat_le n 3

abbrev pub are_in_range : Limits → Bool
are_in_range limits =
    is_files_limit limits.version limits.files && is_props_limit limits.version limits.props && is_blocks_limit limits.version limits.blocks
    && is_version limits.version
