-- The fields of an `Ext`, and what the functions over them do. No public clause cites this module.
use Rattle.std.specs.Prelude.{◌≡◌, ◌⊎◌, ℕ, ◌+◌, ◌<◌, ◌≤◌, Bool, not, ◌&&◌, ◌||◌, ◌==◌, if◌then◌else◌, All, List, [], length, slice_index, slice_index_or}
use Rattle.std.specs.List.Sorted.{IsStrictlyIncreasing}
use Rattle.lis_limits.specs.declared.TheConstants.{V3_MAX_FILES, V3_MAX_PROPS}
use Rattle.lis_bits.specs.Rows.{Rows, HasShape, get}
use Rattle.lis_ext.specs.Numbers.{has_number, numbers_where}
use Rattle.lis_ext.specs.Ext.{Ext, count_of}

-- the number is one of the list and none of the others
abbrev pub has_alone : List ℕ → List ℕ → ℕ → Bool
has_alone numbers others p = has_number numbers p && not (has_number others p)

-- the counts of the numbers that pass the test are higher by one, and the others are the same
abbrev pub CountsUp : List ℕ → List ℕ → ℕ → (ℕ → Bool) → Type 0
CountsUp low high props touched = (p : ℕ) → p < props → slice_index high p ≡ slice_index low p + (if touched p then 1 else 0)

-- the numbers that pass the test are marked
pub record Touches (old new : Rows) (props : ℕ) (touched : ℕ → Bool) : Type 0 where
  pub shape : HasShape new 1 props
  pub marks : (p : ℕ) → p < props → get new 0 p ≡ (get old 0 p || touched p)

-- The file's bit has this value in the row of each number that passes the test, and all other bits stay. At most as many edits are made as
-- there are numbers that pass.
pub record PutsBits (old new : Rows) (props files file : ℕ) (touched : ℕ → Bool) (value : Bool) : Type 0 where
  pub shape : HasShape new props files
  pub bits : (p i : ℕ) → p < props → i < files → get new p i ≡ (if (i == file) && touched p then value else get old p i)
  pub edits : new.edits ≤ old.edits + length (numbers_where props touched)
  pub no_fewer : old.edits ≤ new.edits

-- what a contract sees of the fields
abbrev pub seen : List (List ℕ) → Rows → Rows → ℕ → Ext
seen lists rows marks props = record { props = props; sets = lists; marks = numbers_where props (get marks 0); edits = rows.edits }

-- each row has the files whose lists have its number
abbrev pub AreInStep : List (List ℕ) → Rows → ℕ → ℕ → Type 0
AreInStep lists rows props files = (p i : ℕ) → p < props → i < files → get rows p i ≡ has_number (slice_index_or lists i []) p

-- the list of the file has the number
abbrev pub has_in : List (List ℕ) → ℕ → ℕ → Bool
has_in lists p i = has_number (slice_index_or lists i []) p

abbrev pub ListsRise : List (List ℕ) → Type 0
ListsRise lists = (i : ℕ) → i < length lists → IsStrictlyIncreasing (slice_index_or lists i [])

-- what the fields keep: there are rows of all numbers, or of none
pub record IsSoundExt (lists : List (List ℕ)) (counts : List ℕ) (rows marks : Rows) (props files kept : ℕ) : Type 0 where
  pub few_props : props ≤ V3_MAX_PROPS
  pub few_files : files ≤ V3_MAX_FILES
  pub long : length lists ≡ files
  pub all_or_none : (kept ≡ 0) ⊎ (kept ≡ props)
  pub rows_shape : HasShape rows kept files
  pub marks_shape : HasShape marks 1 props
  pub room : length counts ≡ props
  pub rise : (i : ℕ) → i < files → IsStrictlyIncreasing (slice_index_or lists i [])
  pub in_range : (i : ℕ) → i < files → All (λ p. p < props) (slice_index_or lists i [])
  pub counted : (p : ℕ) → p < props → slice_index counts p ≡ count_of lists p
  pub in_step : AreInStep lists rows kept files
