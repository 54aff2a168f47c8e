-- What a contract sees of an `Ext`.
use Rattle.std.specs.Prelude.{ℕ, ◌<◌, ◌≤◌, Bool, ◌&&◌, ◌||◌, All, List, [], length, replicate, slice_index_or, count_by}
use Rattle.std.specs.List.Sorted.{IsStrictlyIncreasing}
use Rattle.lis_limits.specs.declared.TheConstants.{V3_MAX_FILES, V3_MAX_PROPS}
use Rattle.lis_ext.specs.Numbers.{has_number, numbers_where}

-- numbers below `props`, the set of each file as a rising list, the numbers that are marked as changed, in rising order, and a count of
-- edits: it never falls, and a file's new set adds at most as many edits as there are numbers that the file gets or loses
pub record Ext : Type 0 where
  pub props : ℕ
  pub sets : List (List ℕ)
  pub marks : List ℕ
  pub edits : ℕ

-- the set of a file
abbrev pub set_of : Ext → ℕ → List ℕ
set_of e file = slice_index_or e.sets file []

-- the file has the number
abbrev pub has : Ext → ℕ → ℕ → Bool
has e prop file = has_number (set_of e file) prop

-- how many of the sets have the number
abbrev pub count_of : List (List ℕ) → ℕ → ℕ
count_of sets prop = count_by (λ set. has_number set prop) sets

-- how many of the files that pass a test have the number
abbrev pub count_where : Ext → (ℕ → Bool) → ℕ → ℕ
count_where e test prop = length (numbers_where (length e.sets) (λ file. test file && has e prop file))

abbrev pub empty_ext : ℕ → ℕ → Ext
empty_ext props files = record { props = props; sets = replicate files []; marks = []; edits = 0 }

-- the marks, with those of the numbers that pass a test
abbrev pub with_marks : Ext → (ℕ → Bool) → List ℕ
with_marks e test = numbers_where e.props (λ p. has_number e.marks p || test p)

-- what each `Ext` keeps
pub record IsKept (e : Ext) : Type 0 where
  pub few_props : e.props ≤ V3_MAX_PROPS
  pub few_files : length e.sets ≤ V3_MAX_FILES
  pub rise : (i : ℕ) → i < length e.sets → IsStrictlyIncreasing (set_of e i)
  pub in_range : (i : ℕ) → i < length e.sets → All (λ p. p < e.props) (set_of e i)
