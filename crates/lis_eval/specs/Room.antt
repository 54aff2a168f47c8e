-- What a scratch has room for.
use Rattle.std.specs.Prelude.{◌≡◌, ℕ, length}
use Rattle.lis_bits.specs.Rows.{Rows, HasShape}
use Rattle.lis_model.specs.declared.limits.Limits.{Limits}
use Rattle.lis_eval.specs.View.{Seen, IsView}
use Rattle.lis_eval.specs.declared.scratch.Scratch.{Scratch}

-- rows by the slots of files and by the numbers of words, and room for the words of a route
pub record HasRoom (s : Scratch) (limits : Limits) : Type 0 where
  pub within : s.limits ≡ limits
  pub files : HasShape s.files 65 limits.files
  pub locals : HasShape s.locals 1 limits.files
  pub candidates : HasShape s.candidates 1 limits.props
  pub increments : HasShape s.increments 1 limits.props
  pub counts : length s.counts.items ≡ limits.props
  pub route : length s.route.items ≡ limits.files

-- the rows have a bit for each slot of the view
pub record CanMark (v : Seen) (rows : Rows) (files : ℕ) : Type 0 where
  pub kept : IsView v
  pub shape : HasShape rows 65 files
  pub within : files ≡ v.limits.files
