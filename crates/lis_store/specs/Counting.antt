-- How much of a state a store reports.
use Rattle.std.specs.Prelude.{◌≡◌, length, count_by}
use Rattle.lis_blockmap.specs.Bitmap.{free_count}
use Rattle.lis_model.specs.State.{State, known}
use Rattle.lis_model.specs.Step.{free_blocks}
use Rattle.lis_kept.specs.Metadata.{Metadata}
use Rattle.lis_kept.specs.Linking.{is_filled}

-- the metadata has as many files, words, axioms and free blocks as the state
pub record CountsState (k : Metadata) (s : State) : Type 0 where
  pub files : length k.catalog.entries ≡ length s.files
  pub known : length k.dict.entries ≡ length (known s)
  pub axioms : count_by is_filled k.axioms ≡ length s.axioms
  pub free : free_count k.taken ≡ free_blocks s
