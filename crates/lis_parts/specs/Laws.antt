-- What happens to a view that is put back as it was shown.
use Rattle.std.specs.Prelude.{◌≡◌, ℕ, ◌==◌, nat_lt, Bool, not, ◌&&◌, if◌then◌else◌, List, length}
use Rattle.lis_model.specs.declared.refusal.Refusal.TheVariants.{NoSpace}
use Rattle.lis_model.specs.State.{State, File, WellFormed, blocks_taken}
use Rattle.lis_model.specs.Changes.{file_of}
use Rattle.lis_model.specs.Replies.{ok_line, refusal_line}
use Rattle.lis_model.specs.Step.{Outcome, free_blocks}
use Rattle.lis_store.specs.Retagging.{place_or_refusal}
use Rattle.lis_session.specs.Parts.{only_shows}
use Rattle.lis_session.specs.Session.{root_of}
use Rattle.lis_parts.specs.Commands.{formula_of, done_of, view, put}

-- Too few blocks are free for the file's bytes a second time. Version 1 writes over the old blocks, and later versions keep them until the new
-- ones are written.
abbrev pub lacks_space : State → File → Bool
lacks_space s file = not (s.limits.version == 1) && nat_lt (free_blocks s) (blocks_taken s.limits.version (length file.bytes))

abbrev pub space_line : State → File → List ℕ
space_line s file = if lacks_space s file then refusal_line NoSpace else ok_line

-- what is put back: exactly the bytes that viewing the file shows
abbrev pub put_unchanged : State → List ℕ → List ℕ → Outcome
put_unchanged s name text = put (root_of s) name text (view (root_of s) name text).reply

-- The state stays. What the view was refused for, this is refused for as well. Otherwise the reply is `ok`, except for lack of space.
pub record LeavesState (s : State) (name text : List ℕ) : Type 0 where
  pub state : (put_unchanged s name text).next ≡ root_of s
  pub answer : put_unchanged s name text
      ≡ done_of (root_of s) name (place_or_refusal (formula_of text)) (λ place. only_shows (space_line s (file_of s.files name)) (root_of s))

-- A view that is put back unchanged leaves the state.
abbrev pub UnchangedViewLeaves : Type 0
UnchangedViewLeaves = (s : State) → WellFormed s → (name text : List ℕ) → LeavesState s name text
