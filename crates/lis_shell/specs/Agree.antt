-- What sessions of one input show, over a plain state and over images, and what they leave.
use Rattle.std.specs.Prelude.{◌≡◌, ◌^◌, ℕ, List}
use Rattle.std.specs.Io.KnownBytes.{append_known}
use Rattle.lis_ports.specs.Meaning.{Meaning}
use Rattle.lis_ports.specs.Runs.{Always}
use Rattle.lis_model.specs.declared.limits.Limits.{Limits}
use Rattle.lis_model.specs.State.{State}
use Rattle.lis_model.specs.Step.{start_of, replies, step, replies_by, after_by}
use Rattle.lis_model.specs.Script.{script}
use Rattle.lis_store.specs.Stands.{Stands}
use Rattle.lis_session.specs.Session.{root_of}

-- the replies to all items of an input, from the empty state and the root
abbrev pub replies_from_empty : Limits → List ℕ → List ℕ
replies_from_empty limits bytes = replies (start_of limits) (script bytes (2 ^ 40))

-- `try` and `run` showed these bytes, each after what had been shown before.
pub record ShowSame (plain plain_after image image_after : Meaning) (bytes : List ℕ) : Type 0 where
  pub by_try : plain_after.shown ≡ append_known plain.shown bytes
  pub by_run : image_after.shown ≡ append_known image.shown bytes

-- ---- over images
-- the replies to all items of an input, from a state and the root, and the state after them
abbrev pub replies_from : State → List ℕ → List ℕ
replies_from state bytes = replies_by step (root_of state) (script bytes (2 ^ 40))

abbrev pub state_behind : State → List ℕ → State
state_behind state bytes = (after_by step (root_of state) (script bytes (2 ^ 40))).state

-- `run` and `load` showed these bytes, each after what had been shown before, and each image that either leaves represents the state.
pub record EndSame (run run_after load load_after : Meaning) (bytes : List ℕ) (state : State) : Type 0 where
  pub by_run : run_after.shown ≡ append_known run.shown bytes
  pub by_load : load_after.shown ≡ append_known load.shown bytes
  pub behind_run : Always run_after (λ image. Stands image state)
  pub behind_load : Always load_after (λ image. Stands image state)
