-- What the rooms over an image keep.
use Rattle.std.specs.Prelude.{◌≡◌, length}
use Rattle.lis_eval.specs.declared.scratch.Scratch.{Scratch}
use Rattle.lis_store.specs.Stored.{Stored}
use Rattle.lis_session.specs.Session.{CanWork}
use Rattle.lis_rooms.specs.Rooms.{Places}

-- the store fits the working memory, and there are eight rooms
pub record CanServe (store : Stored) (scratch : Scratch) (places : Places) : Type 0 where
  pub works : CanWork store scratch
  pub eight : length places ≡ 8
