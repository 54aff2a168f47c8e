-- A region as its users see it: its frames after one is set, and after one was lent.
use Rattle.std.proofs.Common.{◌≡◌, ◌≢◌, ℕ, zero, suc, ◌<◌, List, [], ◌∷◌, length, Option, Some, None, get_or, get_or-set_same, get_or-set_other, arith}
use Rattle.std.proofs.Math.ListN.{drop_of_length-le}
use Rattle.std.proofs.lemmas.List.{append-nil, take_all}
use Rattle.std.specs.List.{refill}
use Rattle.lis_region.specs.Region.{Region, get, with_frame}

-- if as many items are written as the frame has, they are its items
pub refill_same : {X : Type 0} (n : ℕ) (xs ws : List X) → length xs ≡ n → length ws ≡ n → refill n xs ws ≡ ws
refill_same n xs ws old new = rw (drop_of_length-le xs {i = length ws} (omega arith), append-nil) (take_all n ws (omega arith))

module _ {T : Type 0} where
  some_in_range : (frames : List (Option (List T))) (frame : ℕ) (items : List T) → get_or frames frame None ≡ Some items → frame < length frames
  some_in_range [] frame items some = absurd cc
  some_in_range (f ∷ frames) zero items some = omega arith
  some_in_range (f ∷ frames) (suc frame) items some = omega (arith, some_in_range frames frame items some)

  -- a frame that is taken has a number below that of all frames
  pub frame_in_range : (r : Region T) (frame : ℕ) (items : List T) → get r frame ≡ Some items → frame < length r.frames
  frame_in_range r frame items some = some_in_range r.frames frame items some

  pub get-with_frame_same : (r : Region T) (frame : ℕ) (items : Option (List T)) → frame < length r.frames → get (with_frame r frame items) frame ≡ items
  get-with_frame_same r frame items in_range = get_or-set_same r.frames frame items None in_range

  pub get-with_frame_other : (r : Region T) (frame other : ℕ) (items : Option (List T)) → other ≢ frame → get (with_frame r frame items) other ≡ get r other
  get-with_frame_other r frame other items differ = get_or-set_other r.frames frame other items None differ
