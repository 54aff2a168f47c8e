-- What a `Region` becomes if a frame of it is lent.
use Rattle.std.specs.Prelude.{ℕ, List, Some, unwrap_or, []}
use Rattle.std.specs.List.{refill}
use Rattle.std.specs.Borrow.{Lends, Fml, RattleType, MutBor, Array}
use Rattle.lis_region.specs.Region.{Region, get, with_frame}
use Rattle.lis_region.specs.contracts.region.Region.{the_row}

module _ (T : RattleType) (r : MutBor (Region T.Denot)) (frame : ℕ) where
  -- once the borrow ends, the frame has the items that were written through it, as many as it had
  abbrev pub lends_frame : MutBor (List T.Denot) → Fml
  lends_frame items = Lends (the_row T) (Array T 0) r items
      (λ written. with_frame r.now frame (Some (refill r.now.width (unwrap_or (get r.now frame) []) written)))
