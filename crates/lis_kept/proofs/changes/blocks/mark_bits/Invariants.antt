use Rattle.std.proofs.Common.{◌≡◌, drop}
use Rattle.lis_content.specs.Content.{marked}
use Rattle.lis_kept.specs.Changes.{bitmap_homes}
use Rattle.lis_kept.proofs.changes.blocks.mark_bits.Given as goal

-- the marks are yet to be made of the blocks that are left
abbrev pub invariant-loop-n : goal.invariant-loop-n
invariant-loop-n l = marked l.marks (bitmap_homes l.limits (drop l.n-index l.blocks)) ≡ marked l.fn.marks (bitmap_homes l.limits l.blocks)
