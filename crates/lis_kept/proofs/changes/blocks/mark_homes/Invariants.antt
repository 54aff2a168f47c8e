use Rattle.std.proofs.Common.{◌≡◌, ◌-◌, map, drop}
use Rattle.lis_content.specs.Content.{marked}
use Rattle.lis_model.specs.Image.{data_start}
use Rattle.lis_kept.specs.Areas.{bitmap_home}
use Rattle.lis_kept.proofs.changes.blocks.mark_homes.Given as goal

-- the marks are yet to be made of the blocks that are left
abbrev pub invariant-loop-home : goal.invariant-loop-home
invariant-loop-home l =
    marked l.marks (map (λ h. bitmap_home l.limits (h - data_start l.limits)) (drop l.home-index l.homes))
    ≡ marked l.fn.marks (map (λ h. bitmap_home l.limits (h - data_start l.limits)) l.homes)
