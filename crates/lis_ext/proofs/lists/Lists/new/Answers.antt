use Rattle.std.proofs.Common.{rules, ◌≡◌, replicate}
use Rattle.lis_ext.proofs.Stride.{lists-empty}
use Rattle.lis_ext.proofs.lists.Lists.new.Goals as goal

pub returns : goal.returns
returns c =
    let lengths : c.in_ok-vec.field-0.items ≡ replicate c.args.lists 0 = c.in_ok-vec.ensures.items_if_clones_equal (λ y e. search rules) in
    rw lengths (lists-empty c.args.lists _)
