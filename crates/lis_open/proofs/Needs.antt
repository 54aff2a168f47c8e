-- An image that represents a state is as long as it must be.
use Rattle.lis_open.proofs.Common.{◌≡◌, ℕ, ◌≤◌, List, length, ap, inl, inr, arith, part, Limits, image_blocks, State}
use Rattle.lis_store.specs.Stands.{Stands}
use Rattle.lis_fields.proofs.OneSpelling.{super_once}
use Rattle.lis_open.specs.Opens.{HasSuper, IsNeeded}

-- a super block has one value of limits
pub one_limits : (image : List ℕ) (a b : Limits) → HasSuper a image → HasSuper b image → a ≡ b
one_limits image a b is_a is_b = super_once a b (part 0 4096 image) is_a.range is_b.range is_a.spelled is_b.spelled

pub has_super : (image : List ℕ) (s : State) → Stands image s → HasSuper s.limits image
unfolding Stands
has_super image s stands = record { range = stands.range; spelled = stands.super }

pub needs_no_more : (image : List ℕ) (s : State) (need : ℕ) → Stands image s → IsNeeded image need → need ≤ length image
unfolding Stands
needs_no_more image s need stands (inl one) = omega (arith, one, stands.long)
needs_no_more image s need stands (inr told) =
    omega (arith, ap image_blocks (one_limits image told.0 s.limits told.1 (record { range = stands.range; spelled = stands.super })), told.2, stands.long)
