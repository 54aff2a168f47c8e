use Rattle.std.proofs.Common.{◌≡◌, ap, length, ◌∙◌, arith}
use Rattle.lis_region.proofs.Pools.{is_taken, within, written_at, overwritten}
use Rattle.lis_region.proofs.Given.{taken_in_range}
use Rattle.lis_region.specs.Made.{frames_of}
use Rattle.lis_region.proofs.pool.Pool.write.Goals as goal

pub slice_mut-requires-clause-in_bounds : goal.slice_mut-requires-clause-in_bounds
slice_mut-requires-clause-in_bounds g c =
    let s = c.self.inside in
    let has = rw (← c.self.view_is, ← c.frame.view_is) at c.requires.taken in
    let lt = taken_in_range s.taken.items c.frame.inside.number (is_taken s.width s.frames s.items.items s.taken.items s.given.items c.frame.inside.number has) in
    let there = within s.width s.frames s.items.items s.taken.items s.given.items c.frame.inside.number c.start_of-start.result c.start_of-start.ensures.place lt c.self.invariant.0 in
    omega (arith, there, s.items.ok.0)

pub returns : goal.returns
returns g c =
    let s = c.self.inside in
    let n = c.frame.inside.number in
    let at = c.start_of-start.result in
    let has = rw (← c.self.view_is, ← c.frame.view_is) at c.requires.taken in
    let was = is_taken s.width s.frames s.items.items s.taken.items s.given.items n has in
    let there = within s.width s.frames s.items.items s.taken.items s.given.items n at c.start_of-start.ensures.place (taken_in_range s.taken.items n was) c.self.invariant.0 in
    let wide : length c.args.items.now ≡ s.width = rw (← c.self.view_is) at c.requires.whole in
    let made = overwritten s.items at s.width c.args.items.now wide there in
    let frames = ap (λ xs. frames_of s.width s.frames s.taken.items xs) made ∙ written_at s.width s.frames s.items.items s.taken.items s.given.items n at c.args.items.now c.start_of-start.ensures.place was c.self.invariant.0 wide in
    rw (← c.self.view_is, ← c.frame.view_is) (ap (λ fs. record { width = s.width; fill = s.fill; frames = fs }) (rw c.copy_from_slice.ensures.after frames))
