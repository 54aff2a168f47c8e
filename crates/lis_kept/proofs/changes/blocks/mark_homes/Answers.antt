use Rattle.std.proofs.Common.{arith, get_or}
use Rattle.lis_kept.proofs.Common.{◌≡◌, ◌+◌, ◌-◌, ◌/◌, Bool, List, ◌∙◌, sym, ap₂, subst, drop, set, true, map, marked}
use Rattle.lis_kept.proofs.BitmapMarks.{home_at, marks_home, bitmap_home_of, as_many}
use Rattle.lis_kept.proofs.changes.blocks.mark_homes.Goals as goal

pub put-requires : goal.put-requires
put-requires c =
    let homes = c.args.homes.now in
    let f = bitmap_home_of c.args.limits.now in
    let len = as_many c.loop-home.marks c.args.marks.now (map f (drop c.loop-home.home-index homes)) (map f homes) c.loop-home.invariant in
    let at = home_at c.args.limits.now homes c.loop-home.home-index c.loop-home-test.true c.requires.homes in
    omega (arith, len, at.0, at.1, c.bitmap_start-first.ensures, c.data_start-base.ensures.start, c.requires.long)

pub loop-home-preserved : goal.loop-home-preserved
loop-home-preserved c =
    let homes = c.args.homes.now in
    let i = c.loop-home.home-index in
    let h = get_or homes i 0 in
    let marks = c.loop-home.marks in
    let f = bitmap_home_of c.args.limits.now in
    let P : List Bool → Type 0 = λ m. marked m (map f (drop (i + 1) homes)) ≡ marked c.args.marks.now (map f homes) in
    subst P (sym (c.put.ensures ∙ ap₂ (λ first base. set marks (first + (h - base) / 32768) true) c.bitmap_start-first.ensures c.data_start-base.ensures.start))
    (marks_home f marks homes i c.loop-home-test.true ∙ c.loop-home.invariant)
