use Rattle.std.proofs.Common.{ℕ, [], ◌∷◌, length, length-append, ap, ◌∙◌, arith, rules}
use Rattle.lis_region.specs.Region.{Region}
use Rattle.lis_journal.proofs.Frames.{cleared}
use Rattle.lis_journal.proofs.stage.Stage.clear.Goals as goal

pub loop-last-preserved : goal.loop-last-preserved
loop-last-preserved c =
    let inv = c.loop-last.invariant in
    let rest = cleared _ _ _ _ c.in-Some.last c.in-Some.ensures.items c.give.ensures.given inv.whole inv.apart in
    record {
      layout = inv.layout;
      capacity = inv.capacity;
      narrow = inv.narrow;
      small = inv.small;
      wide = ap (λ (r : Region ℕ). r.width) c.give.ensures.given ∙ inv.wide;
      whole = rest.0;
      apart = rest.1;
      counted = omega (arith, c.give.ensures.more, inv.counted, ap length c.in-Some.ensures.items, length-append c.pop.new.self.items (c.in-Some.last ∷ []));
      has_room = search rules;
    }
