use Rattle.std.proofs.Common.{◌≡◌, ◌≤◌, length}
use Rattle.lis_formula.specs.Walk.{marked}
use Rattle.lis_formula.proofs.reader.Held.apply_marks.Given as goal

abbrev pub invariant-loop-self : goal.invariant-loop-self
invariant-loop-self l = record {
  held : marked l.self ≡ marked l.fn.self;
  fewer : length l.self.signs ≤ length l.fn.self.signs;
}

abbrev pub decreases-loop-self : goal.decreases-loop-self
decreases-loop-self l = length l.self.signs
