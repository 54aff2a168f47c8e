use Rattle.std.proofs.Common.{[], refl, inr, arith}
use Rattle.std.proofs.lemmas.Grind.{common_steps}
use Rattle.lis_cuts.proofs.Places.{none_there}
use Rattle.lis_cuts.proofs.Cut.{first_at, first_texts}
use Rattle.lis_cuts.proofs.lines.first_line.Goals as goal

pub returns-in-None-clause-first : goal.returns-in-None-clause-first
returns-in-None-clause-first c = record {
  no_feed = none_there 10 c.args.bytes.now c.in-None.ensures;
  whole = inr (refl, refl, grind (arith, common_steps));
}

pub returns-in-None-clause-texts : goal.returns-in-None-clause-texts
returns-in-None-clause-texts c = first_texts c.args.bytes.now c.args.bytes.now [] (returns-in-None-clause-first c)

pub returns-in-Some-clause-first : goal.returns-in-Some-clause-first
returns-in-Some-clause-first c = first_at c.args.bytes.now _ _ c.in-Some.end c.in-Some.ensures c.split_at.ensures.front c.split_at-in-Some.ensures.back

pub returns-in-Some-clause-texts : goal.returns-in-Some-clause-texts
returns-in-Some-clause-texts c = first_texts c.args.bytes.now _ _ (returns-in-Some-clause-first c)
