use Rattle.lis_kept.proofs.Common.{take}
use Rattle.lis_kept.specs.Passes.{ForgetsDue}
use Rattle.lis_kept.specs.Sound.{AreSound}
use Rattle.lis_kept.proofs.metadata.Metadata.forget_due.Given as goal

-- those of the numbers so far are forgotten
abbrev pub invariant-loop-number : goal.invariant-loop-number
invariant-loop-number l = record {
  forgets : ForgetsDue l.slot l.valued (take l.number-index l.numbers) l.initial.self l.self;
  sound : AreSound l.self;
}
