use Rattle.lis_kept.proofs.Common.{take}
use Rattle.lis_kept.specs.Sound.{AreSound}
use Rattle.lis_kept.specs.Under.{LinksEach}
use Rattle.lis_kept.proofs.metadata.Metadata.declare_under.Given as goal

-- the axioms so far are there
abbrev pub invariant-loop-place : goal.invariant-loop-place
invariant-loop-place l = record {
  links : LinksEach l.number (take l.place-index l.places) l.initial.self l.self;
  sound : AreSound l.self;
}
