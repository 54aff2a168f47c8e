use Rattle.std.proofs.Common.{inl, inr, refl, arith, rules}
use Rattle.lis_session.proofs.Fitting.{store_fits_at}
use Rattle.lis_grow.specs.Grow.{grow_bytes}
use Rattle.lis_grow.specs.Session.{grow_items}
use Rattle.lis_grow.proofs.Short.{grow_short}
use Rattle.lis_grow.proofs.Going.{sums_none, never_past, summed_all, summed_front}
use Rattle.lis_grow.proofs.session.carry_out.Goals as goal

pub carry_all-requires-clause-ready : goal.carry_all-requires-clause-ready
carry_all-requires-clause-ready g c = rw c.none.ensures (record {
  sound = c.requires.sound;
  usable = c.requires.usable;
  replies = omega arith;
  refused = omega arith;
  listed = omega arith;
})

pub carry_all-requires-clause-start : goal.carry_all-requires-clause-start
carry_all-requires-clause-start g c = (sums_none c.args.session.now (g.T.Disk.meaning c.args.station.now) c.none.result c.requires.usable.unbroken c.requires.sound c.none.ensures, refl)

pub unreachable-requires : goal.unreachable-requires
unreachable-requires g c = elim c.in-Limit.is as (λ _. ⊥) [
  | inl past ↦ never_past (rw c.new-source.ensures (grow_short c.args.n)) (rw past at c.carry_all.ensures.ended)
  | inr fault ↦ absurd (omega (arith, rw fault at c.carry_all.ensures.cause))
]

pub returns-in-End-clause-carries : goal.returns-in-End-clause-carries
unfolding grow_items
returns-in-End-clause-carries g c = λ state fits.
    summed_all (grow_bytes c.args.n) state c.new-source.ensures (grow_short c.args.n) c.in-End.ensures.ended (search rules) (store_fits_at c.requires.sound fits)

pub returns-in-Stopped-clause-carries : goal.returns-in-Stopped-clause-carries
unfolding grow_items
returns-in-Stopped-clause-carries g c = λ state fits.
    summed_front (grow_bytes c.args.n) c.in-Stopped.ensures.ended.0 c.in-Stopped.failed state c.new-source.ensures (grow_short c.args.n) c.in-Stopped.ensures.ended.1 (search rules)
    (store_fits_at c.requires.sound fits)
