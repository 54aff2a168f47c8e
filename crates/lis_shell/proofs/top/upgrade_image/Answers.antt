use Rattle.std.proofs.Common.{◌≡◌, ◌⊎◌, List, ℕ, Ok, IsTrue, refl, sym, subst, inl, inr}
use Rattle.lis_ports.specs.Meaning.{Meaning}
use Rattle.lis_ports.specs.Runs.{Leaves, IsSettled, Always}
use Rattle.lis_ports.proofs.Moments.{leaves_weaken}
use Rattle.lis_model.specs.State.{State}
use Rattle.lis_line.specs.declared.carrier.Halt.TheVariants.{End as AtEnd}
use Rattle.lis_store.specs.Stands.{Stands}
use Rattle.lis_store.proofs.OneState.{one_state}
use Rattle.lis_open.specs.declared.mounting.OpenFault.{OpenFault}
use Rattle.lis_open.specs.declared.mounting.OpenFault.TheVariants.{DiskFault}
use Rattle.lis_open.specs.Upgrades.{upgraded}
use Rattle.lis_session.proofs.Whole.{opening_moments}
use Rattle.lis_shell.specs.declared.status.Status.TheVariants.{Opening}
use Rattle.lis_shell.specs.Keeps.{upgrading, UpgradeMoment}
use Rattle.lis_shell.proofs.Refused.{IsOpening, not_begun, refused_unwritten, same_counts, refused_cause, word_refused}
use Rattle.lis_shell.proofs.Opened.{work_done, opened_past}
use Rattle.lis_shell.proofs.top.upgrade_image.Goals as goal

-- the moments if nothing is unsynced at the start
settled_moments : {old new : Meaning} (state : State) → Stands old.bytes state → IsSettled old old.bytes → Leaves old new (λ image. old.images image ⊎ UpgradeMoment state image)
    → Leaves old new (UpgradeMoment state)
settled_moments {old} state stands settled moments = leaves_weaken (UpgradeMoment state) moments by
  where
    by : (image : List ℕ) → old.images image ⊎ UpgradeMoment state image → UpgradeMoment state image
    by image (inl there) = inl (subst (λ xs. Stands xs state) (sym (settled.only image there)) stands)
    by image (inr stood) = stood

-- if nothing was done, the disk did not fail
undone_other : (fault : OpenFault) → IsTrue (upgrading.undone (Opening fault)) → fault ≡ DiskFault → ⊥
undone_other DiskFault is same = absurd (cc)
undone_other fault is same = absurd (cc)

pub returns-in-Ok-clause-cause : goal.returns-in-Ok-clause-cause
returns-in-Ok-clause-cause g c = λ n. same_counts n c.in-Ok.ensures.cause c.in-Ok.ensures.run

pub returns-in-Ok-clause-keeps : goal.returns-in-Ok-clause-keeps
returns-in-Ok-clause-keeps g c =
    let new = g.T.Disk.meaning c.upgrade.new.disk in
    let old = g.T.Disk.meaning c.args.station.now in
    let opening : IsOpening {T = Unit {0}} old new (c.upgrade.new.disk ≡ c.args.station.now) (Ok c.in-Ok.field-0) = record {
      reads_len = g.met.T.Disk.reads_len c.args.station.now;
      run = c.in-Ok.ensures.run;
      spot = c.in-Ok.ensures.spot;
      numbers = c.in-Ok.ensures.numbers;
      small = c.in-Ok.ensures.small;
      moments = c.in-Ok.ensures.refused;
      past = c.in-Ok.ensures.past;
    } in
    record {
      image = work_done upgrading c.in-Ok.field-0 opening (λ honest. let at = c.in-Ok.ensures.ended honest in (at.0, (at.1.0, at.1.1))) AtEnd tt (λ bytes told. tt)
          (λ state bytes entry. record {
            moments = opening_moments (upgrading.moment state bytes) (λ image stood. (refl, stood)) (c.in-Ok.ensures.moments state entry.honest entry.stands);
            ended =
                let at = c.in-Ok.ensures.ended entry.honest in
                subst (λ (s : State). Always new (λ image. Stands image (upgraded s))) (one_state old.bytes at.1.0 state at.1.1 entry.stands) at.1.2;
          })
          (λ state bytes entry. opened_past c.in-Ok.field-0 opening state entry.honest entry.stands) (λ state bytes entry is. absurd (cc)) (λ is. absurd (cc)) (λ is. absurd (cc));
      run = c.in-Ok.ensures.run;
      left = c.in-Ok.ensures.left;
      settled_moments = λ state entry settled. settled_moments state entry.stands settled (c.in-Ok.ensures.moments state entry.honest entry.stands);
    }

pub returns-in-Err-clause-cause : goal.returns-in-Err-clause-cause
returns-in-Err-clause-cause g c = λ n. refused_cause (Unit {0}) c.in-Err.fault n c.in-Err.ensures.cause c.in-Err.ensures.run

pub returns-in-Err-clause-keeps : goal.returns-in-Err-clause-keeps
returns-in-Err-clause-keeps g c = record {
  image = word_refused c.in-Err.fault (record {
    reads_len = g.met.T.Disk.reads_len c.args.station.now;
    run = c.in-Err.ensures.run;
    spot = c.in-Err.ensures.spot;
    numbers = c.in-Err.ensures.numbers;
    small = c.in-Err.ensures.small;
    moments = c.in-Err.ensures.refused;
    past = c.in-Err.ensures.past;
  }) c.in-Err.ensures.ended c.in-Err.ensures.left upgrading
      (λ state bytes honest stands. opening_moments (upgrading.moment state bytes) (λ image stood. (refl, stood)) (c.in-Err.ensures.moments state honest stands))
      (λ state is honest stands. not_begun state (c.in-Err.ensures.unbegun state c.in-Err.fault refl (undone_other c.in-Err.fault is) honest stands))
      (λ is honest shut. refused_unwritten c.in-Err.fault (c.in-Err.ensures.unwritten c.in-Err.fault refl (undone_other c.in-Err.fault is) honest shut)) tt;
  run = c.in-Err.ensures.run;
  left = c.in-Err.ensures.left;
  settled_moments = λ state entry settled. settled_moments state entry.stands settled (c.in-Err.ensures.moments state entry.honest entry.stands);
}
