use Rattle.lis_open.proofs.Common.{rules, ◌∙◌, sym, ap, subst, inl, Err, IsTrue, err_from_is_err_and, leaves_weaken}
use Rattle.lis_open.specs.Opens.{HasOpenCause, InOpening}
use Rattle.lis_open.proofs.Opening.{opened_before, opening_before, moments_stand, mount_past}
use Rattle.lis_open.proofs.Unwritten.{open_unwritten}
use Rattle.lis_open.proofs.mounting.mount.Goals as goal

pub returns-in_err-limits-clause-spot : goal.returns-in_err-limits-clause-spot
returns-in_err-limits-clause-spot g c = λ spot is honest.
    let p = err_from_is_err_and c.from_residual.result c.from_residual.ensures.1 in
    (c.in_err-limits.ensures.ended honest).spot spot (ap Err (sym p.2) ∙ (sym p.1 ∙ is))

pub returns-in_err-limits-clause-any_moment : goal.returns-in_err-limits-clause-any_moment
returns-in_err-limits-clause-any_moment g c = λ honest.
    leaves_weaken (InOpening (g.D.Disk.meaning c.args.disk.now)) (c.read_limits.ensures.reads.moments honest) (λ image is. inl is)

pub returns-in_err-limits-clause-unwritten : goal.returns-in_err-limits-clause-unwritten
returns-in_err-limits-clause-unwritten g c = λ honest shut.
    let p = err_from_is_err_and c.from_residual.result c.from_residual.ensures.1 in
    rw (p.1, p.2) (open_unwritten (Err c.in_err-limits.field-0.0) (c.in_err-limits.ensures.ended honest).left
    (leaves_weaken (InOpening (g.D.Disk.meaning c.args.disk.now)) (c.read_limits.ensures.reads.moments honest) (λ image is. inl is)) shut)

pub returns : goal.returns
returns g c =
    let old = g.D.Disk.meaning c.args.disk.now in
    let mid = g.D.Disk.meaning c.read_limits.new.disk in
    let new = g.D.Disk.meaning c.mount_image.new.disk in
    let reads = c.read_limits.ensures.reads in
    let image = c.mount_image.ensures in
    let opened = λ (honest : IsTrue old.is_honest).
    opened_before old mid (reads.same honest) reads.run.len new c.mount_image.result image.run (image.opened (reads.run.honest ∙ honest)) in
    let moments = λ (honest : IsTrue old.is_honest).
    opening_before old mid (reads.same honest) reads.run.len new (reads.moments honest) (image.any_moment (reads.run.honest ∙ honest)) in
    record {
      run = search rules;
      cause = subst (λ before. HasOpenCause before new.disk_faults c.mount_image.result) c.in_ok-limits.ensures.cause image.cause;
      first_fault = search rules;
      ended = λ honest. (opened honest).ended;
      spot = λ spot is honest. (opened honest).spot spot is;
      numbers = λ len need is. absurd (image.fits_disk len need is);
      small = search rules;
      sound = image.sound;
      ready = image.ready;
      long = image.long;
      left = λ honest. (opened honest).left;
      any_moment = moments;
      same_state = λ s honest stands. moments_stand old new s (g.met.D.Disk.reads_len c.args.disk.now honest) stands (moments honest);
      unwritten = λ honest shut. open_unwritten c.mount_image.result (opened honest).left (moments honest) shut;
      past = λ limits honest super settled.
          mount_past old mid (reads.same honest) reads.run.len new c.in_ok-limits.limits limits (c.in_ok-limits.ensures.ended honest) super settled (image.past (reads.run.honest ∙ honest));
    }
