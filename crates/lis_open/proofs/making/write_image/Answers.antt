use Rattle.lis_open.proofs.Common.{rules, refl, sym, ◌∙◌, IsTrue, OnOk, err_from_is_err_and, on_ok_weaker, Always, leaves_then}
use Rattle.std.proofs.lemmas.Result.{IfErr-at_err}
use Rattle.lis_open.specs.Makes.{IsMade, IsSettledAt}
use Rattle.lis_open.proofs.Wiping.{spared_moments, wiping_moments, naming_moments, named_stands, named_spreads, wiped_spreads, made_spreads, moments_spare, spare_spreads, made_all, spare_either}
use Rattle.lis_open.proofs.making.write_image.Goals as goal

pub returns-in_err-take_name-clause-any_moment : goal.returns-in_err-take_name-clause-any_moment
returns-in_err-take_name-clause-any_moment g c = λ honest settled.
    let limits = c.args.limits.now in
    let bytes = (g.D.Disk.meaning c.args.disk.now).bytes in
    moments_spare limits settled (spared_moments limits bytes (c.take_name.ensures.any_moment honest settled))
    (named_spreads limits (c.take_name.ensures.spreads honest))

pub returns-in_err-take_name-clause-spare : goal.returns-in_err-take_name-clause-spare
returns-in_err-take_name-clause-spare g c = λ n honest is settled.
    let limits = c.args.limits.now in
    let p = err_from_is_err_and c.from_residual.result c.from_residual.ensures.1 in
    spare_spreads limits n (named_spreads limits (c.take_name.ensures.spreads honest)) is
    (IfErr-at_err (λ _. IsSettledAt (g.D.Disk.meaning c.args.disk.now) n) p.1 settled)

pub returns-in_err-wipe-clause-any_moment : goal.returns-in_err-wipe-clause-any_moment
returns-in_err-wipe-clause-any_moment g c = λ honest settled.
    let limits = c.args.limits.now in
    let bytes = (g.D.Disk.meaning c.args.disk.now).bytes in
    let honest1 = c.take_name.ensures.disk.run.honest ∙ honest in
    moments_spare limits settled
    (leaves_then (spared_moments limits bytes (c.take_name.ensures.any_moment honest settled))
    (wiping_moments limits bytes (c.in_ok-take_name.ensures.nameless honest) (c.wipe.ensures.spreads honest1)))
    (wiped_spreads limits (c.take_name.ensures.spreads honest) (c.wipe.ensures.spreads honest1))

pub returns-in_err-wipe-clause-spare : goal.returns-in_err-wipe-clause-spare
returns-in_err-wipe-clause-spare g c = λ n honest is settled.
    let limits = c.args.limits.now in
    let honest1 = c.take_name.ensures.disk.run.honest ∙ honest in
    let p = err_from_is_err_and c.from_residual-in_err-wipe.result c.from_residual-in_err-wipe.ensures.1 in
    spare_spreads limits n (wiped_spreads limits (c.take_name.ensures.spreads honest) (c.wipe.ensures.spreads honest1)) is
    (IfErr-at_err (λ _. IsSettledAt (g.D.Disk.meaning c.args.disk.now) n) p.1 settled)

pub returns : goal.returns
returns g c =
    let limits = c.args.limits.now in
    let old = g.D.Disk.meaning c.args.disk.now in
    let one = λ (honest : IsTrue old.is_honest). c.take_name.ensures.disk.run.honest ∙ honest in
    let two = λ (honest : IsTrue old.is_honest). c.wipe.ensures.disk.run.honest ∙ one honest in
    let spreads = λ (honest : IsTrue old.is_honest).
    made_spreads limits (c.take_name.ensures.spreads honest) (c.wipe.ensures.spreads (one honest)) (c.write_first.ensures.spreads (two honest)) in
    let made : OnOk c.write_first.result (IsTrue old.is_honest → Always (g.D.Disk.meaning c.write_first.new.disk) (IsMade limits old.bytes)) =
    on_ok_weaker c.write_first.result (λ written. λ honest.
    made_all limits old.bytes (c.in_ok-take_name.ensures.torn honest) (c.wipe.ensures.spreads (one honest)) (c.in_ok-wipe.ensures.wiped (one honest)) (written (two honest)) (c.write_first.ensures.spreads (two honest)))
    c.write_first.ensures.settled in
    record {
      disk = record { run = search rules; cause = search rules; first_fault = search rules };
      made = on_ok_weaker c.write_first.result (λ written. λ honest. named_stands limits c.requires.range (c.in_ok-wipe.ensures.wiped (one honest)) (written (two honest)))
          c.write_first.ensures.settled;
      any_moment = λ honest settled.
          moments_spare limits settled
          (leaves_then (spared_moments limits old.bytes (c.take_name.ensures.any_moment honest settled))
          (leaves_then (wiping_moments limits old.bytes (c.in_ok-take_name.ensures.nameless honest) (c.wipe.ensures.spreads (one honest)))
          (naming_moments limits old.bytes c.requires.range (c.in_ok-wipe.ensures.wiped (one honest)) (c.write_first.ensures.spreads (two honest)))))
          (spreads honest);
      left = made;
      settled = on_ok_weaker c.write_first.result (λ written. λ honest.
          let settled = written (two honest) in
          record { reads = refl; only = λ image is. settled.only image is ∙ sym settled.reads })
          c.write_first.ensures.settled;
      spare = λ n honest. spare_either limits n c.write_first.result (on_ok_weaker c.write_first.result (λ is. is honest) made) (spreads honest);
    }
