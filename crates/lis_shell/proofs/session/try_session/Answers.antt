use Rattle.std.proofs.Common.{sym, subst}
use Rattle.lis_plain.proofs.Trying.{tried_none}
use Rattle.lis_shell.specs.Causes.{counts, HasStatusCause, IsTryStatus}
use Rattle.lis_shell.specs.Tries.{Tries}
use Rattle.lis_shell.proofs.Going.{is_try, only_showed, try_first_fault, try_cause, tries}
use Rattle.lis_shell.proofs.session.try_session.Goals as goal

pub carry_all-halt-requires-clause-start : goal.carry_all-halt-requires-clause-start
carry_all-halt-requires-clause-start g c = tried_none c.args.plain.now (g.T.Disk.meaning c.args.station.now)

pub returns : goal.returns
returns g c =
    let limit = c.args.limit in
    let before = g.S.Source.left c.args.input.now in
    let left = g.S.Source.left c.carry_all-halt.new.input in
    let faults = g.S.Source.faults c.args.input.now in
    let faults_after = g.S.Source.faults c.carry_all-halt.new.input in
    let start = c.args.plain.now in
    let now = c.carry_all-halt.new.carrier in
    let entry = g.T.Disk.meaning c.args.station.now in
    let m = g.T.Disk.meaning c.carry_all-halt.new.station in
    let halt = c.carry_all-halt.result in
    let ended = c.carry_all-halt.ensures.ended in
    let is = sym c.status_at.ensures in
    record {
      only = subst IsTryStatus is (is_try halt);
      cause = subst (HasStatusCause (counts entry faults) (counts m faults_after)) is (try_cause limit before left start now entry m faults faults_after halt ended c.carry_all-halt.ensures.cause);
      first_fault = try_first_fault limit before left start now entry m halt ended;
      input_first_fault = c.carry_all-halt.ensures.first_fault;
      disk = only_showed limit before left start now entry m halt ended;
      few = c.carry_all-halt.ensures.few;
      tries = λ bytes known. subst (Tries start limit bytes left entry.shown m.shown now) is (tries limit before left start now entry m bytes halt ended known);
    }
