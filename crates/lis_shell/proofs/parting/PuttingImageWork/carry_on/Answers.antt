use Rattle.std.proofs.Common.{ℕ, List, Option, sym, ap, subst}
use Rattle.lis_line.specs.Taking.{TakesFew}
use Rattle.lis_parts.specs.Putting.{view_limit}
use Rattle.lis_store.specs.Stored.{Stored, IsSound, StoreFits}
use Rattle.lis_session.specs.Showing.{DiskStays}
use Rattle.lis_session.proofs.DiskKept.{stays_none}
use Rattle.lis_session.proofs.Fitting.{store_fits_at}
use Rattle.lis_shell.proofs.Opened.{session_cause}
use Rattle.lis_shell.proofs.Steps.{put_goes, put_undone}
use Rattle.lis_shell.proofs.parting.PuttingImageWork.carry_on.Goals as goal

pub returns-clause-cause : goal.returns-clause-cause
returns-clause-cause g c =
    session_cause (g.T.Disk.meaning c.args.station.now) (g.T.Disk.meaning c.put_file-halt.new.station) (g.S.Source.faults c.args.input.now) (g.S.Source.faults c.put_file-halt.new.input)
    c.put_file-halt.result c.put_file-halt.ensures.ends.cause c.put_file-halt.ensures.cause

pub returns-clause-input : goal.returns-clause-input
returns-clause-input g c = λ bytes told. (
  c.put_file-halt.ensures.input bytes told,
  subst (λ (known : Option (List ℕ)). TakesFew view_limit known (g.S.Source.left c.put_file-halt.new.input)) told c.put_file-halt.ensures.few,
)

pub returns-clause-goes : goal.returns-clause-goes
returns-clause-goes g c = λ state bytes fits told.
    let old = g.T.Disk.meaning c.args.station.now in
    let same = sym c.in_ok-store.ensures.0 in
    let own = subst (λ (s : Stored). StoreFits s old state) same fits in
    let made = c.put_file-halt.ensures.puts bytes told state (store_fits_at (subst IsSound same c.requires.sound) own) in
    put_goes state c.args.self.now.0.name c.args.self.now.0.text.now bytes (g.S.Source.left c.put_file-halt.new.input) c.put_file-halt.result (c.put_file-halt.ensures.input bytes told) made

pub returns-clause-disk : goal.returns-clause-disk
returns-clause-disk g c = λ is honest.
    let old = g.T.Disk.meaning c.args.station.now in
    subst (DiskStays old) (sym (ap g.T.Disk.meaning (c.put_file-halt.ensures.unbegun is).0)) (stays_none old)

pub returns-clause-undone : goal.returns-clause-undone
returns-clause-undone g c = λ is state bytes fits told.
    let same = sym c.in_ok-store.ensures.0 in
    let own = subst (λ (s : Stored). StoreFits s (g.T.Disk.meaning c.args.station.now) state) same fits in
    put_undone state c.args.self.now.0.name c.args.self.now.0.text.now bytes c.put_file-halt.result is (c.put_file-halt.ensures.puts bytes told state (store_fits_at (subst IsSound same c.requires.sound) own))
