use Rattle.std.proofs.Common.{Some, None, map, sym, subst}
use Rattle.std.specs.String.{string_bytes}
use Rattle.lis_model.specs.Step.{step}
use Rattle.lis_model.specs.Script.{script}
use Rattle.lis_session.specs.Session.{root_of, SessionMoment}
use Rattle.lis_session.proofs.Whole.{headline, no_exception, headline_settled}
use Rattle.lis_line.specs.Tagged.{room_script}
use Rattle.lis_load.specs.Load.{LoadMoment}
use Rattle.lis_load.proofs.Moments.{load_none}
use Rattle.lis_rooms.specs.Rooms.{room_step, rooms_of}
use Rattle.lis_store.specs.Stands.{Stands}
use Rattle.lis_shell.specs.declared.words.Task.TheVariants.{Try, Make, Upgrade, OnImage}
use Rattle.lis_shell.specs.declared.words.ImageTask.TheVariants.{Run, Load, Rooms}
use Rattle.lis_shell.specs.Image.{NotBegun}
use Rattle.lis_shell.specs.Keeps.{work_of}
use Rattle.lis_shell.proofs.Opened.{comes_to_end}
use Rattle.lis_shell.proofs.Tasks.{unasked, kept_by}
use Rattle.lis_shell.proofs.top.lisfs.Goals as goal

pub returns-clause-usage : goal.returns-clause-usage
returns-clause-usage g c = (λ e. (unasked c.carry_task.ensures.keeps e).0, λ e. (kept_by None c.carry_task.ensures.keeps e).0)

pub returns-clause-unused : goal.returns-clause-unused
returns-clause-unused g c = λ e. let none = unasked c.carry_task.ensures.keeps e in (none.1, none.2)

pub returns-clause-work_complete : goal.returns-clause-work_complete
returns-clause-work_complete g c = λ task is state bytes entry none.
    comes_to_end (work_of (map string_bytes c.args.words.now) task) state bytes (g.S.Source.left c.carry_task.new.input) (g.T.Disk.meaning c.args.station.now).shown (g.T.Disk.meaning c.carry_task.new.station) _ _
    c.carry_task.result ((kept_by (Some (OnImage task)) c.carry_task.ensures.keeps is).0.runs state bytes entry).ended c.carry_task.ensures.cause none

pub returns-clause-headline : goal.returns-clause-headline
returns-clause-headline g c = λ is state bytes entry.
    headline (SessionMoment step (root_of state) (script bytes 1099511627776)) (g.met.T.Disk.only_now c.args.station.now) ((kept_by (Some (OnImage Run)) c.carry_task.ensures.keeps is).0.runs state bytes entry).moments

pub returns-clause-headline_settled : goal.returns-clause-headline_settled
returns-clause-headline_settled g c = λ is state bytes entry settled.
    headline_settled step (root_of state) (script bytes 1099511627776) entry.stands settled (g.met.T.Disk.only_now c.args.station.now) ((kept_by (Some (OnImage Run)) c.carry_task.ensures.keeps is).0.runs state bytes entry).moments

pub returns-clause-load_settled : goal.returns-clause-load_settled
returns-clause-load_settled g c = λ is state bytes entry settled.
    no_exception (LoadMoment (root_of state) (script bytes 1099511627776)) (λ image had. load_none (root_of state) (script bytes 1099511627776) image (subst (λ xs. Stands xs state) (sym (settled image had)) entry.stands))
    (g.met.T.Disk.only_now c.args.station.now) ((kept_by (Some (OnImage Load)) c.carry_task.ensures.keeps is).0.runs state bytes entry).moments

pub returns-clause-tries : goal.returns-clause-tries
returns-clause-tries g c = λ limits is. kept_by (Some (Try limits)) c.carry_task.ensures.keeps is

pub returns-clause-makes : goal.returns-clause-makes
returns-clause-makes g c = λ limits is. kept_by (Some (Make limits)) c.carry_task.ensures.keeps is

pub returns-clause-work_headline : goal.returns-clause-work_headline
returns-clause-work_headline g c = λ task is state bytes entry.
    headline ((work_of (map string_bytes c.args.words.now) task).moment state bytes) (g.met.T.Disk.only_now c.args.station.now) ((kept_by (Some (OnImage task)) c.carry_task.ensures.keeps is).0.runs state bytes entry).moments

pub returns-clause-work_undone : goal.returns-clause-work_undone
returns-clause-work_undone g c = λ task is state bytes entry undone.
    headline (NotBegun state) (g.met.T.Disk.only_now c.args.station.now) ((kept_by (Some (OnImage task)) c.carry_task.ensures.keeps is).0.undone state bytes entry undone)

pub returns-clause-rooms_settled : goal.returns-clause-rooms_settled
returns-clause-rooms_settled g c = λ is state bytes entry settled.
    headline_settled room_step (rooms_of state) (room_script bytes 1099511627776) entry.stands settled (g.met.T.Disk.only_now c.args.station.now) ((kept_by (Some (OnImage Rooms)) c.carry_task.ensures.keeps is).0.runs state bytes entry).moments

pub returns-clause-works : goal.returns-clause-works
returns-clause-works g c = λ task is. kept_by (Some (OnImage task)) c.carry_task.ensures.keeps is

pub returns-clause-upgrades : goal.returns-clause-upgrades
returns-clause-upgrades g c = λ is. kept_by (Some Upgrade) c.carry_task.ensures.keeps is
