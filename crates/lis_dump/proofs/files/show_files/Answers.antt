use Rattle.std.proofs.Common.{ap, arith}
use Rattle.std.proofs.lemmas.Result.{err_from_is_err_and}
use Rattle.lis_model.specs.declared.limits.Limits.{Limits}
use Rattle.lis_model.specs.State.{State}
use Rattle.lis_replay.specs.Dump.{file_lines}
use Rattle.lis_dump.proofs.FilesTold.{few_files}
use Rattle.lis_dump.proofs.Paging.{to_none, to_more, to_broke, to_all}
use Rattle.lis_dump.proofs.files.show_files.Goals as goal

pub loop-k-init : goal.loop-k-init
loop-k-init g c = to_none file_lines (λ (state : State). state.files) (g.T.Disk.meaning c.args.station.now) c.args.page.now.items

pub show_file_at-requires-clause-usable : goal.show_file_at-requires-clause-usable
show_file_at-requires-clause-usable g c = record {
  unbroken = c.requires.usable.unbroken;
  long = omega (arith, c.requires.usable.long, c.loop-k.invariant.pages.shows.ends.same.len);
}

pub loop-k-preserved : goal.loop-k-preserved
loop-k-preserved g c = to_more file_lines (λ (state : State). state.files) c.loop-k.k c.loop-k.invariant c.in_ok-show_file_at.field-0 c.in_ok-show_file_at.ensures

pub returns-in_err-show_file_at : goal.returns-in_err-show_file_at
returns-in_err-show_file_at g c =
    let p = err_from_is_err_and c.from_residual.result c.from_residual.ensures.1 in
    rw (p.1, p.2) (to_broke file_lines (λ (state : State). state.files) c.loop-k.k c.loop-k.invariant c.in_err-show_file_at.field-0.0 c.in_err-show_file_at.ensures)

pub returns : goal.returns
returns g c =
    to_all file_lines (λ (state : State). state.files) c.loop-k.k c.loop-k.invariant
    (λ state fitting. let few = few_files c.requires.sound state fitting in omega (arith, few, ap (λ (l : Limits). l.files) c.limits-k-end.ensures.value))
