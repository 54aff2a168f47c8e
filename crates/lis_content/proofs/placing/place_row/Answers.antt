use Rattle.std.proofs.Common.{ℕ, List, ◌*◌, ◌≡◌, ◌++◌, take, ap, ◌∙◌, subst, arith}
use Rattle.std.specs.List.{range_with_len}
use Rattle.lis_ports.specs.Runs.{Leaves}
use Rattle.lis_journal.specs.Images.{StandsBut, Fits, with_run}
use Rattle.lis_content.proofs.Laying.{failed_as}
use Rattle.lis_content.proofs.Rows.{row_unstaged}
use Rattle.lis_content.proofs.placing.place_row.Goals as goal

pub place_run-requires-clause-unstaged : goal.place_run-requires-clause-unstaged
place_run-requires-clause-unstaged g c =
    row_unstaged c.args.base c.args.map.now c.take_row-row.new.map c.args.journal.now.staged c.take_row-row.result.first c.take_row-row.result.count c.home-first.result c.home-first.ensures c.take_row-row.ensures.row c.requires.unstaged

pub returns-in_err-place_run-clause-ended : goal.returns-in_err-place_run-clause-ended
returns-in_err-place_run-clause-ended g c =
    let count = c.take_row-row.result.count in
    failed_as c.from_residual.result _ c.from_residual.ensures.0 (record {
      n = c.take_row-row.result.first;
      count = count;
      writes = record {
        row = c.take_row-row.ensures.row;
        moments = λ kept fits. subst (λ h. Leaves (g.D.Disk.meaning c.args.disk.now) (g.D.Disk.meaning c.place_run.new.disk) (StandsBut c.args.journal.now.layout (range_with_len h count ++ c.args.journal.now.placed) kept)) c.home-first.ensures (c.place_run.ensures.any_moment kept fits);
        past = c.place_run.ensures.past;
      };
      journal = c.in_err-place_run.ensures.broken;
    })

pub returns-clause-ended : goal.returns-clause-ended
returns-clause-ended g c =
    let count = c.take_row-row.result.count in
    let front : List ℕ = take (4096 * count) c.args.bytes.now in
    let at : count * 4096 ≡ 4096 * count = omega arith in
    record {
      any = c.take_row-row.ensures.count.0;
      few = omega (arith, c.take_row-row.ensures.count.1);
      placed = record {
        writes = record {
          row = c.take_row-row.ensures.row;
          moments = λ kept fits. subst (λ h. Leaves (g.D.Disk.meaning c.args.disk.now) (g.D.Disk.meaning c.place_run.new.disk) (StandsBut c.args.journal.now.layout (range_with_len h count ++ c.args.journal.now.placed) kept)) c.home-first.ensures (c.place_run.ensures.any_moment kept fits);
          past = c.place_run.ensures.past;
        };
        journal = c.in_ok-place_run.ensures.done ∙ ap (λ h. record c.args.journal.now { records = c.place_run.new.self.records; placed = c.args.journal.now.placed ++ range_with_len h count }) c.home-first.ensures;
        fits = λ kept fits. subst (λ h. Fits c.place_run.new.self (g.D.Disk.meaning c.place_run.new.disk) (with_run h count front kept)) c.home-first.ensures
            (subst (λ len. Fits c.place_run.new.self (g.D.Disk.meaning c.place_run.new.disk) (with_run c.home-first.result count (take len c.args.bytes.now) kept)) at (c.in_ok-place_run.ensures.kept kept fits));
      };
    }
