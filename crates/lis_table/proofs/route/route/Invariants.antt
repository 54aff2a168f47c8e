use Rattle.std.proofs.Common.{◌≡◌, ◌-◌, ◌++◌, length}
use Rattle.lis_table.specs.Routes.{route_from}
use Rattle.lis_table.proofs.route.route.Given as goal

abbrev pub invariant-loop-step : goal.invariant-loop-step
invariant-loop-step l =
    l.words.items ++ route_from (l._step-end - l._step) l.table l.files.items l.file
    ≡ route_from (length l.fn.files.items) l.table l.fn.files.items l.file
