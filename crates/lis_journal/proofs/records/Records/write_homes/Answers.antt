use Rattle.std.proofs.Common.{◌++◌, ◌≡◌, ◌*◌, length, ◌∙◌, subst, arith, ◌≤◌, ap}
use Rattle.std.specs.List.{range_with_len}
use Rattle.lis_ports.specs.Runs.{Leaves}
use Rattle.lis_ports.proofs.Moments.{leaves_then}
use Rattle.lis_journal.specs.declared.layout.Layout.{Layout}
use Rattle.lis_journal.specs.Record.{homes_start}
use Rattle.lis_journal.specs.Images.{StandsBut}
use Rattle.lis_journal.proofs.Spreading.{spreads_torn}
use Rattle.lis_journal.proofs.Saving.{on_ok, then_past}
use Rattle.lis_journal.proofs.Holding.{more_stands, place_moments, placed_fits, home_past}
use Rattle.lis_journal.proofs.records.Records.write_homes.Goals as goal

pub returns-in_err-free_homes-clause-any_moment : goal.returns-in_err-free_homes-clause-any_moment
returns-in_err-free_homes-clause-any_moment g c = λ placed kept fits.
    more_stands c.args.self.now.layout placed kept (range_with_len c.args.first c.args.count) (c.free_homes.ensures.any_moment placed kept fits)

pub returns-clause-any_moment : goal.returns-clause-any_moment
returns-clause-any_moment g c = λ placed kept fits.
    let run = range_with_len c.args.first c.args.count in
    let at : c.from.result * 4096 ≡ 4096 * c.args.first = omega (arith, c.from.ensures) in
    let free = c.in_ok-free_homes.ensures.kept placed kept fits in
    let home : homes_start c.free_homes.new.self.layout ≤ c.args.first = omega (arith, c.requires.home, ap (λ (l : Layout). l.records) c.free_homes.ensures.layout) in
    leaves_then (more_stands c.args.self.now.layout placed kept run (c.free_homes.ensures.any_moment placed kept fits))
    (subst (λ b. Leaves (g.D.Disk.meaning c.free_homes.new.disk) (g.D.Disk.meaning c.write_at.new.self) (StandsBut b (run ++ placed) kept)) c.free_homes.ensures.layout
    (place_moments c.args.first c.args.count (c.from.result * 4096) (length c.args.bytes.now) home at c.requires.whole free c.write_at.ensures.call.run c.write_at.ensures.call.time (c.write_at.ensures.torn free.honest)))

pub returns-clause-kept : goal.returns-clause-kept
returns-clause-kept g c = on_ok c.write_at.result (λ written. λ placed kept fits.
    let at : c.from.result * 4096 ≡ 4096 * c.args.first = omega (arith, c.from.ensures) in
    let free = c.in_ok-free_homes.ensures.kept placed kept fits in
    let home : homes_start c.free_homes.new.self.layout ≤ c.args.first = omega (arith, c.requires.home, ap (λ (l : Layout). l.records) c.free_homes.ensures.layout) in
    placed_fits c.args.first c.args.count (c.from.result * 4096) (length c.args.bytes.now) home at c.requires.whole free c.args.bytes.now (omega (arith, c.requires.within, ap (λ (l : Layout). l.blocks) c.free_homes.ensures.layout)) c.requires.whole c.in_ok-free_homes.ensures.free c.write_at.ensures.call.run (c.write_at.ensures.torn free.honest) (written free.honest))
    c.write_at.ensures.written

pub returns-clause-past : goal.returns-clause-past
returns-clause-past g c = λ honest.
    let at : c.from.result * 4096 ≡ 4096 * c.args.first = omega (arith, c.from.ensures) in
    then_past (c.free_homes.ensures.past honest)
    (spreads_torn _ (c.from.result * 4096) (length c.args.bytes.now) c.write_at.ensures.call.run c.write_at.ensures.call.time (c.write_at.ensures.torn (c.free_homes.ensures.disk.run.honest ∙ honest)) (home_past c.args.self.now.layout c.args.first c.args.count (c.from.result * 4096) (length c.args.bytes.now) c.requires.within at c.requires.whole))
