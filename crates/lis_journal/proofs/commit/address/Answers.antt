use Rattle.std.proofs.Common.{◌≡◌, ◌+◌, ◌∙◌, ap, arith, [], get_or}
use Rattle.lis_journal.specs.Record.{HomeBlock}
use Rattle.lis_journal.specs.Phases.{at_target}
use Rattle.lis_journal.specs.declared.commit.Target.{Target}
use Rattle.lis_journal.proofs.Writing.{renumbered-home, home_within}
use Rattle.lis_journal.proofs.commit.address.Goals as goal

pub returns-in-Record-clause-address : goal.returns-in-Record-clause-address
returns-in-Record-clause-address c = λ d.
    let es = c.args.stage.now.entries in
    let is : (get_or (at_target c.args.target es) c.args.k d).home ≡ c.in-Record.first + c.args.k =
    ap (λ (t : Target). (get_or (at_target t es) c.args.k d).home) c.in-Record.is ∙ renumbered-home c.in-Record.first es c.args.k d c.requires.k in
    omega (arith, is, c.from.ensures)

pub returns-in-Homes-clause-within : goal.returns-in-Homes-clause-within
returns-in-Homes-clause-within c =
    let nothing : HomeBlock = record { home = 0; bytes = [] } in
    let s = c.args.stage.now in
    omega (arith, c.from-in-Homes.ensures, c.home.ensures nothing, home_within s.layout.blocks (s.layout.records + 1) s.entries c.args.k nothing c.requires.staging.rise c.requires.k)
