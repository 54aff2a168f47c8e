use Rattle.lis_formula.proofs.Resolutions.{from_root, from_here}
use Rattle.lis_formula.proofs.resolution.follow.Goals as goal

pub returns-then-rooted : goal.returns-then-rooted
returns-then-rooted c = from_root c.args.place.now c.args.path.place c.args.path.rooted c.if-rooted.true c.requires

pub returns : goal.returns
returns c =
    from_here c.args.place.now c.args.path.place c.args.path.rooted c.appended.result c.ok_or.result c.if-rooted.false c.appended.ensures.steps c.appended.ensures.place c.ok_or.ensures.value
