use Rattle.std.proofs.Common.{ℕ, ◌+◌, ◌<◌, List, length, take, Ok, ap, subst, arith}
use Rattle.std.proofs.lemmas.List.{length-take}
use Rattle.lis_ports.specs.declared.disk.Failed.{Failed}
use Rattle.lis_parts.specs.Inside.{frame_bytes}
use Rattle.lis_parts.specs.Putting.{view_limit}
use Rattle.lis_parts.specs.Inside.{TakesMore}
use Rattle.lis_parts.proofs.Gathered.{taken_more}
use Rattle.lis_parts.proofs.gathering.Edited.take_more.Goals as goal

pub returns-clause-more : goal.returns-clause-more
returns-clause-more g c =
    let inside = c.self.inside in
    let kept = c.self.invariant.0 in
    let e = c.in_ok-count.ensures in
    let frame : List ℕ = frame_bytes inside.region inside.frame in
    let new : List ℕ = frame_bytes c.take_behind.new.region inside.frame in
    let room : inside.len < view_limit + 1 = omega (arith, c.requires.room, ap length c.self.view_is, length-take inside.len frame, kept.wide, c.self.invariant.1) in
    subst (λ xs. TakesMore {E = Failed} (g.S.Source.left c.args.source.now) (g.S.Source.left c.take_behind.new.source) xs (take (inside.len + c.in_ok-count.count) new) (Ok c.in_ok-count.count))
    c.self.view_is (taken_more inside.len c.in_ok-count.count kept.wide e.kept.wide room e.behind)
