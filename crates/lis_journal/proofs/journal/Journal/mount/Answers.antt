use Rattle.std.proofs.Common.{List, ℕ, subst}
use Rattle.lis_journal.specs.Staging.{Staging}
use Rattle.lis_journal.specs.Recovery.{LeftOrRecovering}
use Rattle.lis_journal.proofs.journal.Journal.mount.Goals as goal

pub returns-in-Ok-None-clause-images : goal.returns-in-Ok-None-clause-images
returns-in-Ok-None-clause-images g c = λ honest.
    let old = g.D.Disk.meaning c.args.disk.now in
    let new = g.D.Disk.meaning c.recover.new.disk in
    subst (λ (s : Staging). (image : List ℕ) → new.images image → LeftOrRecovering s.layout old image) c.in_ok-buffers.ensures.latest
    (c.in-Ok-None.ensures.recovers honest).images
