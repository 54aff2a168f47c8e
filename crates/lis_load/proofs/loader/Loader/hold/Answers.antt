use Rattle.lis_load.proofs.Holding.{held_made, held_refused, held_broke}
use Rattle.lis_load.proofs.loader.Loader.hold.Goals as goal
use Rattle.lis_load.proofs.loader.Loader.hold.Goals.{in-Ok, in-Err-Refused}

pub returns-in-Err-Disk-clause-held : goal.returns-in-Err-Disk-clause-held
returns-in-Err-Disk-clause-held g c = λ start entry first loaded.
    held_broke _ _ loaded c.requires.room c.args.command.now c.args.payload.now c.requires.change c.hold.ensures.place (rw c.in-Err-Disk.field-0-is at c.in-Err-Disk.ensures.keeps)
    (rw c.in-Err-Disk.field-0-is at c.in-Err-Disk.ensures.holds)

pub returns-clause-held : goal.returns-clause-held
returns-clause-held g c = λ start entry first loaded.
    elim c.match-hold.branch [
      | in-Ok w ↦
          held_made _ _ loaded c.requires.room c.args.command.now c.args.payload.now c.requires.change c.hold.ensures.place (rw w.refused-is at c.push.ensures.items) w.in-Ok.ensures.keeps w.in-Ok.ensures.holds
      | in-Err-Refused w ↦
          held_refused _ _ loaded c.requires.room c.args.command.now c.args.payload.now c.requires.change c.hold.ensures.place (rw w.refused-is at c.push.ensures.items)
          (rw w.in-Err-Refused.field-0-is at w.in-Err-Refused.ensures.keeps) (rw w.in-Err-Refused.field-0-is at w.in-Err-Refused.ensures.holds)
    ]
