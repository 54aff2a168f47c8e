use Rattle.std.proofs.Common.{arith}
use Rattle.lis_kept.proofs.Common.{ℕ, length, ◌∙◌, subst}
use Rattle.lis_content.specs.Placing.{IsPlaced}
use Rattle.lis_kept.proofs.Image.{same_placed}
use Rattle.lis_kept.proofs.BlocksTaken.{few_numbers, few_taken, placed_homes, placed_marks}
use Rattle.lis_kept.proofs.changes.blocks.place_marked.Goals as goal

pub place_file-requires-clause-numbered : goal.place_file-requires-clause-numbered
place_file-requires-clause-numbered g c = omega (arith, c.requires.taken, few_numbers c.args.limits.now c.requires.range)

pub place_file-requires-clause-room : goal.place_file-requires-clause-room
place_file-requires-clause-room g c =
    let limits = c.args.limits.now in
    omega (arith, same_placed c.requires.image, few_taken limits (length c.args.bytes.now) c.requires.range c.requires.short)

pub mark_homes-requires-clause-homes : goal.mark_homes-requires-clause-homes
mark_homes-requires-clause-homes g c =
    let limits = c.args.limits.now in
    let P : ℕ → Type 0 = λ base. IsPlaced limits.version base c.args.bytes.now c.args.map.now c.place_file.new.map c.args.journal.now c.place_file.new.journal (g.D.Disk.meaning c.args.disk.now)
    (g.D.Disk.meaning c.place_file.new.disk) c.in_ok-numbers.numbers.items in
    placed_homes limits c.args.bytes.now c.in_ok-numbers.numbers.items c.args.map.now c.place_file.new.map c.args.journal.now c.place_file.new.journal (g.D.Disk.meaning c.args.disk.now)
    (g.D.Disk.meaning c.place_file.new.disk) (subst P c.data_start-base.ensures.start c.in_ok-numbers.ensures.ended) c.requires.taken c.placed.result.now c.placed.ensures

pub returns-clause-ended : goal.returns-clause-ended
returns-clause-ended g c =
    let limits = c.args.limits.now in
    let P : ℕ → Type 0 = λ base. IsPlaced limits.version base c.args.bytes.now c.args.map.now c.place_file.new.map c.args.journal.now c.place_file.new.journal (g.D.Disk.meaning c.args.disk.now)
    (g.D.Disk.meaning c.place_file.new.disk) c.in_ok-numbers.numbers.items in
    let placed : P _ = subst P c.data_start-base.ensures.start c.in_ok-numbers.ensures.ended in (
      placed,
      c.mark_homes.ensures ∙ placed_marks limits c.args.bytes.now c.in_ok-numbers.numbers.items c.args.map.now c.place_file.new.map c.args.journal.now c.place_file.new.journal
          (g.D.Disk.meaning c.args.disk.now) (g.D.Disk.meaning c.place_file.new.disk) placed c.requires.taken c.placed.result.now c.placed.ensures c.args.marks.now,
    )
