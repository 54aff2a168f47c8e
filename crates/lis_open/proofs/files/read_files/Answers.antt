use Rattle.lis_open.proofs.Common.{rules, sym, subst, ℕ, ◌<◌, arith}
use Rattle.lis_model.specs.declared.spot.Spot.TheVariants.{File as FileSpot}
use Rattle.lis_catalog.specs.Catalog.{IsCatalog}
use Rattle.lis_open.specs.Reading.{IsFirst}
use Rattle.lis_open.proofs.FilesRead.{files_made, files_pass, end_fails, again_fails}
use Rattle.lis_open.proofs.files.read_files.Goals as goal
use Rattle.lis_open.proofs.files.read_files.Goals.{in-Ok-2, in-Err}

pub returns-in-Ok-clause-read : goal.returns-in-Ok-clause-read
returns-in-Ok-clause-read g c =
    let known = c.args.known in
    let catalog : IsCatalog c.in-Ok.catalog = search rules in
    files_made known.limits.now known.words.now known.axioms.now c.read_records.new.slots c.in_ok-end.end c.requires.words c.requires.axioms c.in_ok-end.ensures.read c.in-Ok.catalog catalog c.in-Ok.ensures.sorted (omega (arith, c.if-end-known.true))

pub returns-in-Ok-clause-ended : goal.returns-in-Ok-clause-ended
returns-in-Ok-clause-ended g c = λ kept fits recalled told pairs.
    let known = c.args.known in
    let catalog : IsCatalog c.in-Ok.catalog = search rules in
    files_pass known.limits.now known.words.now known.axioms.now c.read_records.new.slots c.in_ok-end.end c.requires.words c.requires.axioms c.in_ok-end.ensures.read c.in-Ok.catalog catalog c.in-Ok.ensures.sorted
    kept told pairs (c.in_ok-end.ensures.ended kept fits recalled told pairs) (omega (arith, c.if-end-known.true))

pub returns-clause-ended : goal.returns-clause-ended
returns-clause-ended g c = λ kept fits recalled told pairs.
    let limits = c.args.known.limits.now in
    let words = c.args.known.words.now in
    let axioms = c.args.known.axioms.now in
    let slots = c.read_records.new.slots in
    let end = c.in_ok-end.end in
    let read = c.in_ok-end.ensures.read in
    let ended = c.in_ok-end.ensures.ended kept fits recalled told pairs in
    elim c.match-sort.branch [
      | in-Ok-2 w ↦
          let below : end < limits.files = omega (arith, read.within, w.if-end-known.false) in
          let catalog : IsCatalog w.in-Ok.catalog = search rules in
          subst (λ (n : ℕ). IsFirst limits kept 4 (FileSpot n)) (sym w.slot-is) (end_fails limits words axioms slots end c.requires.words c.requires.axioms read w.in-Ok.catalog catalog w.in-Ok.ensures.sorted kept told pairs ended below)
      | in-Err w ↦ subst (λ (n : ℕ). IsFirst limits kept 4 (FileSpot n)) (sym w.slot-is) (again_fails limits words axioms slots end c.requires.words c.requires.axioms read kept told pairs ended w.in-Err.again w.in-Err.ensures.again)
    ]
