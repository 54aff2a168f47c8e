use Rattle.lis_store.proofs.Common.{◌≡◌, ◌∙◌, length, sym, ap, arith, same_Some, on_ok_weaker, slot_count, looked, FileRecord, Limits, data_start, record_in_form}
use Rattle.lis_kept.proofs.BlocksTaken.{slot_within}
use Rattle.lis_kept.proofs.Contents.{slot_counted}
use Rattle.lis_store.proofs.ReadBack.{read_told}
use Rattle.lis_store.proofs.file_bytes.read_file.Goals as goal
use Rattle.lis_model.proofs.Ranges.{limit_le}
use Rattle.lis_kept.proofs.Image.{same_blocks, same_homes}

pub read-requires-clause-short : goal.read-requires-clause-short
read-requires-clause-short g c =
    let k = c.args.metadata.now in
    let rec = c.in-Some.rec.now in
    let form = record_in_form k.limits k.dict k.limits.blocks rec (c.limits.ensures.sound.records c.args.slot rec c.in-Some.ensures) in
    omega (arith, limit_le k.limits, form.small, c.laid_by.ensures.size)

pub read-requires-clause-count : goal.read-requires-clause-count
read-requires-clause-count g c =
    let k = c.args.metadata.now in
    let rec = c.in-Some.rec.now in
    let counted = slot_counted k.limits k.dict k.limits.blocks rec c.limits.ensures.sound.range (c.limits.ensures.sound.records c.args.slot rec c.in-Some.ensures) in
    ap length c.laid_by.ensures.blocks ∙ (counted ∙ ap slot_count (sym c.laid_by.ensures.size))

pub read-requires-clause-home : goal.read-requires-clause-home
read-requires-clause-home g c = omega (arith, c.laid_by.ensures.base, ap data_start c.limits.ensures.value, same_homes c.requires.image)

pub read-requires-clause-within : goal.read-requires-clause-within
read-requires-clause-within g c =
    let k = c.args.metadata.now in
    let rec = c.in-Some.rec.now in
    slot_within k rec c.laid_by.result.base c.args.journal.now.layout.blocks c.laid_by.result.blocks.now (c.limits.ensures.sound.records c.args.slot rec c.in-Some.ensures)
    (c.laid_by.ensures.base ∙ ap data_start c.limits.ensures.value) (same_blocks c.requires.image) c.laid_by.ensures.blocks

pub returns-clause-read : goal.returns-clause-read
returns-clause-read g c =
    on_ok_weaker c.read.result
    (λ read. λ rec kept is fits within.
    let same : c.in-Some.rec.now ≡ rec = same_Some c.in-Some.rec.now rec (sym c.in-Some.ensures ∙ is) in
    read_told c.args.metadata.now.limits rec (looked c.args.journal.now.staged kept) c.read.new.self c.args.journal.now.layout.blocks c.laid_by.result.version c.laid_by.result.base c.laid_by.result.size
    c.laid_by.result.blocks.now (same_blocks c.requires.image) (c.laid_by.ensures.version ∙ ap (λ (l : Limits). l.version) c.limits.ensures.value)
    (c.laid_by.ensures.base ∙ ap data_start c.limits.ensures.value) (c.laid_by.ensures.size ∙ ap (λ (r : FileRecord). r.size) same)
    (c.laid_by.ensures.blocks ∙ ap (λ (r : FileRecord). r.blocks) same) within (read kept fits))
    c.read.ensures.read
