use Rattle.lis_open.proofs.Common.{◌≡◌, ◌∙◌, refl, sym, ap, subst, ◌&&◌, length, arith, are_free, are_distinct, FileRecord}
use Rattle.lis_content.proofs.Numbers.{below_from_free, within_if_below}
use Rattle.lis_content.specs.Large.{slot_count}
use Rattle.lis_kept.proofs.Image.{same_blocks}
use Rattle.lis_open.specs.ReadFiles.{AreItsBlocks}
use Rattle.lis_open.proofs.BlocksRead.{size_of_form, slot_of_form, not_own, read_are}
use Rattle.lis_open.proofs.indexes.free_blocks.Goals as goal
use Rattle.lis_open.proofs.indexes.free_blocks.Goals.{then-are_formed, else-are_formed}

pub returns-then-not-are_free-clause-found : goal.returns-then-not-are_free-clause-found
returns-then-not-are_free-clause-found g c = λ kept fits.
    not_own c.args.limits.now kept c.args.map.now c.args.rec.now c.as_slice.result.now (c.as_slice.ensures.value ∙ ap (λ (r : FileRecord). r.blocks) c.rec.view_is) (sym c.are_free.ensures ∙ c.if-not-are_free.true)

pub read_blocks-requires-clause-few : goal.read_blocks-requires-clause-few
read_blocks-requires-clause-few g c = omega (arith, c.laid_by.ensures.size, size_of_form c.args.limits.now c.args.rec.now c.requires.form refl)

pub read_blocks-requires-clause-count : goal.read_blocks-requires-clause-count
read_blocks-requires-clause-count g c =
    ap length c.laid_by.ensures.blocks ∙ (slot_of_form c.args.limits.now c.args.rec.now c.requires.readable.range c.requires.form ∙ ap slot_count (sym c.laid_by.ensures.size))

pub read_blocks-requires-clause-within : goal.read_blocks-requires-clause-within
read_blocks-requires-clause-within g c =
    let slot = c.laid_by.result.blocks.now in
    let same : slot ≡ c.as_slice.result.now = c.laid_by.ensures.blocks ∙ sym (c.as_slice.ensures.value ∙ ap (λ (r : FileRecord). r.blocks) c.rec.view_is) in
    within_if_below c.laid_by.result.base c.args.journal.now.layout.blocks (length c.args.map.now) slot
    (omega (arith, c.laid_by.ensures.base, same_blocks c.requires.readable.image, c.requires.map))
    (below_from_free c.args.map.now slot (ap (are_free c.args.map.now) same ∙ (sym c.are_free.ensures ∙ c.if-not-are_free.false)))

pub returns-then-are_free-clause-found : goal.returns-then-are_free-clause-found
returns-then-are_free-clause-found g c = λ kept fits.
    let limits = c.args.limits.now in
    let taken = c.args.map.now in
    let blocks = c.read_blocks.new.blocks.items in
    let formed = c.in_ok-are_formed.are_formed in
    let read = c.in_ok-are_formed.ensures in
    let laid = c.laid_by.ensures in
    let both : c.if-are_formed.value ≡ (formed && are_free taken blocks) = elim c.if-are_formed.branch [
      | then-are_formed w ↦
          w.value-is ∙ (w.are_free-then-are_formed.ensures ∙ (ap (are_free taken) w.as_slice-then-are_formed.ensures.value ∙ sym (ap (λ t. t && are_free taken blocks) w.if-are_formed.true)))
      | else-are_formed w ↦ w.value-is ∙ (w.if-are_formed.false ∙ sym (ap (λ t. t && are_free taken blocks) w.if-are_formed.false))
    ] in
    subst (AreItsBlocks limits kept taken c.args.rec.now blocks)
    (ap (λ t. t && are_distinct blocks) (sym both ∙ c.if-are_free.true) ∙ sym (c.are_distinct.ensures ∙ ap are_distinct c.as_slice-then-are_free.ensures.value))
    (read_are limits kept taken c.args.rec.now c.laid_by.result.version c.laid_by.result.base c.laid_by.result.blocks.now c.laid_by.result.size c.args.journal.now.staged formed blocks
    laid.version laid.base laid.blocks laid.size c.requires.readable.clean (λ is. read.formed is kept fits) (λ is. read.malformed is kept fits) (read.blocks kept fits))

pub returns-else-are_free-clause-found : goal.returns-else-are_free-clause-found
returns-else-are_free-clause-found g c = λ kept fits.
    let limits = c.args.limits.now in
    let taken = c.args.map.now in
    let blocks = c.read_blocks.new.blocks.items in
    let formed = c.in_ok-are_formed.are_formed in
    let read = c.in_ok-are_formed.ensures in
    let laid = c.laid_by.ensures in
    let both : c.if-are_formed.value ≡ (formed && are_free taken blocks) = elim c.if-are_formed.branch [
      | then-are_formed w ↦
          w.value-is ∙ (w.are_free-then-are_formed.ensures ∙ (ap (are_free taken) w.as_slice-then-are_formed.ensures.value ∙ sym (ap (λ t. t && are_free taken blocks) w.if-are_formed.true)))
      | else-are_formed w ↦ w.value-is ∙ (w.if-are_formed.false ∙ sym (ap (λ t. t && are_free taken blocks) w.if-are_formed.false))
    ] in
    subst (AreItsBlocks limits kept taken c.args.rec.now blocks) (ap (λ t. t && are_distinct blocks) (sym both ∙ c.if-are_free.false) ∙ sym c.if-are_free.false)
    (read_are limits kept taken c.args.rec.now c.laid_by.result.version c.laid_by.result.base c.laid_by.result.blocks.now c.laid_by.result.size c.args.journal.now.staged formed blocks
    laid.version laid.base laid.blocks laid.size c.requires.readable.clean (λ is. read.formed is kept fits) (λ is. read.malformed is kept fits) (read.blocks kept fits))
