use Rattle.lis_store.proofs.Common.{rules, ◌+◌, ◌∙◌, sym, ap, subst, arith, on_ok_weaker, slot_of, data_start, Limits}
use Rattle.lis_store.specs.Stored.{Stored, StoreFits, IsIndex}
use Rattle.lis_store.proofs.Reading.{has_block, block_few, block_counted, block_home, block_within_slot, block_inside, block_read, index_kept, index_next}
use Rattle.lis_store.proofs.store.Store.content_next.Goals as goal

pub read_next_block-requires : goal.read_next_block-requires
read_next_block-requires g c =
    let laid = c.laid_by-laid.ensures in
    let has = has_block c.args.n c.self.view_is c.self.invariant c.in-Some.ensures c.requires.within laid.blocks laid.size in
    let is_base = laid.base ∙ ap data_start c.limits.ensures.value in
    record {
      few = omega (arith, block_few has);
      count = block_counted has;
      home = block_home has c.laid_by-laid.result.base is_base;
      within = block_within_slot has c.laid_by-laid.result.base is_base;
      inside = block_inside has;
      index = c.requires.index;
      short = omega (arith, c.requires.whole);
      usable = record { unbroken = search rules; long = search rules };
    }

pub returns-clause-read : goal.returns-clause-read
returns-clause-read g c =
    let laid = c.laid_by-laid.ensures in
    let has = has_block c.args.n c.self.view_is c.self.invariant c.in-Some.ensures c.requires.within laid.blocks laid.size in
    let m = g.D.Disk.meaning c.args.disk.now in
    on_ok_weaker c.read_next_block.result
    (λ read s name fits is_slot is_index.
    let P : Stored → Type 0 = λ k. StoreFits k m s in
    let I : Stored → Type 0 = λ k. IsIndex k m.bytes c.args.slot c.args.n c.args.index.now in
    let is_base = laid.base ∙ ap data_start c.limits.ensures.value in
    block_read has m c.laid_by-laid.result.version c.laid_by-laid.result.base _ c.read_next_block.new.buf (laid.version ∙ ap (λ (l : Limits). l.version) c.limits.ensures.value)
    is_base c.requires.whole
    (λ kept fits_kept. read kept fits_kept (index_kept has m c.laid_by-laid.result.base c.args.index.now is_base (subst I (sym c.self.view_is) is_index) kept fits_kept)) s name
    (subst P (sym c.self.view_is) fits) (ap (λ (k : Stored). slot_of k.metadata.catalog name) c.self.view_is ∙ is_slot))
    c.read_next_block.ensures.read

pub returns-clause-next : goal.returns-clause-next
returns-clause-next g c =
    let laid = c.laid_by-laid.ensures in
    let has = has_block c.args.n c.self.view_is c.self.invariant c.in-Some.ensures c.requires.within laid.blocks laid.size in
    let bytes = (g.D.Disk.meaning c.args.disk.now).bytes in
    let I : Stored → Type 0 = λ k. IsIndex k bytes c.args.slot c.args.n c.args.index.now in
    let N : Stored → Type 0 = λ k. IsIndex k bytes c.args.slot (c.args.n + 1) c.read_next_block.new.index in
    on_ok_weaker c.read_next_block.result
    (λ held honest is_index.
    subst N c.self.view_is
    (index_next has c.laid_by-laid.result.base c.args.index.now c.read_next_block.new.index bytes (laid.base ∙ ap data_start c.limits.ensures.value) (held honest)
    (subst I (sym c.self.view_is) is_index)))
    c.read_next_block.ensures.held
