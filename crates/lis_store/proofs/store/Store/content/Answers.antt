use Rattle.lis_store.proofs.Common.{rules, ◌∙◌, sym, ap, subst, arith, on_ok_weaker, slot_of, data_start, Limits}
use Rattle.lis_store.specs.Stored.{Stored, StoreFits}
use Rattle.lis_store.proofs.Reading.{has_block, block_few, block_counted, block_home, block_within_slot, block_inside, block_read}
use Rattle.lis_store.proofs.store.Store.content.Goals as goal

pub read_block-requires : goal.read_block-requires
read_block-requires g c =
    let laid = c.laid_by-laid.ensures in
    let has = has_block c.args.n c.self.view_is c.self.invariant c.in-Some.ensures c.requires.within laid.blocks laid.size in
    let is_base = laid.base ∙ ap data_start c.limits.ensures.value in
    record {
      few = omega (arith, block_few has);
      count = block_counted has;
      home = block_home has c.laid_by-laid.result.base is_base;
      within = block_within_slot has c.laid_by-laid.result.base is_base;
      inside = block_inside has;
      short = omega (arith, c.requires.whole);
      usable = record { unbroken = search rules; long = search rules };
    }

pub returns-clause-read : goal.returns-clause-read
returns-clause-read g c =
    let laid = c.laid_by-laid.ensures in
    let has = has_block c.args.n c.self.view_is c.self.invariant c.in-Some.ensures c.requires.within laid.blocks laid.size in
    let m = g.D.Disk.meaning c.args.disk.now in
    on_ok_weaker c.read_block.result
    (λ read s name fits is_slot.
    let P : Stored → Type 0 = λ k. StoreFits k m s in
    block_read has m c.laid_by-laid.result.version c.laid_by-laid.result.base _ c.read_block.new.buf (laid.version ∙ ap (λ (l : Limits). l.version) c.limits.ensures.value)
    (laid.base ∙ ap data_start c.limits.ensures.value) c.requires.whole read s name
    (subst P (sym c.self.view_is) fits) (ap (λ (k : Stored). slot_of k.metadata.catalog name) c.self.view_is ∙ is_slot))
    c.read_block.ensures.read
