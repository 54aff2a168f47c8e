use Rattle.std.proofs.Common.{arith}
use Rattle.lis_kept.proofs.Common.{◌≡◌, ◌<◌, ◌≤◌, ◌-◌, ◌*◌, ℕ, length, refl, sym, subst, bitmap_start, data_start}
use Rattle.lis_blockmap.specs.Bitmap.{bitmap_bytes}
use Rattle.lis_kept.specs.Metadata.{Metadata}
use Rattle.lis_kept.specs.Inside.{IsBlock}
use Rattle.lis_kept.specs.contracts.metadata.Metadata.{the_view}
use Rattle.lis_kept.proofs.Image.{same_homes, same_blocks}
use Rattle.lis_kept.proofs.Spelled.{bitmap_block}
use Rattle.lis_kept.proofs.Staged.{stages_block}
use Rattle.lis_kept.proofs.metadata.Metadata.stage_block.Goals as goal

pub stage_to-requires-clause-home : goal.stage_to-requires-clause-home
stage_to-requires-clause-home c = omega (arith, c.requires.from, same_homes c.requires.image)

pub stage_to-requires-clause-within : goal.stage_to-requires-clause-within
stage_to-requires-clause-within c = omega (arith, c.requires.to, same_blocks c.requires.image)

pub stage-requires-clause-home : goal.stage-requires-clause-home
stage-requires-clause-home c = omega (arith, c.requires.from, same_homes c.requires.image)

pub stage-requires-clause-within : goal.stage-requires-clause-within
stage-requires-clause-within c = omega (arith, c.requires.to, same_blocks c.requires.image)

-- a block of the bitmap has the bits of some data blocks
some_bits : (k now : Metadata) (n start : ℕ) → k ≡ now → start ≡ bitmap_start k.limits → length k.taken ≡ k.limits.blocks → start ≤ n → n < data_start now.limits → 32768 * (n - start) < length k.taken
some_bits k now n start is at len from to =
    let below : n < data_start k.limits = subst (λ (m : Metadata). n < data_start m.limits) (sym is) to in
    omega (arith, at, len, from, below)

pub stage_to-requires-clause-some : goal.stage_to-requires-clause-some
stage_to-requires-clause-some c =
    some_bits (the_view c.self.inside) c.args.self.now c.args.n c.bitmap_start-bitmap.result c.self.view_is c.bitmap_start-bitmap.ensures c.self.invariant.sound.blocks c.if-n-bitmap.true c.requires.to

pub returns-then-n-bitmap : goal.returns-then-n-bitmap
returns-then-n-bitmap c =
    let v = the_view c.self.inside in
    let block = bitmap_bytes (c.args.n - c.bitmap_start-bitmap.result) c.self.inside.map in
    let P : Metadata → Type 0 = λ k. IsBlock k c.args.n block in
    let Q : Metadata → Type 0 = λ k. c.args.n < data_start k.limits in
    stages_block c.args.self.now c.args.n c.args.journal.now c.stage_to.new.journal block c.stage_to.ensures.staged c.stage_to.ensures.looks
    (subst P c.self.view_is (bitmap_block v c.self.invariant.sound.range c.args.n block _ c.bitmap_start-bitmap.ensures (omega (arith, c.if-n-bitmap.true, c.bitmap_start-bitmap.ensures))
    (subst Q (sym c.self.view_is) c.requires.to) refl))

pub returns : goal.returns
returns c = stages_block c.args.self.now c.args.n c.args.journal.now c.stage.new.self c.write_block.new.block c.stage.ensures.staged c.stage.ensures.looks c.write_block.ensures
