use Rattle.std.proofs.Common.{arith}
use Rattle.lis_kept.proofs.Common.{◌∙◌, ap, refl, ◌+◌, prop_bytes}
use Rattle.lis_kept.specs.Metadata.{property_at}
use Rattle.lis_kept.proofs.Spelled.{one_slot_more}
use Rattle.lis_kept.proofs.spelling.write_properties.Goals as goal

pub loop-k-preserved : goal.loop-k-preserved
loop-k-preserved c =
    one_slot_more 64 c.loop-k.k _ _ (λ j. prop_bytes (property_at c.args.dict.now c.args.declared.now (c.args.first + j))) c.loop-k.block c.write_prop.new.bytes
    refl (omega arith) (omega (arith, c.loop-k.auto.block, c.loop-k-test.true, c.requires.whole))
    c.write_prop.auto.bytes (c.write_prop.ensures ∙ ap prop_bytes c.property_slot-slot.ensures) c.loop-k.invariant
