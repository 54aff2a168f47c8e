use Rattle.std.proofs.Common.{arith}
use Rattle.lis_kept.proofs.Common.{◌∙◌, ap, ◌+◌, axiom_bytes}
use Rattle.lis_kept.specs.Metadata.{axiom_at}
use Rattle.lis_kept.proofs.Spelled.{one_slot_more}
use Rattle.lis_kept.proofs.spelling.write_axioms.Goals as goal

pub loop-k-preserved : goal.loop-k-preserved
loop-k-preserved c =
    one_slot_more 8 c.loop-k.k _ _ (λ j. axiom_bytes (axiom_at c.args.axioms.now (c.args.first + j))) c.loop-k.block c.write_axiom.new.bytes
    (omega arith) (omega arith) (omega (arith, c.loop-k.auto.block, c.loop-k-test.true, c.requires.whole))
    c.write_axiom.auto.bytes (c.write_axiom.ensures ∙ ap axiom_bytes c.axiom_slot-slot.ensures) c.loop-k.invariant
