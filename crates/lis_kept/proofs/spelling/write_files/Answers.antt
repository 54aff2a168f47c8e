use Rattle.std.proofs.Common.{arith}
use Rattle.lis_kept.proofs.Common.{◌∙◌, ap, refl, ◌+◌, file_bytes}
use Rattle.lis_kept.specs.Metadata.{record_at}
use Rattle.lis_kept.proofs.Spelled.{one_slot_more}
use Rattle.lis_kept.proofs.spelling.write_files.Goals as goal

pub loop-k-preserved : goal.loop-k-preserved
loop-k-preserved c =
    one_slot_more 256 c.loop-k.k _ _ (λ j. file_bytes c.args.limits.now.version (record_at c.args.catalog.now (c.args.first + j))) c.loop-k.block c.write_file.new.bytes
    refl (omega arith) (omega (arith, c.loop-k.auto.block, c.loop-k-test.true, c.requires.whole))
    c.write_file.auto.bytes (c.write_file.ensures ∙ ap (file_bytes c.args.limits.now.version) c.file_slot-slot.ensures) c.loop-k.invariant
