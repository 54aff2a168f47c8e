use Rattle.std.proofs.Common.{arith, ◌-◌, ◌*◌, ◌^◌}
use Rattle.lis_kept.proofs.Common.{◌≡◌, ℕ, ◌+◌, ◌<◌, ◌≤◌, nat_lt, ap, ◌∙◌, lt-ltb, all_from, Contains-get_or, Among, among_from_contains}
use Rattle.lis_fields.specs.Layouts.{set_bytes}
use Rattle.lis_ext.specs.Ext.{set_of}
use Rattle.lis_ext.proofs.Counted.{each_below}
use Rattle.lis_kept.proofs.Spelled.{one_slot_more}
use Rattle.lis_kept.proofs.sets.write_sets.Goals as goal

pub overflow_add-first : goal.overflow_add-first
overflow_add-first c = omega (arith, c.requires.within, c.requires.few)

pub write_set-requires-clause-small : goal.write_set-requires-clause-small
write_set-requires-clause-small c =
    all_from (λ n. nat_lt n (2 ^ 32 - 1)) c.numbers.result.now
    (λ n m. lt-ltb n (2 ^ 32 - 1) (omega (arith, each_below c.args.ext.now.props c.numbers.result.now c.numbers.ensures.in_range n m, c.numbers.ensures.kept.few_props)))

pub loop-k-preserved : goal.loop-k-preserved
loop-k-preserved c =
    one_slot_more 512 c.loop-k.k _ _ (λ j. set_bytes (set_of c.args.ext.now (c.args.first + j))) c.loop-k.block c.write_set.new.bytes
    (omega arith) (omega arith) (omega (arith, c.loop-k-test.true, c.loop-k.auto.block, c.requires.block))
    c.write_set.auto.bytes (c.write_set.ensures ∙ ap set_bytes c.numbers.ensures.numbers) c.loop-k.invariant
