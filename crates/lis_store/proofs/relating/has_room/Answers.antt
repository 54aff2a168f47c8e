use Rattle.lis_store.proofs.Common.{arith, common_steps, few_properties}
use Rattle.lis_store.proofs.relating.has_room.Goals as goal

pub returns-then-axiom_count-props : goal.returns-then-axiom_count-props
returns-then-axiom_count-props c = grind (arith, common_steps)

pub overflow_add-word_count : goal.overflow_add-word_count
overflow_add-word_count c = grind (arith, common_steps, few_properties)

pub returns-then-word_count-lacked_with_head : goal.returns-then-word_count-lacked_with_head
returns-then-word_count-lacked_with_head c = grind (arith, common_steps)

pub returns-then-has_overfull : goal.returns-then-has_overfull
returns-then-has_overfull c = grind (arith, common_steps)

pub returns : goal.returns
returns c = grind (arith, common_steps)
