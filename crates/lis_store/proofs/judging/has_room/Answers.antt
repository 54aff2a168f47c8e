use Rattle.lis_store.proofs.Common.{arith, common_steps, few_properties}
use Rattle.lis_store.proofs.judging.has_room.Goals as goal

pub overflow_add-axiom_count : goal.overflow_add-axiom_count
overflow_add-axiom_count c = grind (arith, common_steps, few_properties)

pub returns-then-axiom_count-numbers : goal.returns-then-axiom_count-numbers
returns-then-axiom_count-numbers c = grind (arith, common_steps)

pub returns-then-word_count-props : goal.returns-then-word_count-props
returns-then-word_count-props c = grind (arith, common_steps)
