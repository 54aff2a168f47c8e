use Rattle.lis_store.proofs.Common.{ℕ, true, sym, ap, subst, List, node_words}
use Rattle.lis_store.specs.Placing.{TakesNumbers}
use Rattle.lis_store.proofs.Assigned.{no_word, takes_no_numbers}
use Rattle.lis_store.proofs.placing.take_node.Goals as goal

pub returns-in_default : goal.returns-in_default
returns-in_default c =
    let numbers = c.args.numbers.now.items in
    subst (λ (ws : List (List ℕ)). TakesNumbers c.args.metadata.now ws numbers numbers true) (sym (no_word c.args.node.now c.in_default.not-Word)) (takes_no_numbers c.args.metadata.now numbers)

pub returns : goal.returns
returns c =
    subst (λ (ws : List (List ℕ)). TakesNumbers c.args.metadata.now ws c.args.numbers.now.items c.take_number.new.numbers.items c.take_number.result)
    (sym (ap node_words c.in-Word.is)) c.take_number.ensures
