use Rattle.lis_store.proofs.Common.{◌∷◌, List, ℕ, sym, subst}
use Rattle.lis_store.specs.Finding.{FindsWords}
use Rattle.lis_store.proofs.Found.{headless}
use Rattle.lis_store.proofs.finding.find_with_head.Goals as goal

pub returns-in_default : goal.returns-in_default
returns-in_default c =
    let word = c.args.word.now in
    subst (λ (ws : List (List ℕ)). FindsWords c.args.metadata.now (word ∷ ws) c.args.search.now c.find_word.new.search)
    (sym (headless word (λ valued. let some = c.in_default.ensures.valued.1 valued in cc))) c.find_word.ensures
