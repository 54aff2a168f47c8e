use Rattle.lis_store.proofs.Common.{List, ℕ, subst, take_all}
use Rattle.lis_store.specs.Finding.{FindsWords}
use Rattle.lis_store.proofs.Found.{finds_none, finds_more}
use Rattle.lis_store.proofs.finding.find_words.Goals as goal

pub loop-word-init : goal.loop-word-init
loop-word-init c = finds_none c.args.metadata.now c.args.search.now

pub loop-word-preserved : goal.loop-word-preserved
loop-word-preserved c =
    finds_more c.args.metadata.now c.args.words.now c.loop-word.word-index c.word-item.result c.loop-word-test.true c.word-item.is
    c.args.search.now c.loop-word.search c.find_word.new.search c.loop-word.invariant c.find_word.ensures

pub returns : goal.returns
returns c =
    subst (λ (ws : List (List ℕ)). FindsWords c.args.metadata.now ws c.args.search.now c.loop-word.search)
    (take_all c.loop-word.word-index c.args.words.now c.loop-word-test.false) c.loop-word.invariant
