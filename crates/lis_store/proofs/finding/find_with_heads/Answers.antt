use Rattle.lis_store.proofs.Common.{List, ◌∷◌, ℕ, subst, take_all, heads}
use Rattle.lis_store.specs.Describing.{with_heads}
use Rattle.lis_store.specs.Finding.{FindsWords}
use Rattle.lis_store.proofs.Found.{finds_none, finds_next}
use Rattle.lis_store.proofs.finding.find_with_heads.Goals as goal

pub loop-word-init : goal.loop-word-init
loop-word-init c = finds_none c.args.metadata.now c.args.search.now

pub loop-word-preserved : goal.loop-word-preserved
loop-word-preserved c =
    finds_next c.args.metadata.now (λ (w : List ℕ). w ∷ heads w) c.args.words.now c.loop-word.word-index c.word-item.result c.loop-word-test.true c.word-item.is
    c.args.search.now c.loop-word.search c.find_with_head.new.search c.loop-word.invariant c.find_with_head.ensures

pub returns : goal.returns
returns c =
    subst (λ (ws : List (List ℕ)). FindsWords c.args.metadata.now (with_heads ws) c.args.search.now c.loop-word.search)
    (take_all c.loop-word.word-index c.args.words.now c.loop-word-test.false) c.loop-word.invariant
