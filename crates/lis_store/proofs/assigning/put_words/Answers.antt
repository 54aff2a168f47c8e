use Rattle.lis_store.proofs.Common.{ℕ, ◌∙◌, [], ◌∷◌, true, false, ap, subst, List, arith, flat_map, take_all}
use Rattle.lis_store.specs.Assigning.{Takes}
use Rattle.lis_store.proofs.Assigned.{takes_stop, each_alone}
use Rattle.lis_store.proofs.assigning.put_words.Goals as goal

pub returns-then-not-put_word : goal.returns-then-not-put_word
returns-then-not-put_word c =
    let words = c.args.more.now in
    let old = c.args.words.now.items in
    let new = c.put_word.new.words.items in
    let stopped = subst (λ b. Takes (c.word-item.result ∷ []) c.loop-word.words.items new b) c.if-not-put_word.true c.put_word.ensures in
    subst (λ ws. Takes ws old new false) (each_alone words)
    (takes_stop (λ (w : List ℕ). w ∷ []) words c.loop-word.word-index c.word-item.result (omega (arith, c.loop-word-test.true, c.loop-word.auto.word-index-end)) c.word-item.is old c.loop-word.words.items new c.loop-word.invariant stopped)

pub returns : goal.returns
returns c =
    let words = c.args.more.now in
    let all = take_all c.loop-word.word-index words (omega (arith, c.loop-word-test.false)) in
    subst (λ ws. Takes ws c.args.words.now.items c.loop-word.words.items true) (ap (flat_map (λ (w : List ℕ). w ∷ [])) all ∙ each_alone words) c.loop-word.invariant
