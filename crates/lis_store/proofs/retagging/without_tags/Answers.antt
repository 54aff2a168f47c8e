use Rattle.lis_store.proofs.Common.{ℕ, ◌≡◌, ◌<◌, Bool, true, false, List, [], ◌∷◌, ◌++◌, not, cond, take, length, append-nil, sym, ◌∙◌, ap, arith, list_any, length-take-le, has_word, filter_le}
use Rattle.lis_store.specs.Assigning.{node_tags}
use Rattle.lis_store.proofs.Retagged.{kept_next}
use Rattle.lis_store.proofs.retagging.without_tags.Goals.{then-not-has_tag, else-not-has_tag}
use Rattle.lis_store.proofs.retagging.without_tags.Goals as goal

pub push-requires : goal.push-requires
push-requires c =
    let words = c.args.words.now in
    let i = c.loop-word.word-index in
    let few = filter_le (λ word. not (list_any (λ node. has_word (node_tags node) word) c.args.nodes.now)) (take i words) in
    let long = length-take-le i words (omega (arith, c.loop-word-test.true, c.loop-word.auto.word-index-end)) in
    omega (arith, few, long, ap length c.loop-word.invariant, c.loop-word-test.true, c.loop-word.auto.word-index-end, c.requires)

pub loop-word-preserved : goal.loop-word-preserved
loop-word-preserved c =
    let words = c.args.words.now in
    let i = c.loop-word.word-index in
    let word = c.word-item.result in
    let kept = c.loop-word.kept.items in
    let test : List ℕ → Bool = λ w. not (list_any (λ node. has_word (node_tags node) w) c.args.nodes.now) in
    let lt : i < length words = omega (arith, c.loop-word-test.true, c.loop-word.auto.word-index-end) in
    let next = kept_next test words i word lt c.word-item.is kept c.loop-word.invariant in
    elim c.if-not-has_tag.branch [
      | then-not-has_tag w ↦
          let passes : test word ≡ true = ap not (sym c.has_tag.ensures ∙ w.if-not-has_tag.true) in
          let more = next ∙ ap (λ b. kept ++ cond b (word ∷ []) []) passes in cc
      | else-not-has_tag w ↦
          let fails : test word ≡ false = ap not (sym c.has_tag.ensures ∙ w.if-not-has_tag.false) in
          let same = next ∙ (ap (λ b. kept ++ cond b (word ∷ []) []) fails ∙ append-nil kept) in cc
    ]

pub returns-clause-few : goal.returns-clause-few
returns-clause-few c =
    let words = c.args.words.now in
    let i = c.loop-word.word-index in
    let few = filter_le (λ word. not (list_any (λ node. has_word (node_tags node) word) c.args.nodes.now)) (take i words) in
    let long = length-take-le i words (omega (arith, c.loop-word.auto.word-index-end)) in
    omega (arith, few, long, ap length c.loop-word.invariant, c.loop-word.auto.word-index-end, c.requires)
