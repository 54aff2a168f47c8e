use Rattle.lis_store.proofs.Common.{◌≡◌, ◌∙◌, ℕ, ◌+◌, ◌∷◌, [], Some, List, sym, ap, subst, arith, among_place}
use Rattle.std.specs.List.{slice_get}
use Rattle.lis_dict.proofs.Laws.{number_from_among}
use Rattle.lis_eval.proofs.Members.{past_end}
use Rattle.lis_store.specs.Finding.{FindsWords}
use Rattle.lis_store.proofs.Found.{finds_none, finds_both, finds_known, number_few}
use Rattle.lis_store.proofs.MetTests.{met_first, met_next, unmet_next, met_before, met_behind}
use Rattle.lis_store.proofs.finding.find_met.Goals.{then-is_met_word, else-is_met_word}
use Rattle.lis_store.proofs.finding.find_met.Goals as goal

pub loop-k-init : goal.loop-k-init
loop-k-init c =
    let k = c.args.metadata.now in
    let none = met_before k c.args.size c.tests-start.result.0 (omega (arith, c.tests-start.ensures.rise, c.tests-start.ensures.within)) c.tests-start.ensures.before in
    subst (λ ws. FindsWords k ws c.args.search.now c.args.search.now) (sym none) (finds_none k c.args.search.now)

pub unreachable-requires : goal.unreachable-requires
unreachable-requires c =
    let k = c.args.metadata.now in
    let past = past_end k.dict.entries c.loop-k.k (sym c.word_at.ensures ∙ c.in_default.is) in
    omega (arith, past, c.loop-k-test.true, c.tests-start.ensures.within)

pub meet-requires : goal.meet-requires
meet-requires c =
    let k = c.args.metadata.now in
    let sound = c.requires in
    let e : List ℕ × ℕ = (c.in-Some.word, c.in-Some.number) in
    let at : slice_get k.dict.entries c.loop-k.k ≡ Some e = sym c.word_at.ensures ∙ c.in-Some.is in
    let there = number_from_among k.dict sound.dict e.0 e.1 (among_place k.dict.entries c.loop-k.k e at) in
    omega (arith, number_few k sound e.0 c.loop-k.search e.1 there)

pub loop-k-preserved : goal.loop-k-preserved
loop-k-preserved c =
    let k = c.args.metadata.now in
    let sound = c.requires in
    let i = c.loop-k.k in
    let old = c.args.search.now in
    let found = c.loop-k.search in
    let size = c.args.size in
    let e : List ℕ × ℕ = (c.in-Some.word, c.in-Some.number) in
    let at : slice_get k.dict.entries i ≡ Some e = sym c.word_at.ensures ∙ c.in-Some.is in
    let there = number_from_among k.dict sound.dict e.0 e.1 (among_place k.dict.entries i e at) in
    elim c.if-is_met_word.branch [
      | then-is_met_word w ↦
          let Q : List (List ℕ) → Type 0 = λ ws. FindsWords k ws old w.meet.new.self in
          let one = subst (λ found_now. FindsWords k (e.0 ∷ []) found found_now) (sym w.meet.ensures) (finds_known k sound e.0 found e.1 there) in
          let next = subst Q (sym (met_next k size i e at (sym c.is_met_word.ensures ∙ w.if-is_met_word.true)))
          (finds_both k (met_first k size i) (e.0 ∷ []) old found w.meet.new.self c.loop-k.invariant one) in
          subst (λ now. FindsWords k (met_first k size (i + 1)) old now) (sym w.search-is) next
      | else-is_met_word w ↦
          let Q : List (List ℕ) → Type 0 = λ ws. FindsWords k ws old found in
          let next = subst Q (sym (unmet_next k size i e at (sym c.is_met_word.ensures ∙ w.if-is_met_word.false))) c.loop-k.invariant in
          subst (λ now. FindsWords k (met_first k size (i + 1)) old now) (sym w.search-is) next
    ]

pub returns : goal.returns
returns c =
    let k = c.args.metadata.now in
    let end : c.loop-k.k ≡ c.tests-start.result.1 = omega (arith, c.loop-k-test.false, c.loop-k.auto.k-end, c.tests-start.ensures.rise) in
    let all = ap (met_first k c.args.size) end ∙ met_behind k c.args.size c.tests-start.result.1 c.tests-start.ensures.within c.tests-start.ensures.behind in
    subst (λ (ws : List (List ℕ)). FindsWords k ws c.args.search.now c.loop-k.search) all c.loop-k.invariant
