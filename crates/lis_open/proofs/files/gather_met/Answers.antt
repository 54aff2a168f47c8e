use Rattle.lis_open.proofs.Common.{◌≡◌, ◌∙◌, ◌+◌, ℕ, List, Some, sym, subst, arith, slice_get, number_below, among_place}
use Rattle.lis_dict.proofs.Laws.{number_from_among}
use Rattle.lis_eval.proofs.Members.{past_end}
use Rattle.lis_open.proofs.Gathering.{MetSoFar, met_none, met_not, met_more, met_all}
use Rattle.lis_open.proofs.files.gather_met.Goals.{then-is_met_word, else-is_met_word}
use Rattle.lis_open.proofs.files.gather_met.Goals as goal

pub loop-k-init : goal.loop-k-init
loop-k-init c =
    let tests = c.tests-start.ensures in
    met_none c.args.words.now c.args.size c.args.search.now c.tests-start.result.0 (omega (arith, tests.rise, tests.within)) tests.before

pub unreachable-requires : goal.unreachable-requires
unreachable-requires c =
    let past = past_end c.args.words.now.dict.entries c.loop-k.k (sym c.word_at.ensures ∙ c.in_default.is) in
    omega (arith, past, c.loop-k-test.true, c.tests-start.ensures.within)

pub is_met_word-requires-clause-number : goal.is_met_word-requires-clause-number
is_met_word-requires-clause-number c =
    let dict = c.args.words.now.dict in
    number_from_among dict c.requires.dict c.in-Some.word c.in-Some.number (among_place dict.entries c.loop-k.k (c.in-Some.word, c.in-Some.number) (sym c.word_at.ensures ∙ c.in-Some.is))

pub meet-requires : goal.meet-requires
meet-requires c =
    let dict = c.args.words.now.dict in
    let named = number_from_among dict c.requires.dict c.in-Some.word c.in-Some.number (among_place dict.entries c.loop-k.k (c.in-Some.word, c.in-Some.number) (sym c.word_at.ensures ∙ c.in-Some.is)) in
    omega (arith, number_below dict c.requires.dict c.in-Some.word c.in-Some.number named, c.requires.few)

pub loop-k-preserved : goal.loop-k-preserved
loop-k-preserved c =
    let l = c.loop-k in
    let words = c.args.words.now in
    let size = c.args.size in
    let old = c.args.search.now in
    let here : slice_get words.dict.entries l.k ≡ Some (c.in-Some.word, c.in-Some.number) = sym c.word_at.ensures ∙ c.in-Some.is in
    let named = number_from_among words.dict c.requires.dict c.in-Some.word c.in-Some.number (among_place words.dict.entries l.k (c.in-Some.word, c.in-Some.number) here) in
    elim c.if-is_met_word.branch [
      | then-is_met_word w ↦
          subst (λ (found : List ℕ). MetSoFar words size old found (l.k + 1)) (sym (w.search-is ∙ w.meet.ensures))
          (met_more words size old l.k c.in-Some.word c.in-Some.number here l.search l.invariant named (sym c.is_met_word.ensures ∙ w.if-is_met_word.true))
      | else-is_met_word w ↦
          subst (λ (found : List ℕ). MetSoFar words size old found (l.k + 1)) (sym w.search-is)
          (met_not words size old l.k c.in-Some.word c.in-Some.number here l.search l.invariant (sym c.is_met_word.ensures ∙ w.if-is_met_word.false))
    ]

pub returns : goal.returns
returns c =
    let tests = c.tests-start.ensures in
    let words = c.args.words.now in
    let end : c.loop-k.k ≡ c.tests-start.result.1 = omega (arith, c.loop-k-test.false, c.loop-k.auto.k-end, tests.rise) in
    let was = subst (λ k. MetSoFar words c.args.size c.args.search.now c.loop-k.search k) end c.loop-k.invariant in
    met_all words c.args.size c.args.search.now c.loop-k.search c.tests-start.result.1 was tests.within tests.behind
