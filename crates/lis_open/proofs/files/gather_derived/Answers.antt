use Rattle.lis_open.proofs.Common.{length, get_or, refl, sym, ap, subst, ◌∙◌, arith, take_all, list_all, number_below}
use Rattle.std.proofs.lemmas.List.Folds.{list_all_at}
use Rattle.lis_open.specs.ReadFiles.{Gathered, is_numbered, numbers_of}
use Rattle.lis_open.proofs.Gathering.{gathered_none, words_more}
use Rattle.lis_open.proofs.files.gather_derived.Goals as goal

pub loop-word-init : goal.loop-word-init
loop-word-init c = record { gathered = gathered_none c.args.search.now; all = refl }

pub returns-in_default-clause-all : goal.returns-in_default-clause-all
returns-in_default-clause-all c =
    let l = c.loop-word in
    let words = c.as_slice-word-items.ensures.words in
    let here = c.word-item.is ∙ ap (λ ws. get_or ws l.word-index c.word-item.result) words in
    sym (list_all_at (is_numbered c.args.words.now.dict) c.args.derived.now l.word-index c.word-item.result (omega (arith, c.loop-word-test.true, ap length words))
    (ap (is_numbered c.args.words.now.dict) (sym here) ∙ c.in_default.ensures))

pub meet-requires : goal.meet-requires
meet-requires c = omega (arith, number_below c.args.words.now.dict c.requires.dict c.word-item.result c.in-Some.number c.in-Some.ensures.1, c.requires.few)

pub loop-word-preserved : goal.loop-word-preserved
loop-word-preserved c =
    let l = c.loop-word in
    let words = c.as_slice-word-items.ensures.words in
    let word = c.word-item.result in
    rw c.meet.ensures
    (words_more c.args.words.now c.args.derived.now c.args.search.now l.search l.word-index word c.in-Some.number l.invariant (omega (arith, c.loop-word-test.true, ap length words))
    (c.word-item.is ∙ ap (λ ws. get_or ws l.word-index word) words) c.in-Some.ensures.0 c.in-Some.ensures.1)

pub returns-clause-all : goal.returns-clause-all
returns-clause-all c =
    let all = take_all c.loop-word.word-index c.args.derived.now (omega (arith, c.loop-word-test.false, ap length c.as_slice-word-items.ensures.words)) in
    sym (ap (list_all (is_numbered c.args.words.now.dict)) (sym all) ∙ c.loop-word.invariant.all)

pub returns-clause-gathered : goal.returns-clause-gathered
returns-clause-gathered c =
    let all = take_all c.loop-word.word-index c.args.derived.now (omega (arith, c.loop-word-test.false, ap length c.as_slice-word-items.ensures.words)) in
    subst (λ ws. Gathered c.args.search.now c.loop-word.search (numbers_of c.args.words.now.dict ws)) all c.loop-word.invariant.gathered
