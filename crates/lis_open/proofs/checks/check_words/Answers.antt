use Rattle.lis_open.proofs.Common.{◌∙◌, refl, sym, inl, inr, [], below_more, arith, cases_lt, get, number_from_word, number_below}
use Rattle.lis_open.specs.ReadAll.{metadata_in}
use Rattle.lis_open.proofs.Descriptions.{sides}
use Rattle.lis_open.proofs.Lefts.{stray_by_row, no_stray_past}
use Rattle.lis_open.proofs.checks.check_words.Goals as goal

pub mark_lefts-requires-clause-lefts : goal.mark_lefts-requires-clause-lefts
mark_lefts-requires-clause-lefts c = λ k left right is.
    let dict = c.requires.words.are.dict in
    let from = (sides c.args.limits.now c.args.words.now c.args.axioms.now dict _ c.requires.axioms k left right is).from in
    number_below c.args.words.now.dict dict from.word left (number_from_word c.args.words.now.dict dict from.word left from.is)

pub returns-then-is_stray : goal.returns-then-is_stray
returns-then-is_stray c = λ marks.
    let l = c.loop-number in
    let k = metadata_in c.args.limits.now c.args.words.now c.args.axioms.now c.args.files.now marks in (
      l.number,
      refl,
      record {
        below = c.loop-number-test.true;
        stray = sym (stray_by_row k l.number (get c.mark_lefts.new.row 0 l.number) (c.mark_lefts.ensures.bits l.number (omega (arith, c.loop-number-test.true, c.requires.words.props))))
            ∙ (sym c.is_stray.ensures ∙ c.if-is_stray.true);
        none_before = l.invariant;
      },
    )

pub loop-number-preserved : goal.loop-number-preserved
loop-number-preserved c =
    let l = c.loop-number in
    let k = metadata_in c.args.limits.now c.args.words.now c.args.axioms.now c.args.files.now [] in
    below_more _ _ l.invariant
    (sym (stray_by_row k l.number (get c.mark_lefts.new.row 0 l.number) (c.mark_lefts.ensures.bits l.number (omega (arith, c.loop-number-test.true, c.requires.words.props))))
    ∙ (sym c.is_stray.ensures ∙ c.if-is_stray.false))

pub returns : goal.returns
returns c = λ marks n. elim (cases_lt n c.args.limits.now.props) [
  | inl lt ↦ c.loop-number.invariant n (omega (arith, lt, c.loop-number-test.false))
  | inr past ↦ no_stray_past (metadata_in c.args.limits.now c.args.words.now c.args.axioms.now c.args.files.now marks) n (c.requires.words.rest n past)
]
