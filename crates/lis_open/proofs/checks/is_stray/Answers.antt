use Rattle.lis_open.proofs.Common.{◌∙◌, sym, ap, not, is_some, is_taken, get, word_of, is_had}
use Rattle.lis_open.proofs.Lefts.{stray_not, stray_is}
use Rattle.lis_open.proofs.checks.is_stray.Goals as goal

pub returns-then-is_had : goal.returns-then-is_had
returns-then-is_had c =
    let words = c.args.words.now in
    stray_not (is_some (word_of words.dict c.args.number)) (is_taken words.declared c.args.number) (is_had c.args.ext.now c.args.number) (get c.args.lefts.now 0 c.args.number)
    (sym c.is_had.ensures ∙ c.if-is_had.true)

pub returns : goal.returns
returns c =
    let words = c.args.words.now in
    ap not c.get-2.ensures
    ∙ stray_is (is_some (word_of words.dict c.args.number)) (is_taken words.declared c.args.number) (is_had c.args.ext.now c.args.number) (get c.args.lefts.now 0 c.args.number)
    (ap is_some (sym c.word_of.ensures) ∙ c.if-is_none.ensures) (sym c.get.ensures ∙ c.if-get.false)
    (sym c.is_had.ensures ∙ c.if-is_had.false)
