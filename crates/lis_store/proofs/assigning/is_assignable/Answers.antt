use Rattle.lis_store.proofs.Common.{◌∙◌, refl, sym, ap, false_from_ne_true, is_plain_word, is_valued, is_declared}
use Rattle.lis_store.proofs.Assigned.{plain_assignable, valued_assignable, not_assignable}
use Rattle.lis_store.proofs.assigning.is_assignable.Goals as goal

pub returns-then-is_plain_word : goal.returns-then-is_plain_word
returns-then-is_plain_word c =
    c.is_declared.ensures ∙ plain_assignable c.args.metadata.now c.args.word.now (ap is_plain_word (sym c.bytes.ensures.bytes) ∙ (sym c.is_plain_word.ensures ∙ c.if-is_plain_word.true))

pub returns-in-None : goal.returns-in-None
returns-in-None c =
    let word = c.args.word.now in
    let bare = false_from_ne_true (is_valued word) (λ valued. let some = c.in-None.ensures.valued.1 valued in cc) in
    not_assignable c.args.metadata.now word (ap is_plain_word (sym c.bytes.ensures.bytes) ∙ (sym c.is_plain_word.ensures ∙ c.if-is_plain_word.false)) bare

pub returns-in-Some : goal.returns-in-Some
returns-in-Some c =
    c.is_declared-in-Some.ensures
    ∙ (ap (is_declared c.args.metadata.now) c.in-Some.ensures.head
    ∙ valued_assignable c.args.metadata.now c.args.word.now (ap is_plain_word (sym c.bytes.ensures.bytes) ∙ (sym c.is_plain_word.ensures ∙ c.if-is_plain_word.false)) (c.in-Some.ensures.valued.0 refl))
