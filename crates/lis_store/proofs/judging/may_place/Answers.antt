use Rattle.lis_store.proofs.Common.{◌∙◌, sym, ap, is_valued}
use Rattle.lis_laws.proofs.Apart.{declarable_from}
use Rattle.lis_store.proofs.judging.may_place.Goals as goal

pub returns-in-Some-clause-form : goal.returns-in-Some-clause-form
returns-in-Some-clause-form c =
    declarable_from c.args.word.now c.bytes-bytes.ensures.word
    (sym (c.is_valued.ensures ∙ ap is_valued c.bytes-bytes.ensures.bytes) ∙ c.if-is_valued.false) (sym c.is_builtin.ensures ∙ c.if-is_builtin.false)
