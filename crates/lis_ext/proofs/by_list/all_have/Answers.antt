use Rattle.std.proofs.Common.{sym, ap, ◌∙◌, below_more}
use Rattle.lis_ext.specs.Numbers.{has_number}
use Rattle.lis_ext.proofs.by_list.all_have.Goals.{else-get-via-then-get+else-not-is_among, else-get-via-else-get}
use Rattle.lis_ext.proofs.by_list.all_have.Goals as goal

pub loop-file-preserved : goal.loop-file-preserved
loop-file-preserved c =
    elim c.else-get.branch [
      | else-get-via-then-get+else-not-is_among w ↦ below_more _ _ c.loop-file.invariant (λ there. sym (w.is_among.ensures ∙ ap (λ numbers. has_number numbers c.args.prop) w.numbers.ensures.numbers) ∙ w.if-not-is_among.false)
      | else-get-via-else-get w ↦ below_more _ _ c.loop-file.invariant (λ there. let no = sym c.get.ensures ∙ w.if-get.false in absurd cc)
    ]

pub returns-then-not-is_among : goal.returns-then-not-is_among
returns-then-not-is_among c = (
  λ no. absurd cc,
  λ each. sym c.if-not-is_among.true ∙ (c.is_among.ensures ∙ (ap (λ numbers. has_number numbers c.args.prop) c.numbers.ensures.numbers ∙ each c.loop-file.file c.loop-file-test.true (sym c.get.ensures ∙ c.if-get.true))),
)
