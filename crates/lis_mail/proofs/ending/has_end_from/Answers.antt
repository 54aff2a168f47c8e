use Rattle.std.proofs.Common.{◌≡◌, ◌-◌, length, ap, sym, ◌∙◌, arith}
use Rattle.std.specs.List.{list_any, range_with_len}
use Rattle.lis_mail.specs.Header.{ends_empty, has_end_from}
use Rattle.lis_mail.proofs.HeaderLemmas.{none_more, one_found}
use Rattle.lis_mail.proofs.ending.has_end_from.Goals as goal

pub returns-then-ends_empty : goal.returns-then-ends_empty
unfolding has_end_from
returns-then-ends_empty c =
    sym (one_found (ends_empty c.args.bytes.now) c.args.seen c.loop-at.at (omega arith) _ c.loop-at-test.true (sym c.ends_empty.ensures ∙ c.if-ends_empty.true))

pub loop-at-preserved : goal.loop-at-preserved
loop-at-preserved c =
    none_more (ends_empty c.args.bytes.now) c.args.seen c.loop-at.at (omega arith) c.loop-at.invariant (sym c.ends_empty.ensures ∙ c.if-ends_empty.false)

pub returns : goal.returns
unfolding has_end_from
returns c =
    sym (ap (λ n. list_any (ends_empty c.args.bytes.now) (range_with_len c.args.seen (n - c.args.seen))) (let end : length c.args.bytes.now ≡ c.loop-at.at = omega arith in end) ∙ c.loop-at.invariant)
