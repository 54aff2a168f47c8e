use Rattle.std.proofs.Common.{◌∙◌, sym, arith}
use Rattle.lis_fields.proofs.Texts.{text_padding, text_from}
use Rattle.lis_fields.proofs.fields.read_text.Goals as goal

pub returns-then-not-are_zeros-clause-same : goal.returns-then-not-are_zeros-clause-same
returns-then-not-are_zeros-clause-same c =
    λ text short e. text_padding c.in_ok-len.len.now c.in_ok-len.rest.now text c.split_at.result.1.now (sym c.in_ok-len.ensures.cases.0 ∙ e) c.split_at.ensures.back
    (sym c.are_zeros.ensures ∙ c.if-not-are_zeros.true)

pub returns-clause-spelled : goal.returns-clause-spelled
returns-clause-spelled c =
    let e = text_from c.in_ok-len.len.now c.in_ok-len.rest.now c.split_at.result.0.now c.split_at.result.1.now (omega (arith, c.in_ok-len.ensures.cases.1, c.requires)) c.if-len-gt-MAX_TEXT.false c.split_at.ensures.front c.split_at.ensures.back
    (sym c.are_zeros.ensures ∙ c.if-not-are_zeros.false) in
    (omega arith, c.in_ok-len.ensures.cases.0 ∙ e)
