use Rattle.std.proofs.Common.{◌∙◌, sym, ap, ap₂, subst, ◌∷◌, IsTrue, Some, arith}
use Rattle.std.proofs.lemmas.Bool.{false≢true}
use Rattle.lis_words.specs.Words.{is_property}
use Rattle.lis_words.proofs.Tests.{property_short}
use Rattle.lis_fields.specs.Layouts.{zeros, text_bytes}
use Rattle.lis_fields.proofs.Widths.{not_zeros, zeros_of}
use Rattle.lis_fields.proofs.Parts.{text_parts, text_joined}
use Rattle.lis_fields.proofs.props.read_named.Goals as goal

pub returns-then-not-are_zeros-clause-same : goal.returns-then-not-are_zeros-clause-same
returns-then-not-are_zeros-clause-same c =
    λ kind word is e.
    let parts = text_parts c.in_ok-kind.kind.now c.in_ok-kind.rest.now kind word (zeros 2) (property_short word is) (sym c.in_ok-kind.ensures.cases.0 ∙ e) in
    absurd (not_zeros 2 c.split_at.result.1.now (c.split_at.ensures.back ∙ parts.is_end) (sym c.are_zeros.ensures ∙ c.if-not-are_zeros.true))

pub returns-in_err-read_text-clause-same : goal.returns-in_err-read_text-clause-same
returns-in_err-read_text-clause-same c =
    λ kind word is e.
    let parts = text_parts c.in_ok-kind.kind.now c.in_ok-kind.rest.now kind word (zeros 2) (property_short word is) (sym c.in_ok-kind.ensures.cases.0 ∙ e) in
    absurd (c.in_err-read_text.ensures.same word (property_short word is) (c.split_at.ensures.front ∙ parts.is_text))

pub returns-in_err-word-clause-same : goal.returns-in_err-word-clause-same
returns-in_err-word-clause-same c =
    λ kind word is e.
    let parts = text_parts c.in_ok-kind.kind.now c.in_ok-kind.rest.now kind word (zeros 2) (property_short word is) (sym c.in_ok-kind.ensures.cases.0 ∙ e) in
    let found = c.in_ok-read_text.ensures.same word (property_short word is) (c.split_at.ensures.front ∙ parts.is_text) in
    absurd (false≢true (c.in_err-word.ensures.word.1 (subst (λ w. IsTrue (is_property w)) (sym found) is)))

pub returns-clause-spelled : goal.returns-clause-spelled
returns-clause-spelled c =
    let text = c.in_ok-read_text.ensures.spelled.1 ∙ ap text_bytes (sym c.in_ok-word.ensures.same) in
    let end = zeros_of 2 c.split_at.result.1.now (omega (arith, c.in_ok-kind.ensures.cases.1, c.requires)) (sym c.are_zeros.ensures ∙ c.if-not-are_zeros.false) in
    let rest = text_joined c.in_ok-kind.rest.now c.in_ok-word.word (zeros 2) (sym c.split_at.ensures.front ∙ text) (sym c.split_at.ensures.back ∙ end) in
    c.in_ok-kind.ensures.cases.0 ∙ ap (λ xs. c.in_ok-kind.kind.now ∷ xs) rest

pub returns-clause-same : goal.returns-clause-same
returns-clause-same c =
    λ kind word is e.
    let parts = text_parts c.in_ok-kind.kind.now c.in_ok-kind.rest.now kind word (zeros 2) (property_short word is) (sym c.in_ok-kind.ensures.cases.0 ∙ e) in
    let found = c.in_ok-read_text.ensures.same word (property_short word is) (c.split_at.ensures.front ∙ parts.is_text) in
    ap₂ (λ k w. Some (k, w)) parts.is_kind (c.in_ok-word.ensures.same ∙ found)
