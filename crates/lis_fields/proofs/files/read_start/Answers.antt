use Rattle.std.proofs.Common.{◌∙◌, refl, sym, ap, ap₂, subst, [], ◌∷◌, IsTrue, Some, get_or, drop, arith}
use Rattle.std.proofs.lemmas.Bool.{false≢true}
use Rattle.lis_words.specs.Words.{is_file_name}
use Rattle.lis_fields.specs.Layouts.{zeros, text_bytes}
use Rattle.lis_fields.proofs.Widths.{are_zero, zeros_of}
use Rattle.lis_fields.proofs.Texts.{name_short}
use Rattle.lis_fields.proofs.Parts.{text_parts, text_joined}
use Rattle.lis_fields.proofs.files.read_start.Goals as goal

pub returns-then-not-are_zeros-clause-same : goal.returns-then-not-are_zeros-clause-same
returns-then-not-are_zeros-clause-same c =
    λ name count is e.
    let parts = text_parts c.in_ok-kind.kind.now c.in_ok-kind.rest.now 1 name (count ∷ 0 ∷ []) (name_short name is) (sym c.in_ok-kind.ensures.cases.0 ∙ e) in
    let end = sym c.in_ok-count.ensures.cases.0 ∙ (c.split_at.ensures.back ∙ parts.is_end) in
    let pass = ap (λ xs. are_zero (drop 1 xs)) end in
    let fails = sym c.are_zeros.ensures ∙ c.if-not-are_zeros.true in
    absurd (false≢true (sym fails ∙ pass))

pub returns-in_err-read_text-clause-same : goal.returns-in_err-read_text-clause-same
returns-in_err-read_text-clause-same c =
    λ name count is e.
    let parts = text_parts c.in_ok-kind.kind.now c.in_ok-kind.rest.now 1 name (count ∷ 0 ∷ []) (name_short name is) (sym c.in_ok-kind.ensures.cases.0 ∙ e) in
    absurd (c.in_err-read_text.ensures.same name (name_short name is) (c.split_at.ensures.front ∙ parts.is_text))

pub returns-in_err-name-clause-same : goal.returns-in_err-name-clause-same
returns-in_err-name-clause-same c =
    λ name count is e.
    let parts = text_parts c.in_ok-kind.kind.now c.in_ok-kind.rest.now 1 name (count ∷ 0 ∷ []) (name_short name is) (sym c.in_ok-kind.ensures.cases.0 ∙ e) in
    let found = c.in_ok-read_text.ensures.same name (name_short name is) (c.split_at.ensures.front ∙ parts.is_text) in
    absurd (false≢true (c.in_err-name.ensures.name.1 (subst (λ n. IsTrue (is_file_name n)) (sym found) is)))

pub returns-clause-spelled : goal.returns-clause-spelled
unfolding zeros
returns-clause-spelled c =
    let text = c.in_ok-read_text.ensures.spelled.1 ∙ ap text_bytes (sym c.in_ok-name.ensures.same) in
    let gap = zeros_of 1 c.in_ok-count.gap.now (omega (arith, c.in_ok-kind.ensures.cases.1, c.in_ok-count.ensures.cases.1, c.requires)) (sym c.are_zeros.ensures ∙ c.if-not-are_zeros.false) in
    let end = c.in_ok-count.ensures.cases.0 ∙ ap (λ xs. c.in_ok-count.count.now ∷ xs) gap in
    let rest = text_joined c.in_ok-kind.rest.now c.in_ok-name.name (c.in_ok-count.count.now ∷ 0 ∷ []) (sym c.split_at.ensures.front ∙ text) (sym c.split_at.ensures.back ∙ end) in
    (subst (λ n. IsTrue (is_file_name n)) (sym c.in_ok-name.ensures.same) (c.in_ok-name.ensures.name.0 refl), c.in_ok-kind.ensures.cases.0 ∙ ap₂ (λ k xs. k ∷ xs) c.if-kind-ne1.false rest)

pub returns-clause-same : goal.returns-clause-same
returns-clause-same c =
    λ name count is e.
    let parts = text_parts c.in_ok-kind.kind.now c.in_ok-kind.rest.now 1 name (count ∷ 0 ∷ []) (name_short name is) (sym c.in_ok-kind.ensures.cases.0 ∙ e) in
    let found = c.in_ok-read_text.ensures.same name (name_short name is) (c.split_at.ensures.front ∙ parts.is_text) in
    let end = sym c.in_ok-count.ensures.cases.0 ∙ (c.split_at.ensures.back ∙ parts.is_end) in
    ap₂ (λ n k. Some (n, k)) (c.in_ok-name.ensures.same ∙ found) (ap (λ xs. get_or xs 0 0) end)
