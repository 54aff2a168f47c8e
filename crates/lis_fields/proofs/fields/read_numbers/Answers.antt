use Rattle.std.proofs.Common.{◌≡◌, ◌*◌, ◌≤◌, ◌∙◌, sym, ap, ap₂, subst, length, arith}
use Rattle.lis_words.specs.Bytes.{padded}
use Rattle.lis_fields.specs.Layouts.{number_width}
use Rattle.lis_fields.proofs.Widths.{are_zero, padding_zero, padded_from, front_is}
use Rattle.lis_fields.proofs.NumberLists.{wide, length_wide, same_wide}
use Rattle.lis_fields.proofs.Parts.{numbers_room}
use Rattle.lis_fields.proofs.fields.read_numbers.Goals as goal

pub returns-then-not-are_zeros-clause-same : goal.returns-then-not-are_zeros-clause-same
returns-then-not-are_zeros-clause-same c =
    λ ns len few range e.
    let width = number_width c.args.version in
    let cut = c.number_width.result * c.args.count in
    let size : length (wide width ns) ≡ cut = length_wide width ns ∙ ap₂ (λ w n. w * n) (sym c.number_width.ensures) len in
    let pass = padding_zero (16 * width) cut (wide width ns) c.args.field.now e size in
    let same = ap are_zero c.split_at.ensures.back in
    absurd (cc)

pub returns-clause-spelled : goal.returns-clause-spelled
returns-clause-spelled c =
    let width = number_width c.args.version in
    let cut = c.number_width.result * c.args.count in
    let room : cut ≤ 16 * width = subst (λ w. w * c.args.count ≤ 16 * width) (sym c.number_width.ensures) (numbers_room c.args.version c.args.count (omega arith)) in
    let e = padded_from (16 * width) cut c.args.field.now c.requires room (sym (ap are_zero c.split_at.ensures.back) ∙ (sym c.are_zeros.ensures ∙ c.if-not-are_zeros.false)) in
    (c.read_list.ensures.len, omega arith, c.read_list.ensures.fit, e ∙ ap (λ xs. padded (16 * width) xs) (sym c.split_at.ensures.front ∙ c.read_list.ensures.spelled))

pub returns-clause-same : goal.returns-clause-same
returns-clause-same c =
    λ ns len few range e.
    let width = number_width c.args.version in
    let cut = c.number_width.result * c.args.count in
    let size : length (wide width ns) ≡ cut = length_wide width ns ∙ ap₂ (λ w n. w * n) (sym c.number_width.ensures) len in
    let front = front_is cut c.args.field.now (wide width ns) _ e size in
    same_wide width c.read_list.result.items ns c.read_list.ensures.fit range (c.read_list.ensures.len ∙ sym len) (sym c.read_list.ensures.spelled ∙ (c.split_at.ensures.front ∙ front))
