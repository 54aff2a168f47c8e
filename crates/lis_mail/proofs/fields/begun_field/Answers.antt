use Rattle.std.proofs.Common.{◌≡◌, cond, ◌&&◌, ap, sym, ◌∙◌}
use Rattle.std.specs.List.{before_first}
use Rattle.lis_transducers.specs.declared.field.FieldKind.TheVariants.{Other}
use Rattle.lis_transducers.specs.Lines.{is_field_name}
use Rattle.lis_transducers.specs.Mail.{kind_of}
use Rattle.lis_mail.proofs.LineLemmas.{found_any, found_none, found_before, found_after, nothing_after}
use Rattle.lis_words.specs.Bytes.{is_colon}
use Rattle.lis_mail.proofs.fields.begun_field.Goals as goal

pub returns-in-None-clause-kind : goal.returns-in-None-clause-kind
returns-in-None-clause-kind c =
    let line = c.args.line.now in
    let name = before_first is_colon line in
    sym (ap (λ t. cond (t && is_field_name name) (kind_of name) Other) (found_none is_colon line c.in-None.ensures))

pub returns-in-None-clause-body : goal.returns-in-None-clause-body
returns-in-None-clause-body c = sym (nothing_after is_colon c.args.line.now c.in-None.ensures)

pub returns-in-Some-clause-kind : goal.returns-in-Some-clause-kind
returns-in-Some-clause-kind c =
    let line = c.args.line.now in
    let name = before_first is_colon line in
    let named : c.split_at.result.0.now ≡ name =
    c.split_at.ensures.front ∙ sym (found_before is_colon line c.in-Some.colon c.in-Some.ensures) in
    c.kind_of.ensures
    ∙ ap (λ n. cond (is_field_name n) (kind_of n) Other) named
    ∙ sym (ap (λ t. cond (t && is_field_name name) (kind_of name) Other) (found_any is_colon line c.in-Some.colon c.in-Some.ensures))

pub returns-in-Some-clause-body : goal.returns-in-Some-clause-body
returns-in-Some-clause-body c =
    c.split_at-in-Some.ensures.back ∙ sym (found_after is_colon c.args.line.now c.in-Some.colon c.in-Some.ensures)
