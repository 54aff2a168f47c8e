use Rattle.std.proofs.Common.{◌++◌, ap, sym, ◌∙◌, arith, rules, refl}
use Rattle.std.proofs.lemmas.Grind.{common_steps}
use Rattle.lis_transducers.specs.Lines.{header}
use Rattle.lis_transducers.specs.Tokens.{tokens}
use Rattle.std.specs.List.{after_first}
use Rattle.lis_transducers.specs.Mail.{mail_words, token_words}
use Rattle.lis_mail.proofs.MailLemmas.{rest_words, line_first, folded_line, other_line, part_noted}
use Rattle.lis_words.specs.Bytes.{is_colon}
use Rattle.lis_mail.proofs.mail.mail_props.Goals as goal

pub loop-line-init : goal.loop-line-init
unfolding mail_words
loop-line-init c = refl

pub loop-line-preserved-then-is_folded : goal.loop-line-preserved-then-is_folded
loop-line-preserved-then-is_folded c =
    let first = line_first c.loop-line.rest.now c.first_line.result.0.now c.first_line.result.1.now c.first_line.ensures.header (grind (arith, common_steps)) in
    let line = c.first_line.result.0.now in
    let following = header c.first_line.result.1.now in
    part_noted _ _ _ (token_words c.loop-line.kind (tokens line)) (rest_words c.loop-line.kind following) _ c.loop-line.invariant
    (ap (rest_words c.loop-line.kind) first ∙ folded_line c.loop-line.kind c.first_line.result.0.now (header c.first_line.result.1.now) (search rules))
    c.note_tokens.ensures

pub loop-line-preserved : goal.loop-line-preserved
loop-line-preserved c =
    let line = c.first_line.result.0.now in
    let following = header c.first_line.result.1.now in
    let begun = c.begun_field-begun.result.0 in
    let first = line_first c.loop-line.rest.now line c.first_line.result.1.now c.first_line.ensures.header (grind (arith, common_steps)) in
    part_noted _ _ _ (token_words begun (tokens c.begun_field-begun.result.1.now)) (rest_words begun following) _ c.loop-line.invariant
    (ap (rest_words c.loop-line.kind) first
    ∙ other_line c.loop-line.kind line following (search rules)
    ∙ ap (λ kind. token_words kind (tokens (after_first is_colon line)) ++ rest_words kind following) (sym c.begun_field-begun.ensures.kind)
    ∙ ap (λ body. token_words begun (tokens body) ++ rest_words begun following) (sym c.begun_field-begun.ensures.body))
    c.note_tokens-else-is_folded.ensures
