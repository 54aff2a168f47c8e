use Rattle.std.proofs.Common.{◌≡◌, ◌+◌, [], ◌∷◌, cond, ◌∙◌, ap, sym, take, drop}
use Rattle.lis_transducers.specs.Lines.{header}
use Rattle.lis_mail.proofs.LineLemmas.{header_whole, header_at}
use Rattle.lis_words.specs.Bytes.{is_some_bytes, without_return}
use Rattle.lis_mail.proofs.lines.first_line.Goals as goal

pub returns-in-None-clause-header : goal.returns-in-None-clause-header
returns-in-None-clause-header c =
    header_whole c.args.bytes.now c.in-None.ensures
    ∙ ap (λ line. cond (is_some_bytes line) (line ∷ []) []) (sym c.without_return.ensures.value)

pub returns-in-Some-clause-header : goal.returns-in-Some-clause-header
returns-in-Some-clause-header c =
    let line_is : c.without_return-in-Some.result.now ≡ without_return (take c.in-Some.end c.args.bytes.now) =
    c.without_return-in-Some.ensures.value ∙ ap without_return c.split_at.ensures.front in
    header_at c.args.bytes.now c.in-Some.end c.in-Some.ensures
    ∙ ap (λ line. cond (is_some_bytes line) (line ∷ header (drop (c.in-Some.end + 1) c.args.bytes.now)) []) (sym line_is)
    ∙ ap (λ rest. cond (is_some_bytes c.without_return-in-Some.result.now) (c.without_return-in-Some.result.now ∷ header rest) []) (sym c.split_at-in-Some.ensures.back)
