use Rattle.std.proofs.Common.{◌∷◌, drop, ap, sym, ◌∙◌, arith}
use Rattle.std.proofs.lemmas.Grind.{common_steps}
use Rattle.std.proofs.lemmas.List.Sums.{prefix_len-le-length}
use Rattle.lis_words.specs.Words.{is_plain_byte}
use Rattle.lis_transducers.specs.Tokens.{tokens, is_between}
use Rattle.lis_mail.proofs.TokenLemmas.{no_token, first_token}
use Rattle.lis_mail.proofs.tokens.next_token.Goals as goal

pub split_at-requires : goal.split_at-requires
split_at-requires c = rw c.gap_len.ensures (prefix_len-le-length is_between c.args.body.now)

pub split_at-requires-2 : goal.split_at-requires-2
split_at-requires-2 c = rw c.token_len.ensures (prefix_len-le-length is_plain_byte c.split_at.result.1.now)

pub returns-then-is_empty-clause-tokens : goal.returns-then-is_empty-clause-tokens
returns-then-is_empty-clause-tokens c =
    no_token c.args.body.now c.split_at.result.1.now c.gap_len.result c.gap_len.ensures c.split_at.ensures.back (grind (arith, common_steps))

pub returns-clause-tokens : goal.returns-clause-tokens
returns-clause-tokens c =
    let first = first_token c.args.body.now c.split_at.result.1.now c.gap_len.result c.token_len.result c.gap_len.ensures c.split_at.ensures.back (grind (arith, common_steps)) c.token_len.ensures in
    first.0 ∙ ap (λ token. token ∷ tokens (drop c.token_len.result c.split_at.result.1.now)) (sym c.split_at-2.ensures.front)
    ∙ ap (λ rest. c.split_at-2.result.0.now ∷ tokens rest) (sym c.split_at-2.ensures.back)

pub returns-clause-shorter : goal.returns-clause-shorter
returns-clause-shorter c =
    let first = first_token c.args.body.now c.split_at.result.1.now c.gap_len.result c.token_len.result c.gap_len.ensures c.split_at.ensures.back (grind (arith, common_steps)) c.token_len.ensures in
    omega (arith, first.1, c.split_at.ensures.back_len, c.split_at-2.ensures.back_len)
