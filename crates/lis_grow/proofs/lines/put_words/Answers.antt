use Rattle.std.proofs.Common.{◌+◌, ◌/◌, ◌%◌, ◌++◌, ap, ◌∙◌, codes, append_assoc}
use Rattle.lis_model.specs.Replies.{two_digits}
use Rattle.lis_grow.specs.Grow.{four_digits}
use Rattle.lis_grow.proofs.lines.put_words.Goals as goal

pub returns-clause-bytes : goal.returns-clause-bytes
returns-clause-bytes c =
    let draw = c.args.draw in
    c.put_four.ensures.bytes
    ∙ ap (λ xs. xs ++ four_digits (2000 + draw / 16 % 20))
    (c.put-2.ensures.bytes ∙ ap (λ xs. xs ++ codes " year:") (c.put_two.ensures.bytes ∙ ap (λ xs. xs ++ two_digits (draw % 16)) c.put.ensures.bytes))
    ∙ simp append_assoc
