use Rattle.std.proofs.Common.{◌≡◌, ◌∙◌, ◌∷◌, [], ◌++◌, ap, length, arith}
use Rattle.lis_words.specs.Words.{stem, head_bytes}
use Rattle.lis_words.proofs.Head.{stem_short, head_is_property}
use Rattle.lis_words.proofs.word.head.Goals as goal

pub with_colon-held-requires : goal.with_colon-held-requires
with_colon-held-requires c =
    let e = c.split_at_colon.ensures.stem ∙ ap stem c.bytes.ensures.bytes in
    omega (arith, ap length e, stem_short c.args.word.now c.requires)

pub invariant_of-result : goal.invariant_of-result
invariant_of-result c =
    let e : c.with_colon-held.result.items ≡ head_bytes c.args.word.now =
    c.with_colon-held.ensures ∙ ap (λ xs. xs ++ 58 ∷ []) (c.split_at_colon.ensures.stem ∙ ap stem c.bytes.ensures.bytes) in
    rw e (head_is_property c.args.word.now c.requires)
