use Rattle.lis_store.proofs.Common.{◌&&◌, ◌∙◌, sym, ap, has_word, declared_of}
use Rattle.lis_store.proofs.Assigned.{has_declared}
use Rattle.lis_store.proofs.relating.is_named.Goals as goal

pub returns : goal.returns
returns c =
    let k = c.args.metadata.now in
    let w = c.args.word.now in
    c.is_declared.ensures ∙ (sym (has_declared k w) ∙ ap (λ b. b && has_word (declared_of k) w) (sym c.if-not-is_plain_or_test.false ∙ c.is_plain_or_test.ensures))
