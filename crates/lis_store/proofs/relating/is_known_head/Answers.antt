use Rattle.lis_store.proofs.Common.{◌≡◌, ◌&&◌, ◌||◌, ◌∙◌, true, sym, ap, ap₂, and_from, or_left, has_word, is_head, is_built_in, declared_of}
use Rattle.lis_store.proofs.Assigned.{has_declared}
use Rattle.lis_store.proofs.relating.is_known_head.Goals as goal

pub returns-then-is_declared : goal.returns-then-is_declared
returns-then-is_declared c =
    let k = c.args.metadata.now in
    let w = c.args.word.now in
    let head : is_head w ≡ true = ap is_head (sym c.bytes.ensures.bytes) ∙ (sym c.is_head.ensures ∙ c.if-not-is_head.false) in
    sym (and_from (is_head w) (has_word (declared_of k) w || is_built_in w) head (or_left (has_word (declared_of k) w) (is_built_in w) (has_declared k w ∙ (sym c.is_declared.ensures ∙ c.if-is_declared.true))))

pub returns : goal.returns
returns c =
    let k = c.args.metadata.now in
    let w = c.args.word.now in
    let head : is_head w ≡ true = ap is_head (sym c.bytes.ensures.bytes) ∙ (sym c.is_head.ensures ∙ c.if-not-is_head.false) in
    c.is_builtin.ensures
    ∙ ap₂ (λ h d. h && (d || is_built_in w)) (sym head) (sym (has_declared k w ∙ (sym c.is_declared.ensures ∙ c.if-is_declared.false)))
