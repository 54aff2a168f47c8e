use Rattle.std.proofs.Common.{◌≡◌, ◌||◌, ap, sym, ◌∙◌}
use Rattle.std.specs.List.{list_any}
use Rattle.lis_words.specs.Words.{has_word}
use Rattle.lis_model.specs.State.{State, heads, description}
use Rattle.lis_plain.proofs.Entries.{had_is}
use Rattle.lis_plain.proofs.room.is_had.Goals as goal

pub returns-then-is_left_head : goal.returns-then-is_left_head
returns-then-is_left_head c =
    let s = c.args.state.now in let word = c.args.word.now in
    let left : list_any (λ pair. has_word (heads pair.0) word) s.axioms ≡ c.is_left_head.result =
    sym (c.is_left_head.ensures ∙ ap (list_any (λ pair. has_word (heads pair.0) word)) (c.deref.ensures.value ∙ ap (λ (t : State). t.axioms) c.state.view_is)) in
    ap (λ b. b || list_any (λ file. has_word (description s file) word) s.files) (sym (left ∙ c.if-is_left_head.true)) ∙ had_is s word

pub returns : goal.returns
returns c =
    let s = c.args.state.now in let word = c.args.word.now in
    let left : list_any (λ pair. has_word (heads pair.0) word) s.axioms ≡ c.is_left_head.result =
    sym (c.is_left_head.ensures ∙ ap (list_any (λ pair. has_word (heads pair.0) word)) (c.deref.ensures.value ∙ ap (λ (t : State). t.axioms) c.state.view_is)) in
    c.in_ok-described.ensures
    ∙ (ap (λ b. b || list_any (λ file. has_word (description s file) word) s.files) (sym (left ∙ c.if-is_left_head.false)) ∙ had_is s word)
