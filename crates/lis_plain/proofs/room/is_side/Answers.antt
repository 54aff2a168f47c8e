use Rattle.std.proofs.Common.{◌≡◌, ◌||◌, ap, sym, ◌∙◌}
use Rattle.std.specs.List.{list_any}
use Rattle.lis_words.specs.Words.{same_word}
use Rattle.lis_model.specs.State.{State}
use Rattle.lis_plain.proofs.Entries.{side_is}
use Rattle.lis_plain.proofs.room.is_side.Goals as goal

pub returns-then-is_left : goal.returns-then-is_left
returns-then-is_left c =
    let s = c.args.state.now in let word = c.args.word.now in
    let left : list_any (λ pair. same_word pair.0 word) s.axioms ≡ c.is_left.result =
    sym (c.is_left.ensures ∙ ap (list_any (λ pair. same_word pair.0 word)) (c.deref.ensures.value ∙ ap (λ (t : State). t.axioms) c.state.view_is)) in
    c.if-is_left.true ∙ (ap (λ b. b || list_any (λ pair. same_word pair.1 word) s.axioms) (sym (left ∙ c.if-is_left.true)) ∙ side_is s word)

pub returns-else-is_left : goal.returns-else-is_left
returns-else-is_left c =
    let s = c.args.state.now in let word = c.args.word.now in
    let left : list_any (λ pair. same_word pair.0 word) s.axioms ≡ c.is_left.result =
    sym (c.is_left.ensures ∙ ap (list_any (λ pair. same_word pair.0 word)) (c.deref.ensures.value ∙ ap (λ (t : State). t.axioms) c.state.view_is)) in
    c.is_right.ensures
    ∙ (ap (list_any (λ pair. same_word pair.1 word)) (c.deref-else-is_left.ensures.value ∙ ap (λ (t : State). t.axioms) c.state.view_is)
    ∙ (ap (λ b. b || list_any (λ pair. same_word pair.1 word) s.axioms) (sym (left ∙ c.if-is_left.false)) ∙ side_is s word))
