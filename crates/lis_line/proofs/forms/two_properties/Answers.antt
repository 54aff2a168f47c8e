use Rattle.std.proofs.Common.{◌≡◌, ℕ, Bool, true, false, cond, ◌&&◌, List, [], ◌∷◌, ap, sym, ◌∙◌, refl}
use Rattle.lis_words.specs.Words.{is_property}
use Rattle.lis_model.specs.Step.{Item}
use Rattle.lis_model.specs.Script.{bad_line, two_words_form}
use Rattle.lis_line.specs.Forms.{pair_asks}
use Rattle.lis_line.proofs.Tags.{no_word}
use Rattle.lis_line.proofs.forms.two_properties.Goals as goal

left_bad : (item : List ℕ → List ℕ → Item) (words : List (List ℕ)) (left right : List ℕ) → words ≡ left ∷ right ∷ [] → is_property left ≡ false
    → bad_line ≡ two_words_form is_property is_property item words
left_bad item words left right two bad = sym (ap (two_words_form is_property is_property item) two ∙ ap (λ is. cond (is && is_property right) (item left right) bad_line) bad)

right_bad : (item : List ℕ → List ℕ → Item) (words : List (List ℕ)) (left right : List ℕ) → words ≡ left ∷ right ∷ [] → is_property right ≡ false
    → bad_line ≡ two_words_form is_property is_property item words
right_bad item words left right two bad = sym (ap (two_words_form is_property is_property item) two ∙ ap (λ is. cond (is_property left && is) (item left right) bad_line) bad ∙ by (is_property left))
  where
    by : (t : Bool) → cond (t && false) (item left right) bad_line ≡ bad_line
    by true = refl
    by false = refl

pub returns-in_err-left : goal.returns-in_err-left
returns-in_err-left c = λ item.
    ap (pair_asks item) c.from_residual-in_err-left.ensures
    ∙ left_bad item _ c.in_ok-first.first.now c.in_ok-first.second.now c.in_ok-first.ensures.words (no_word _ (λ h. c.in_err-left.ensures.word.1 h))

pub returns-in_err-right : goal.returns-in_err-right
returns-in_err-right c = λ item.
    ap (pair_asks item) c.from_residual-in_err-right.ensures
    ∙ right_bad item _ c.in_ok-first.first.now c.in_ok-first.second.now c.in_ok-first.ensures.words (no_word _ (λ h. c.in_err-right.ensures.word.1 h))
