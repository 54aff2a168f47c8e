use Rattle.std.proofs.Common.{◌≡◌, ℕ, false, cond, List, [], ◌∷◌, ap, sym, ◌∙◌}
use Rattle.lis_words.specs.Words.{is_property}
use Rattle.lis_model.specs.Step.{Item}
use Rattle.lis_model.specs.Script.{bad_line, one_word_form}
use Rattle.lis_line.proofs.Tags.{no_word}
use Rattle.lis_line.proofs.forms.property.Goals as goal

word_bad : (item : List ℕ → Item) (words : List (List ℕ)) (word : List ℕ) → words ≡ word ∷ [] → is_property word ≡ false → bad_line ≡ one_word_form is_property item words
word_bad item words word one bad = sym (ap (one_word_form is_property item) one ∙ ap (λ is. cond is (item word) bad_line) bad)

pub returns-in-None : goal.returns-in-None
returns-in-None c = λ item. word_bad item _ c.in_ok-word.word.now c.in_ok-word.ensures.word (no_word _ (λ h. c.in-None.ensures.word.1 h))
