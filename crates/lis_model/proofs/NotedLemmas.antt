-- What noting words keeps.
use Rattle.std.proofs.Common.{◌≡◌, ℕ, Bool, true, false, not, ◌&&◌, ◌||◌, List, [], ◌∷◌, ◌++◌, IsTrue, refl, sym, ap, ◌∙◌}
use Rattle.std.proofs.lemmas.Bool.{false≢true}
use Rattle.std.proofs.lemmas.List.Folds.{list_any-append}
use Rattle.std.proofs.lemmas.Cmp.{nat_list_eq_equiv}
use Rattle.lis_words.specs.Words.{has_word, same_word}
use Rattle.lis_model.specs.Noted.{are_distinct_words}

-- a word that is not there yet leaves them distinct
pub are_distinct-push : (words : List (List ℕ)) (word : List ℕ) → IsTrue (are_distinct_words words) → has_word words word ≡ false → IsTrue (are_distinct_words (words ++ word ∷ []))
are_distinct-push [] word distinct new = refl
are_distinct-push (first ∷ words) word distinct new =
    by (has_word words first) (are_distinct_words words) (same_word first word) (has_word words word) distinct new
    (λ h. are_distinct-push words word h)
    (list_any-append (λ w. same_word w first) words (word ∷ []) ∙ ap (λ t. has_word words first || (t || false)) (nat_list_eq_equiv.symm word first))
  where
    by : (there apart same more : Bool) → IsTrue (not there && apart) → (same || more) ≡ false
        → (IsTrue apart → more ≡ false → IsTrue (are_distinct_words (words ++ word ∷ [])))
        → has_word (words ++ word ∷ []) first ≡ (there || (same || false))
        → IsTrue (not (has_word (words ++ word ∷ []) first) && are_distinct_words (words ++ word ∷ []))
    by true apart same more h new on e = absurd (false≢true h)
    by false apart true more h new on e = absurd (false≢true (sym new))
    by false apart false more h new on e = rw e (on h new)
