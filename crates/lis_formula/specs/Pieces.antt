-- Texts in sequence in one array, as a stack of them, the last first.
use Rattle.std.specs.Prelude.{◌≡◌, ℕ, List, [], ◌∷◌, ◌++◌, length, take, drop}

-- all texts in order, and where each of them begins, the last first

abbrev pub stacked_text : List (List ℕ) → List ℕ
stacked_text [] = []
stacked_text (text ∷ stack) = stacked_text stack ++ text

abbrev pub starts_of : List (List ℕ) → List ℕ
starts_of [] = []
starts_of (text ∷ stack) = length (stacked_text stack) ∷ starts_of stack

abbrev pub cut_at : List ℕ → List ℕ → List (List ℕ)
cut_at [] text = []
cut_at (start ∷ starts) text = drop start text ∷ cut_at starts (take start text)

-- what the array and the starts keep
pub record IsCut (text starts : List ℕ) : Type 0 where
  pub whole : stacked_text (cut_at starts text) ≡ text
  pub places : starts_of (cut_at starts text) ≡ starts

-- changes of the last text, or of the last two

abbrev pub with_front : ℕ → List (List ℕ) → List (List ℕ)
with_front b [] = []
with_front b (text ∷ stack) = (b ∷ text) ∷ stack

abbrev pub with_end : List ℕ → List (List ℕ) → List (List ℕ)
with_end bytes [] = []
with_end bytes (text ∷ stack) = (text ++ bytes) ∷ stack

abbrev pub with_joint : ℕ → List (List ℕ) → List (List ℕ)
with_joint b [] = []
with_joint b (right ∷ []) = right ∷ []
with_joint b (right ∷ left ∷ stack) = (left ++ b ∷ right) ∷ stack
