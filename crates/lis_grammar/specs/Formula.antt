-- A formula as a tree, and its words.
use Rattle.std.specs.Prelude.{ℕ, List, [], ◌∷◌, ◌++◌}
use Rattle.std.specs.List.{flat_map}

pub data Formula : Type 0 where
  -- the description has the word
  Has : List ℕ → Formula
  -- the file has at least, or fewer than, this many bytes
  SizeAtLeast : ℕ → Formula
  SizeBelow : ℕ → Formula
  Negation : Formula → Formula
  Both : Formula → Formula → Formula
  Either : Formula → Formula → Formula

-- the words that the formula names, in the order of its text
abbrev pub formula_words : Formula → List (List ℕ)
formula_words (Has word) = word ∷ []
formula_words (SizeAtLeast n) = []
formula_words (SizeBelow n) = []
formula_words (Negation f) = formula_words f
formula_words (Both f g) = formula_words f ++ formula_words g
formula_words (Either f g) = formula_words f ++ formula_words g

-- the words of all steps
abbrev pub steps_words : List Formula → List (List ℕ)
steps_words steps = flat_map formula_words steps
