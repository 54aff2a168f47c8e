-- The words of a place, by which a new file is described.
use Rattle.std.specs.Prelude.{ℕ, Bool, true, false, not, ◌&&◌, Option, Some, None, option_map, List, [], ◌∷◌, ◌++◌}
use Rattle.lis_words.specs.Words.{is_head, is_built_in}
use Rattle.lis_grammar.specs.Formula.{Formula}
use Rattle.lis_grammar.specs.Formula.Formula.{Has, SizeAtLeast, SizeBelow, Negation, Both, Either}
use Rattle.lis_model.specs.Sets.{set_of}

abbrev pub is_root : List Formula → Bool
is_root [] = true
is_root (step ∷ steps) = false

abbrev pub both_lists : Option (List (List ℕ)) → Option (List (List ℕ)) → Option (List (List ℕ))
both_lists None more = None
both_lists (Some words) None = None
both_lists (Some words) (Some more) = Some (words ++ more)

-- the words of a tree that has only conjunctions and words
abbrev pub conjuncts : Formula → Option (List (List ℕ))
conjuncts (Has word) = Some (word ∷ [])
conjuncts (SizeAtLeast n) = None
conjuncts (SizeBelow n) = None
conjuncts (Negation f) = None
conjuncts (Both f g) = both_lists (conjuncts f) (conjuncts g)
conjuncts (Either f g) = None

abbrev pub all_conjuncts : List Formula → Option (List (List ℕ))
all_conjuncts [] = Some []
all_conjuncts (step ∷ steps) = both_lists (conjuncts step) (all_conjuncts steps)

-- the set of the place's words, if its formula has only conjunctions and words
abbrev pub place_words : List Formula → Option (List (List ℕ))
place_words place = option_map set_of (all_conjuncts place)

-- no head, and not built in
abbrev pub is_tag : List ℕ → Bool
is_tag word = not (is_head word) && not (is_built_in word)
