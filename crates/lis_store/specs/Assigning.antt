-- The words that are assigned to a new file: those of its place, and those that are named.
use Rattle.std.specs.Prelude.{◌≡◌, ℕ, nat_le, Bool, true, false, Option, Some, None, List, length, filter}
use Rattle.lis_limits.specs.declared.TheConstants.{MAX_ASSIGNED}
use Rattle.lis_words.specs.Words.{same_word}
use Rattle.lis_place.specs.declared.node.Node.{Node}
use Rattle.lis_place.specs.declared.node.Node.TheVariants.{Word, AtLeast, Below, Not, And, Or}
use Rattle.lis_place.specs.Nodes.{node_words}
use Rattle.lis_model.specs.Sets.{with_words}
use Rattle.lis_model.specs.Places.{is_tag}

-- a word, or a conjunction
abbrev pub is_conjunct : Node → Bool
is_conjunct (Word word) = true
is_conjunct (AtLeast n) = false
is_conjunct (Below n) = false
is_conjunct Not = false
is_conjunct And = true
is_conjunct Or = false

-- the word of a node, if it is a tag
abbrev pub node_tags : Node → List (List ℕ)
node_tags node = filter is_tag (node_words node)

-- there is a word, and it is this one
abbrev pub is_held : Option (List ℕ) → List ℕ → Bool
is_held None word = false
is_held (Some held) word = same_word held word

-- More words are put into a set of at most 16. `fits` says whether there is room for all of them.
pub record Takes (more old new : List (List ℕ)) (fits : Bool) : Type 0 where
  pub room : fits ≡ nat_le (length (with_words old more)) MAX_ASSIGNED
  pub words : fits ≡ true → new ≡ with_words old more
