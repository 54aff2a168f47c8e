-- The test by which nodes are those of a place. It looks at each node once.
use Rattle.std.specs.Prelude.{ℕ, ◌+◌, ◌-◌, ◌^◌, nat_lt, nat_le, Bool, false, ◌&&◌, if◌then◌else◌, Option, Some, None, option_and_then, List, [], ◌∷◌, length}
use Rattle.std.specs.Fmt.{decimal}
use Rattle.lis_limits.specs.declared.TheConstants.{MAX_NODES, MAX_FORMULA}
use Rattle.lis_words.specs.Words.{is_word}
use Rattle.lis_place.specs.declared.node.Node.{Node}
use Rattle.lis_place.specs.declared.node.Node.TheVariants.{Word, AtLeast, Below, Not, And, Or}
use Rattle.lis_place.specs.declared.limits.Tally.{Tally}

abbrev pub with_operand : Tally → ℕ → Option Tally
with_operand tally bytes = Some (record { trees = tally.trees + 1; bytes = tally.bytes + bytes })

abbrev pub with_test : Tally → ℕ → ℕ → Option Tally
with_test tally sign n = if nat_lt n (10 ^ 12) then with_operand tally (sign + length (decimal n)) else None

abbrev pub with_mark : Tally → Option Tally
with_mark tally = if nat_le 1 tally.trees then Some (record { trees = tally.trees; bytes = tally.bytes + 1 }) else None

abbrev pub with_joint : Tally → Option Tally
with_joint tally = if nat_le 2 tally.trees then Some (record { trees = tally.trees - 1; bytes = tally.bytes + 3 }) else None

-- None if an operand is missing, or a number is too large
abbrev pub tally_with : Tally → Node → Option Tally
tally_with tally (Word word) = if is_word word then with_operand tally (length word) else None
tally_with tally (AtLeast n) = with_test tally 6 n
tally_with tally (Below n) = with_test tally 5 n
tally_with tally Not = with_mark tally
tally_with tally And = with_joint tally
tally_with tally Or = with_joint tally

abbrev pub tally_after : Tally → List Node → Option Tally
tally_after tally [] = Some tally
tally_after tally (node ∷ nodes) = option_and_then (λ next. tally_after next nodes) (tally_with tally node)

abbrev pub no_tally : Tally
no_tally = record { trees = 0; bytes = 0 }

-- a slash is between two steps: it is a node of the place's formula and a byte of its text
abbrev pub is_within : ℕ → Option Tally → Bool
is_within count None = false
is_within count (Some tally) =
    nat_le (count + (tally.trees - 1)) MAX_NODES && nat_le (tally.bytes + (tally.trees - 1)) MAX_FORMULA

abbrev pub are_place : List Node → Bool
are_place nodes = if nat_le (length nodes) MAX_NODES then is_within (length nodes) (tally_after no_tally nodes) else false
