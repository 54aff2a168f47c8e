-- Words and tests as nodes.
use Rattle.std.specs.Prelude.{ℕ, ◌==◌, Bool, ◌||◌, if◌then◌else◌, Option, Some, None, option_map, List, length, codes}
use Rattle.lis_words.specs.Words.{is_word, is_count, count_of}
use Rattle.lis_grammar.specs.Machine.{after_sign}
use Rattle.lis_place.specs.declared.node.Node.{Node}
use Rattle.lis_place.specs.declared.node.Node.TheVariants.{Word, AtLeast, Below}
use Rattle.std.specs.Option.{option_or}

abbrev pub is_digits_front : List ℕ → Bool
is_digits_front digits = (length digits == 0) || is_count digits

abbrev pub counted_number : Option (List ℕ) → Option ℕ
counted_number None = None
counted_number (Some digits) = if is_count digits then Some (count_of digits) else None

abbrev pub test_node : List ℕ → Option Node
test_node text =
    option_or (option_map AtLeast (counted_number (after_sign (codes "size>=") text))) (option_map Below (counted_number (after_sign (codes "size<") text)))

abbrev pub operand_node : List ℕ → Option Node
operand_node text = if is_word text then Some (Word text) else test_node text
