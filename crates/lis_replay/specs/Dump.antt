-- The dump of a state: the session that makes it again, as text.
use Rattle.std.specs.Prelude.{ℕ, List, [], ◌∷◌, ◌++◌, length, take, drop, codes, decimal}
use Rattle.std.specs.List.{flat_map}
use Rattle.lis_model.specs.State.{State, File}
use Rattle.lis_model.specs.Replies.{line}

-- texts with a byte between each and the next
abbrev pub joined_with : ℕ → List (List ℕ) → List ℕ
joined_with byte [] = []
joined_with byte (text ∷ texts) = text ++ flat_map (λ other. byte ∷ other) texts

-- a line of words, with a blank between each and the next
abbrev pub words_line : List (List ℕ) → List ℕ
words_line words = line (joined_with 32 words)

-- the words of a file that its `add` gives it, and the others
abbrev pub first_words : File → List (List ℕ)
first_words file = take 8 file.assigned

abbrev pub other_words : File → List (List ℕ)
other_words file = drop 8 file.assigned

abbrev pub mkdir_line : List ℕ → List ℕ
mkdir_line word = words_line (codes "mkdir" ∷ word ∷ [])

-- the file's name, how many bytes it has, and its first eight words; and then its bytes and a line feed
abbrev pub add_lines : File → List ℕ
add_lines file = words_line (codes "add" ∷ file.name ∷ decimal (length file.bytes) ∷ first_words file) ++ line file.bytes

-- the file's name, and the words as a path; no line if there are none
abbrev pub mv_lines : List ℕ → List (List ℕ) → List ℕ
mv_lines name [] = []
mv_lines name (word ∷ words) = words_line (codes "mv" ∷ name ∷ joined_with 47 (word ∷ words) ∷ [])

abbrev pub file_lines : File → List ℕ
file_lines file = add_lines file ++ mv_lines file.name (other_words file)

abbrev pub axiom_line : List ℕ × List ℕ → List ℕ
axiom_line pair = words_line (codes "axiom" ∷ pair.0 ∷ pair.1 ∷ [])

-- All lists are in order in a well-formed state: words and files by their bytes and names, axioms by their left and then by their right
-- sides.
unfoldable pub dump_of : State → List ℕ
dump_of s = flat_map mkdir_line s.declared ++ flat_map file_lines s.files ++ flat_map axiom_line s.axioms
