-- The words that are right at some point of a source, by what follows it.
use Rattle.std.specs.Prelude.{ℕ, List}
use Rattle.lis_transducers.specs.Bytes.{front, is_name_byte}
use Rattle.lis_transducers.specs.Joined.{joined}
use Rattle.lis_transducers.specs.Pieces.{Piece}
use Rattle.lis_transducers.specs.Entries.{tokens}
use Rattle.lis_transducers.specs.Source.{words_at}
use Rattle.lis_csource.specs.Reading.{right_words, noted_words}
use Rattle.lis_transducers.specs.declared.piece.Kind.{Kind}
use Rattle.lis_csource.specs.declared.source.Reading.{Reading}

-- the words that are right, if these tokens follow
abbrev pub right_words_of : Reading → List (List ℕ) → List Kind → List (List ℕ)
right_words_of s out kinds =
    right_words s.stage s.parens (front is_name_byte (joined s.name.now)) s.early out kinds

-- the words in the end, if these entries follow
abbrev pub words_to_come : Reading → List (List ℕ) → List Piece → List (List ℕ)
words_to_come s out es = noted_words (right_words_of s out (tokens es)) (words_at s.braces s.parens es)
