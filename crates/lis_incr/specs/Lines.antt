-- The lines of a listing.
use Rattle.std.specs.Prelude.{ℕ, List, ◌++◌, map, filter, drop}
use Rattle.lis_grammar.specs.Formula.{Formula}
use Rattle.lis_bits.specs.Rows.{Rows, get}
use Rattle.lis_model.specs.Table.{Table, Entry}
use Rattle.lis_model.specs.Listing.{increments, locals}
use Rattle.lis_eval.specs.View.{Placed, Seen}
use Rattle.lis_incr.specs.declared.listing.Line.{Line}
use Rattle.lis_incr.specs.declared.listing.Line.TheVariants.{Prop, File}

abbrev pub lines_of : List (List ℕ) → List (List ℕ) → List Line
lines_of words names = map (λ word. Prop word) words ++ map (λ name. File name) names

-- the increments in byte order, and then the locals in the order of their names
abbrev pub listing : Table → List Formula → List Line
listing t place = lines_of (increments t place) (map (λ (e : Entry). e.name) (locals t place))

-- the words from an index on whose numbers are in the row
abbrev pub words_from : Seen → Rows → ℕ → List (List ℕ)
words_from v marks place = map (λ w. w.0) (filter (λ w. get marks 0 w.1) (drop place v.words))

-- the names of the files from an index on whose slots are in the row
abbrev pub names_from : Seen → Rows → ℕ → List (List ℕ)
names_from v marks place = map (λ (f : Placed). f.entry.name) (filter (λ (f : Placed). get marks 0 f.slot) (drop place v.files))

abbrev pub lines_from : Seen → Rows → Rows → ℕ → ℕ → List Line
lines_from v increments locals word file = lines_of (words_from v increments word) (names_from v locals file)
