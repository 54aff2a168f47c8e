-- Tables from declared words, axioms and the entries of files.
use Rattle.std.specs.Prelude.{ℕ, List, ◌++◌, map}
use Rattle.std.specs.List.{flat_map}
use Rattle.lis_model.specs.declared.limits.Limits.{Limits}
use Rattle.lis_model.specs.Sets.{with_words}
use Rattle.lis_model.specs.State.{heads, up}
use Rattle.lis_model.specs.Table.{Table, Entry}

-- the declared words, the left sides of axioms and their heads, and all descriptions
abbrev pub known_of : List (List ℕ) → List (List ℕ × List ℕ) → List Entry → List (List ℕ)
known_of declared axioms files =
    with_words declared ((map (λ pair. pair.0) axioms ++ flat_map (λ pair. heads pair.0) axioms) ++ flat_map (λ (e : Entry). e.words) files)

-- the table of these known words and files
abbrev pub table_with : Limits → List (List ℕ) → List (List ℕ × List ℕ) → List (List ℕ) → List Entry → Table
table_with limits declared axioms known files =
    record { limits = limits; known = known; files = files; entailed = map (λ p. (p, up declared axioms p)) known }

abbrev pub table_of : Limits → List (List ℕ) → List (List ℕ × List ℕ) → List Entry → Table
table_of limits declared axioms files = table_with limits declared axioms (known_of declared axioms files) files
