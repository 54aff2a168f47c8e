-- The edge from a valued word to its head.
use Rattle.std.specs.Prelude.{ℕ, ◌==◌, Bool, false, if◌then◌else◌, Option, Some, None, List}
use Rattle.lis_dict.specs.Dict.{Dict, number_of}
use Rattle.lis_taxonomy.specs.Taxonomy.{Taxonomy, with_edge, without_edge}
use Rattle.lis_words.specs.Words.{is_valued, head_bytes}

-- it is the number, if there is one
abbrev pub is_at : Option ℕ → ℕ → Bool
is_at None n = false
is_at (Some m) n = m == n

-- the number of the head of a valued word
abbrev pub head_number : Dict → List ℕ → Option ℕ
head_number dict word = if is_valued word then number_of dict (head_bytes word) else None

-- with the edge to a number, if there is one
abbrev pub with_edge_to : Taxonomy → ℕ → Option ℕ → Taxonomy
with_edge_to t number None = t
with_edge_to t number (Some head) = with_edge t number head

-- and without it
abbrev pub without_edge_to : Taxonomy → ℕ → Option ℕ → Taxonomy
without_edge_to t number None = t
without_edge_to t number (Some head) = without_edge t number head
