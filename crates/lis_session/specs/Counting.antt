-- The counts, as they are shown.
use Rattle.std.specs.Prelude.{ℕ, List, ◌++◌, codes}
use Rattle.lis_model.specs.Replies.{number_line, ok_line}
use Rattle.lis_store.specs.declared.counting.Counts.{Counts}

-- the counts, a line each, and `ok`
abbrev pub counts_reply : Counts → List ℕ
counts_reply c =
    number_line (codes "s files") c.files
    ++ (number_line (codes "s known") c.known ++ (number_line (codes "s axioms") c.axioms ++ (number_line (codes "s free") c.free ++ ok_line)))
