-- The lines of a summary.
use Rattle.std.specs.Prelude.{ℕ, List, ◌++◌, codes}
use Rattle.lis_model.specs.Replies.{number_line}

-- the items that had a reply, those of them that were refused, what the last state has, and the words and files that were listed
abbrev pub summary_text : ℕ → ℕ → ℕ → ℕ → ℕ → ℕ → List ℕ
summary_text replies refused files axioms free listed =
    number_line (codes "replies") replies
    ++ number_line (codes "refused") refused
    ++ number_line (codes "files") files
    ++ number_line (codes "axioms") axioms
    ++ number_line (codes "free") free
    ++ number_line (codes "listed") listed
