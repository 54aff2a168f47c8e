-- The counts, as they are shown.
use Rattle.std.proofs.Common.{◌≡◌, ℕ, List, ◌++◌, length, codes, append_assoc}
use Rattle.lis_model.specs.Replies.{number_line, ok_line}
use Rattle.lis_model.specs.State.{State, known}
use Rattle.lis_model.specs.Step.{free_blocks, count_lines}
use Rattle.lis_store.specs.declared.counting.Counts.{Counts}
use Rattle.lis_session.specs.Counting.{counts_reply}

regrouped : (a b c d e : List ℕ) → a ++ (b ++ (c ++ (d ++ e))) ≡ (((a ++ b) ++ c) ++ d) ++ e
regrouped a b c d e = simp append_assoc

-- the lines are those of the state
pub counts_shown : (s : State) (c : Counts) → c.files ≡ length s.files → c.known ≡ length (known s) → c.axioms ≡ length s.axioms → c.free ≡ free_blocks s → counts_reply c ≡ count_lines s ++ ok_line
counts_shown s c files are_known axioms free = rw (files, are_known, axioms, free)
    (regrouped (number_line (codes "s files") (length s.files)) (number_line (codes "s known") (length (known s))) (number_line (codes "s axioms") (length s.axioms))
    (number_line (codes "s free") (free_blocks s)) ok_line)
