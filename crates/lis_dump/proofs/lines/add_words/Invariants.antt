use Rattle.std.proofs.Common.{◌≡◌, ℕ, List, ◌+◌, ◌*◌, ◌≤◌, ◌∷◌, ◌++◌, length, take}
use Rattle.std.specs.List.{flat_map}
use Rattle.lis_dump.proofs.lines.add_words.Given as goal

-- those so far were added
abbrev pub invariant-loop-word : goal.invariant-loop-word
invariant-loop-word l =
    (l.line.items ≡ l.fn.line.items ++ flat_map (λ (word : List ℕ). l.byte ∷ word) (take l.word-index l.words)) × (length l.line.items ≤ length l.fn.line.items + 61 * l.word-index)
