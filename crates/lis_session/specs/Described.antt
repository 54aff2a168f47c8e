-- The words that a file has, by what a store keeps.
use Rattle.std.specs.Prelude.{ℕ, List, map, filter}
use Rattle.lis_ext.specs.Ext.{has}
use Rattle.lis_kept.specs.Metadata.{Metadata}

-- the words among these, with their numbers, that the file in the slot has
abbrev pub words_had : Metadata → ℕ → List (List ℕ × ℕ) → List (List ℕ)
words_had k slot words = map (λ w. w.0) (filter (λ w. has k.ext w.1 slot) words)
