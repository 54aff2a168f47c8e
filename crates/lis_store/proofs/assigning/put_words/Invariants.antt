use Rattle.lis_store.proofs.Common.{ℕ, [], ◌∷◌, true, take, List, flat_map}
use Rattle.lis_store.specs.Assigning.{Takes}
use Rattle.lis_store.proofs.assigning.put_words.Given as goal

-- the words so far are in the set
abbrev pub invariant-loop-word : goal.invariant-loop-word
invariant-loop-word l = Takes (flat_map (λ (w : List ℕ). w ∷ []) (take l.word-index l.more)) l.initial.words.items l.words.items true
