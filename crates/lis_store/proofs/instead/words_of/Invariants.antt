use Rattle.lis_store.proofs.Common.{◌≤◌, ℕ, [], true, take, length, option_to_list, flat_map, word_of}
use Rattle.lis_store.specs.Assigning.{Takes}
use Rattle.lis_store.proofs.instead.words_of.Given as goal

-- the words of the numbers so far are in the set
abbrev pub invariant-loop-number : goal.invariant-loop-number
invariant-loop-number l =
    Takes (flat_map (λ (n : ℕ). option_to_list (word_of l.metadata.dict n)) (take l.number-index l.numbers)) [] l.words.items true × (length l.words.items ≤ l.number-index)
