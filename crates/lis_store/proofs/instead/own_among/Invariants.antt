use Rattle.lis_store.proofs.Common.{◌≡◌, ◌≤◌, take, length, flat_map}
use Rattle.lis_store.specs.Drafts.{own_word}
use Rattle.lis_store.proofs.instead.own_among.Given as goal

-- the words of the numbers so far
abbrev pub invariant-loop-number : goal.invariant-loop-number
invariant-loop-number l = (l.words.items ≡ flat_map (own_word l.metadata) (take l.number-index l.numbers)) × (length l.words.items ≤ l.number-index)
