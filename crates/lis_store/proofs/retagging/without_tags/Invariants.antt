use Rattle.lis_store.proofs.Common.{◌≡◌, not, filter, take, list_any, has_word}
use Rattle.lis_store.specs.Assigning.{node_tags}
use Rattle.lis_store.proofs.retagging.without_tags.Given as goal

-- those of the words so far
abbrev pub invariant-loop-word : goal.invariant-loop-word
invariant-loop-word l = l.kept.items ≡ filter (λ word. not (list_any (λ node. has_word (node_tags node) word) l.nodes)) (take l.word-index l.words)
