use Rattle.std.proofs.Common.{◌≡◌, filter, take}
use Rattle.lis_model.specs.Places.{is_tag}
use Rattle.lis_table.proofs.tags.tags_among.Given as goal

abbrev pub invariant-loop-word : goal.invariant-loop-word
invariant-loop-word l = l.tags.items ≡ filter is_tag (take l.word-index l.words)
