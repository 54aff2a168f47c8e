use Rattle.std.proofs.Common.{◌≡◌, ◌++◌, take}
use Rattle.std.specs.List.{flat_map}
use Rattle.lis_model.specs.Replies.{body_line}
use Rattle.lis_table.proofs.listing.push_words.Given as goal

abbrev pub invariant-loop-word : goal.invariant-loop-word
invariant-loop-word l = l.reply.items ≡ l.fn.reply.items ++ flat_map (body_line l.letter) (take l.word-index l.words)
