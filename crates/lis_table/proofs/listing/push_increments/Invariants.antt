use Rattle.std.proofs.Common.{◌≡◌, ◌++◌, filter, take}
use Rattle.std.specs.List.{flat_map}
use Rattle.lis_model.specs.Listing.{is_increment}
use Rattle.lis_model.specs.Replies.{body_line}
use Rattle.lis_table.proofs.listing.push_increments.Given as goal

abbrev pub invariant-loop-word : goal.invariant-loop-word
invariant-loop-word l =
    l.reply.items ≡ l.fn.reply.items ++ flat_map (body_line 100) (filter (is_increment l.table l.files) (take l.word-index l.table.known))
