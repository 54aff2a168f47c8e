use Rattle.std.proofs.Common.{◌≡◌, ◌++◌, filter, take}
use Rattle.std.specs.List.{flat_map}
use Rattle.lis_model.specs.Table.{Entry}
use Rattle.lis_model.specs.Listing.{is_local}
use Rattle.lis_model.specs.Replies.{body_line}
use Rattle.lis_table.proofs.listing.push_locals.Given as goal

abbrev pub invariant-loop-file : goal.invariant-loop-file
invariant-loop-file l =
    l.reply.items ≡ l.fn.reply.items ++ flat_map (λ (file : Entry). body_line 102 file.name) (filter (is_local l.files) (take l.file-index l.files))
