use Rattle.std.proofs.Common.{◌≡◌, filter, take}
use Rattle.lis_model.specs.Listing.{holds_all}
use Rattle.lis_table.proofs.truth.extension.Given as goal

abbrev pub invariant-loop-file : goal.invariant-loop-file
invariant-loop-file l = l.kept.items ≡ filter (holds_all l.place) (take l.file-index l.files)
