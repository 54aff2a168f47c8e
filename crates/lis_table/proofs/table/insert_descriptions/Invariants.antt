use Rattle.std.proofs.Common.{◌≡◌, take}
use Rattle.std.specs.List.{flat_map}
use Rattle.lis_model.specs.Sets.{with_words}
use Rattle.lis_model.specs.Table.{Entry}
use Rattle.lis_table.proofs.table.insert_descriptions.Given as goal

abbrev pub invariant-loop-file : goal.invariant-loop-file
invariant-loop-file l = l.known.items ≡ with_words l.fn.known.items (flat_map (λ (e : Entry). e.words) (take l.file-index l.files))
