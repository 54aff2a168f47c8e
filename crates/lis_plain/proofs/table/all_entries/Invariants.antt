use Rattle.std.proofs.Common.{◌≡◌, map, take}
use Rattle.lis_model.specs.Table.{entry_of}
use Rattle.lis_plain.proofs.table.all_entries.Given as goal

abbrev pub invariant-loop-file : goal.invariant-loop-file
invariant-loop-file l = l.entries.items ≡ map (entry_of l.state.declared l.state.axioms) (take l.file-index l.state.files)
