use Rattle.std.proofs.Common.{◌≡◌, drop}
use Rattle.lis_model.specs.Changes.{file_of}
use Rattle.lis_plain.proofs.file.file_of.Given as goal

abbrev pub invariant-loop-file : goal.invariant-loop-file
invariant-loop-file l = file_of (drop l.file-index l.files) l.name ≡ file_of l.files l.name
