use Rattle.std.proofs.Common.{◌≡◌, ◌-◌, map, sum, length, drop}
use Rattle.lis_model.specs.State.{File, blocks_taken}
use Rattle.lis_plain.proofs.content.free_blocks.Given as goal

abbrev pub invariant-loop-file : goal.invariant-loop-file
invariant-loop-file l =
    l.free - sum (map (λ (file : File). blocks_taken l.version (length file.bytes)) (drop l.file-index l.files))
    ≡ l.blocks - sum (map (λ (file : File). blocks_taken l.version (length file.bytes)) l.files)
