-- The blocks of a file: how many there are, and which of them have its content.
use Rattle.lis_store.proofs.Common.{sym, arith, common_steps, ◌≡◌, ◌∙◌, ℕ, List, length, cond-false, Among, among_left, content_blocks, Filed, FileRecord, Limits, data_start, blocks_taken, Metadata, AreSound, blocks_told}
use Rattle.lis_content.proofs.Files.{length-file_blocks}
use Rattle.lis_content.proofs.Indexes.{length-content_blocks, large_numbers, large_blocks, small_numbers, small_blocks}
use Rattle.lis_model.specs.State.{blocks_needed}
use Rattle.lis_kept.proofs.BlocksTaken.{taken_counted}
use Rattle.lis_store.proofs.Elsewhere.{numbers_counted}
use Rattle.lis_store.proofs.Spelled.{sound_parts}

-- the blocks that have the content of a file
abbrev pub content_told : Limits → (ℕ → List ℕ) → FileRecord → List ℕ
content_told limits at rec = content_blocks limits.version (data_start limits) rec.blocks rec.size at

pub content_among : (limits : Limits) (at : ℕ → List ℕ) (rec : FileRecord) (b : ℕ) → Among (content_told limits at rec) b → Among (blocks_told limits at rec) b
content_among limits at rec b of = grind (arith, common_steps, large_blocks, among_left, large_numbers, small_numbers, small_blocks)

module _ (k : Metadata) (sound : AreSound k) (f : Filed) (m : Among k.catalog.entries f) (at : ℕ → List ℕ) where
  pub content_counted : length (content_told k.limits at f.rec) ≡ blocks_needed f.rec.size
  content_counted = length-content_blocks k.limits.version (data_start k.limits) f.rec.blocks f.rec.size at (numbers_counted k sound f m)

  -- a file takes as many blocks as it has, its index blocks among them
  pub told_counted : length (blocks_told k.limits at f.rec) ≡ blocks_taken k.limits.version f.rec.size
  told_counted =
      let short = (sound_parts k sound f m).short in
      length-file_blocks k.limits.version (data_start k.limits) f.rec.blocks f.rec.size at (numbers_counted k sound f m)
      ∙ sym (taken_counted k.limits f.rec.size short)
