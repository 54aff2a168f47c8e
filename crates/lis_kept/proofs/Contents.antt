-- The bytes and the blocks of a file, and what stays when other blocks change.
use Rattle.lis_kept.proofs.Common.{rules, ◌≡◌, ℕ, ◌+◌, ◌≤◌, true, List, length, eqb-true, Among, among_from_any, among_right, slot_count, Dict, FileRecord, slot_blocks, Limits, data_start, IsTrue, ◌⊎◌, ◌*◌, ◌/◌, ◌==◌, ◌||◌, ◌<◌, Bool, false, cond, refl, ap, ◌∙◌, are_in_range}
use Rattle.std.proofs.lemmas.Bool.{leb-true, leb-false, ltb-true, ltb-false, ne_eqb}
use Rattle.lis_content.proofs.Indexes.{large_blocks, small_blocks, small_size, small_slot}
use Rattle.lis_content.proofs.Files.{AreSame, same_file as same_in_content}
use Rattle.lis_fields.proofs.Parts.{few_blocks}
use Rattle.lis_model.specs.State.{file_limit, blocks_needed}
use Rattle.lis_kept.specs.Sound.{is_sound_record}
use Rattle.lis_kept.specs.Telling.{bytes_told, blocks_told, HasIndex}
use Rattle.lis_kept.proofs.Dropped.{record_in_form}
use Rattle.std.proofs.Common.{arith, nat_le, nat_lt, min}
use Rattle.lis_content.specs.Large.{is_large}

-- ---- how many numbers a slot has
-- as many as the size requires
pub slot_blocks_counted : (limits : Limits) (size : ℕ) → IsTrue (are_in_range limits) → size ≤ file_limit limits → slot_blocks limits.version size ≡ slot_count size
slot_blocks_counted limits size range few = by (limits.version == 1) (nat_le n 16) (nat_lt 16 n) refl refl few
  where
    n : ℕ
    n = blocks_needed size

    rest : ℕ
    rest = cond (limits.version == 2) 1048576 (min 67108864 (4096 * limits.blocks))

    -- a large content has some index block
    some : (k : ℕ) → 0 < k → cond (k == 0) n k ≡ k
    some k lt = ap (λ b. cond b n k) (ne_eqb k 0 (λ e. omega (arith, e, lt)))

    by : (one small large : Bool) → nat_le n 16 ≡ small → nat_lt 16 n ≡ large → size ≤ cond one 65536 rest
        → cond (cond (one || small) 0 ((n + 1023) / 1024) == 0) n (cond (one || small) 0 ((n + 1023) / 1024)) ≡ cond large (cond small 0 ((n + 1023) / 1024)) n
    by true small true e f le = absurd (omega (arith, le, ltb-true 16 n f))
    by true small false e f le = refl
    by false true true e f le = absurd (omega (arith, leb-true n 16 e, ltb-true 16 n f))
    by false true false e f le = refl
    by false false true e f le = some ((n + 1023) / 1024) (omega (arith, ltb-true 16 n f))
    by false false false e f le = absurd (omega (arith, leb-false n 16 e, ltb-false 16 n f))

pub slot_counted : (limits : Limits) (dict : Dict) (blocks : ℕ) (rec : FileRecord) → IsTrue (are_in_range limits) → is_sound_record limits dict blocks rec ≡ true
    → length rec.blocks ≡ slot_count rec.size
slot_counted limits dict blocks rec range sound =
    let form = record_in_form limits dict blocks rec sound in
    few_blocks limits.version rec.size rec.blocks form.blocks ∙ slot_blocks_counted limits rec.size range form.small

-- ---- a file when other blocks change
-- A file stays if its blocks hold the same. Its index blocks are among them.
pub same_file : (limits : Limits) (rec : FileRecord) (at there : ℕ → List ℕ) → length rec.blocks ≡ slot_count rec.size
    → ((b : ℕ) → Among (blocks_told limits at rec) b → there (data_start limits + b) ≡ at (data_start limits + b))
    → (bytes_told limits there rec ≡ bytes_told limits at rec) × (blocks_told limits there rec ≡ blocks_told limits at rec) × (HasIndex limits at rec → HasIndex limits there rec)
same_file limits rec at there counted same =
    let file = same_in_content limits.version (data_start limits) rec.blocks rec.size at there counted at_homes in
    (file.reads, file.blocks, file.index)
  where
    at_homes : AreSame (data_start limits) (blocks_told limits at rec) at there
    at_homes n has = search (rules, among_from_any, eqb-true)

-- ---- the blocks that a slot numbers
pub slot_blocks_told : (limits : Limits) (at : ℕ → List ℕ) (rec : FileRecord) (b : ℕ) → Among rec.blocks b → Among (blocks_told limits at rec) b
slot_blocks_told limits at rec b of_slot = search (rules, large_blocks, among_right, small_blocks)
