-- Blocks whose slots are spelled by what memory keeps.
use Rattle.std.proofs.Common.{arith, replicate}
use Rattle.lis_kept.proofs.Common.{rules, ◌≡◌, ap, ap₂, ◌∙◌, ℕ, ◌+◌, ◌*◌, ◌<◌, ◌≤◌, List, ◌++◌, length, take, drop, ◌/◌, false, refl, ◌-◌, ◌%◌, IsTrue, part, Ext, has, AxiomSlot, prop_bytes, axiom_bytes, file_bytes, ◌==◌, true, are_in_range, bitmap_start, data_start}
use Rattle.lis_ports.proofs.Parts.{length-part, part-put, part-put_other}
use Rattle.lis_slots.proofs.Putting.{put_between, places_apart}
use Rattle.lis_bits.specs.Bytes.{bits_bytes}
use Rattle.lis_bits.proofs.Numbers.{bytes_none, bytes_same}
use Rattle.lis_kept.specs.Rows.{row_bytes}
use Rattle.lis_ext.specs.Ext.{set_of}
use Rattle.lis_fields.specs.Layouts.{set_bytes}
use Rattle.std.proofs.Math.Nat.{mod-lt}
use Rattle.lis_blockmap.specs.Bitmap.{bitmap_bytes}
use Rattle.lis_model.specs.Image.{properties_start, axioms_start, files_start, descriptions_start}
use Rattle.lis_kept.specs.Metadata.{Metadata, property_at, axiom_at, record_at}
use Rattle.lis_kept.specs.Areas.Area.{Properties, Axioms, Files, Rows, Sets, Bitmap}
use Rattle.lis_kept.specs.Inside.{IsBlock}
use Rattle.lis_kept.proofs.InArea.{one_area, slot_placed, some_rows}

-- the slots so far, and one more
pub one_slot_more : (width k at n : ℕ) (spelled : ℕ → List ℕ) (block bytes : List ℕ) → at ≡ width * k → n ≡ width → width * k + width ≤ length block
    → length bytes ≡ length (take n (drop at block)) → bytes ≡ spelled k → ((j : ℕ) → j < k → part (width * j) width block ≡ spelled j)
    → (j : ℕ) → j < k + 1 → part (width * j) width (take at block ++ (bytes ++ drop n (drop at block))) ≡ spelled j
one_slot_more width k at n spelled block bytes place len within covers is so_far =
    search (rules, put_between, length-part, part-put, part-put_other, places_apart)

-- ---- the bytes of rows
-- the row of a number that no file has
pub row_bytes_none : (e : Ext) (prop n : ℕ) → 8 * n ≡ length e.sets → ((file : ℕ) → has e prop file ≡ false) → replicate n 0 ≡ row_bytes e prop
row_bytes_none e prop n wide none =
    let count : n ≡ length e.sets / 8 = omega (arith, wide) in
    bytes_none n (has e prop) none ∙ ap (λ m. bits_bytes m (has e prop)) count

-- a row depends only on which files have its number
pub row_bytes_same : (d e : Ext) (prop : ℕ) → length e.sets ≡ length d.sets → ((file : ℕ) → has e prop file ≡ has d prop file) → row_bytes e prop ≡ row_bytes d prop
row_bytes_same d e prop count same =
    ap (λ n. bits_bytes (n / 8) (has e prop)) count ∙ bytes_same (length d.sets / 8) (has e prop) (has d prop) (λ file lt. same file)

-- ---- blocks whose slots are spelled by what memory keeps
module _ (k : Metadata) (range : IsTrue (are_in_range k.limits)) (n : ℕ) (block : List ℕ) where
  pub properties_block : (start : ℕ) → start ≡ properties_start k.limits → properties_start k.limits ≤ n → n < axioms_start k.limits
      → ((j : ℕ) → j < 64 → part (64 * j) 64 block ≡ prop_bytes (property_at k.dict k.declared (64 * (n - start) + j))) → IsBlock k n block
  properties_block start at from to is = one_area k range Properties _ n block from to (λ m lt here.
      is (m % 64) (omega arith) ∙ ap (λ j. prop_bytes (property_at k.dict k.declared j)) (omega (arith, here, at)))

  pub axioms_block : (start : ℕ) (axioms : List AxiomSlot) → start ≡ axioms_start k.limits → axioms ≡ k.axioms → axioms_start k.limits ≤ n → n < files_start k.limits
      → ((j : ℕ) → j < 512 → part (8 * j) 8 block ≡ axiom_bytes (axiom_at axioms (512 * (n - start) + j))) → IsBlock k n block
  axioms_block start axioms at are from to is = one_area k range Axioms _ n block from to (λ m lt here.
      is (m % 512) (omega arith) ∙ ap₂ (λ xs j. axiom_bytes (axiom_at xs j)) are (omega (arith, here, at)))

  pub files_block : (start : ℕ) → start ≡ files_start k.limits → files_start k.limits ≤ n → n < descriptions_start k.limits
      → ((j : ℕ) → j < 16 → part (256 * j) 256 block ≡ file_bytes k.limits.version (record_at k.catalog (16 * (n - start) + j))) → IsBlock k n block
  files_block start at from to is = one_area k range Files _ n block from to (λ m lt here.
      is (m % 16) (omega arith) ∙ ap (λ j. file_bytes k.limits.version (record_at k.catalog j)) (omega (arith, here, at)))

  pub rows_block : (k.limits.version == 3) ≡ false → (start : ℕ) → start ≡ descriptions_start k.limits → descriptions_start k.limits ≤ n → n < bitmap_start k.limits
      → ((j : ℕ) → j < 4096 / (k.limits.files / 8) → part (k.limits.files / 8 * j) (k.limits.files / 8) block ≡ row_bytes k.ext (4096 / (k.limits.files / 8) * (n - start) + j)) → IsBlock k n block
  rows_block early start at from to is = one_area k range Rows early n block from to (λ m lt here.
      let p = 4096 / (k.limits.files / 8) in
      is (m % p) (mod-lt m (some_rows k.limits range early)) ∙ ap (row_bytes k.ext) (ap (λ s. p * (n - s) + m % p) at ∙ slot_placed p (descriptions_start k.limits) m n p (some_rows k.limits range early) refl here))

  pub sets_block : (k.limits.version == 3) ≡ true → (start : ℕ) → start ≡ descriptions_start k.limits → descriptions_start k.limits ≤ n → n < bitmap_start k.limits
      → ((j : ℕ) → j < 8 → part (512 * j) 512 block ≡ set_bytes (set_of k.ext (8 * (n - start) + j))) → IsBlock k n block
  sets_block third start at from to is = one_area k range Sets third n block from to (λ m lt here.
      is (m % 8) (omega arith) ∙ ap (λ j. set_bytes (set_of k.ext j)) (omega (arith, here, at)))

  pub bitmap_block : (start : ℕ) → start ≡ bitmap_start k.limits → bitmap_start k.limits ≤ n → n < data_start k.limits → block ≡ bitmap_bytes (n - start) k.taken → IsBlock k n block
  bitmap_block start at from to is = one_area k range Bitmap _ n block from to (λ m lt here. is ∙ ap (λ i. bitmap_bytes i k.taken) (omega (arith, at, here)))
