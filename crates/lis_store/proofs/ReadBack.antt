-- The bytes of a file, as they are read.
use Rattle.lis_store.proofs.Common.{◌≡◌, sym, ap, ◌∙◌, subst, ℕ, nat_lt, List, IsTrue, arith, content_blocks, FileRecord, Limits, data_start, image_blocks, bytes_told, blocks_told, all_among, all_from}
use Rattle.lis_content.specs.Content.{are_within}
use Rattle.lis_content.specs.Large.{file_content}
use Rattle.lis_content.proofs.Numbers.{within_if_below}
use Rattle.lis_store.specs.Contents.{AreContentsWithin}
use Rattle.lis_store.proofs.FileBlocks.{content_told, content_among}

-- if the blocks of the content are blocks of the image, what is read is what memory represents
pub read_told : (limits : Limits) (rec : FileRecord) (at : ℕ → List ℕ) (bytes : List ℕ) (blocks version base size : ℕ) (numbers : List ℕ) → blocks ≡ image_blocks limits → version ≡ limits.version → base ≡ data_start limits → size ≡ rec.size
    → numbers ≡ rec.blocks → AreContentsWithin limits at rec → (IsTrue (are_within base blocks (content_blocks version base numbers size at)) → bytes ≡ file_content version base numbers size at)
    → bytes ≡ bytes_told limits at rec
read_told limits rec at bytes blocks version base size numbers image same from sized are within read =
    let all = all_from (λ n. nat_lt n limits.blocks) (content_told limits at rec) (λ n of.
    all_among (λ m. nat_lt m limits.blocks) (blocks_told limits at rec) n within (content_among limits at rec n of)) in
    let W : ℕ → ℕ → List ℕ → ℕ → Type 0 = λ v b ns n. IsTrue (are_within b blocks (content_blocks v b ns n at)) in
    let told : W limits.version (data_start limits) rec.blocks rec.size = within_if_below (data_start limits) blocks limits.blocks (content_told limits at rec) (omega (arith, image)) all in
    let here : W version base numbers size =
    subst (λ v. W v base numbers size) (sym same)
    (subst (λ b. W limits.version b numbers size) (sym from)
    (subst (λ ns. W limits.version (data_start limits) ns size) (sym are)
    (subst (λ n. W limits.version (data_start limits) rec.blocks n) (sym sized) told))) in
    read here
    ∙ (ap (λ v. file_content v base numbers size at) same
    ∙ (ap (λ b. file_content limits.version b numbers size at) from
    ∙ (ap (λ ns. file_content limits.version (data_start limits) ns size at) are
    ∙ ap (λ n. file_content limits.version (data_start limits) rec.blocks n at) sized)))
