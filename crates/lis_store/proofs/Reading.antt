-- One block of a file's bytes.
use Rattle.std.proofs.Common.{rules}
use Rattle.lis_store.proofs.Common.{◌≡◌, refl, sym, ap, ◌∙◌, subst, inl, inr, ℕ, zero, suc, ◌+◌, ◌-◌, ◌*◌, ◌/◌, ◌<◌, ◌≤◌, List, [], ◌∷◌, ◌++◌, length, get_or, take, drop, replicate, slice_index, nat_lt, true, Some, IsSomeAnd, same_Some, arith, flat_map, cases_lt, lt-ltb, take_all, length-take-le, Meaning, part, Fits, looked, slot_count, content_blocks, Among, FileRecord, Filed, slot_of, rec_at, data_start, State, File, bytes_told, filed_at_slot, HomeBlock, file_of}
use Rattle.std.proofs.lemmas.Bool.{cond-true}
use Rattle.std.proofs.lemmas.List.{take_at, take-take, take-append-le, drop-drop, drop_at, drop-take}
use Rattle.lis_journal.specs.Images.{held_in}
use Rattle.lis_journal.proofs.Fitting.{fits_held}
use Rattle.lis_content.specs.Content.{are_within}
use Rattle.lis_journal.specs.Record.{homes_start}
use Rattle.lis_content.specs.Large.{HasNumber, MayHaveNumber, index_home, block_within}
use Rattle.lis_content.proofs.Reading.{may_have_next}
use Rattle.lis_model.specs.State.{blocks_needed}
use Rattle.lis_kept.proofs.BlocksTaken.{slot_within}
use Rattle.lis_store.specs.Stored.{Stored, IsSound, StoreFits, IsIndex}
use Rattle.lis_graph.proofs.Members.{among_at}
use Rattle.lis_store.proofs.Elsewhere.{numbers_counted}
use Rattle.lis_store.proofs.FileBlocks.{content_told, content_among, content_counted}
use Rattle.lis_store.proofs.StoreSays.{file_in_slot, told_below}
use Rattle.lis_store.proofs.ToldBy.{told_fits}
use Rattle.lis_store.proofs.Spelled.{sound_parts}
use Rattle.lis_kept.proofs.Image.{same_blocks, same_homes}
use Rattle.lis_model.proofs.Ranges.{limit_le}

-- ---- pieces of one length
module _ {X : Type 0} (w : ℕ) (at : X → List ℕ) where
  drop_pieces : (xs : List X) (n : ℕ) (d : X) → ((x : X) → Among xs x → length (at x) ≡ w) → n < length xs → drop (w * n) (flat_map at xs) ≡ at (get_or xs n d) ++ flat_map at (drop (suc n) xs)
  drop_pieces [] n d whole lt = absurd (omega arith)
  drop_pieces (x ∷ xs) zero d whole lt = ap (λ i. drop i (flat_map at (x ∷ xs))) (let none : w * 0 ≡ 0 = omega arith in none)
  drop_pieces (x ∷ xs) (suc n) d whole lt =
      ap (λ i. drop i (flat_map at (x ∷ xs))) (let more : w * suc n ≡ w + w * n = omega arith in more)
      ∙ (sym (drop-drop (w * n) w (flat_map at (x ∷ xs)))
      ∙ (ap (drop (w * n)) (drop_at (at x) (flat_map at xs) w (whole x (inl refl)))
      ∙ drop_pieces xs n d (λ y m. whole y (inr m)) (omega arith)))

  front_of : (size : ℕ) (piece rest : List ℕ) → length piece ≡ w → take (length (take w (take size (piece ++ rest)))) piece ≡ take w (take size (piece ++ rest))
  front_of size piece rest whole = search (rules, cases_lt, take-append-le, length-take-le, take_all, take-take, take_at)

  -- the n-th piece begins with the n-th part of the first bytes
  part_of_pieces : (xs : List X) (n size : ℕ) (d : X) → ((x : X) → Among xs x → length (at x) ≡ w) → n < length xs → w * n ≤ size
      → take (length (part (w * n) w (take size (flat_map at xs)))) (at (get_or xs n d)) ≡ part (w * n) w (take size (flat_map at xs))
  part_of_pieces xs n size d whole lt le =
      let left : ℕ = size - w * n in
      let is : drop (w * n) (take size (flat_map at xs)) ≡ take left (at (get_or xs n d) ++ flat_map at (drop (suc n) xs)) =
      ap (λ i. drop (w * n) (take i (flat_map at xs))) (let all : size ≡ w * n + left = omega arith in all)
      ∙ (drop-take (w * n) left (flat_map at xs) ∙ ap (take left) (drop_pieces xs n d whole lt)) in
      subst (λ ys. take (length (take w ys)) (at (get_or xs n d)) ≡ take w ys) (sym is)
      (front_of left (at (get_or xs n d)) (flat_map at (drop (suc n) xs)) (whole (get_or xs n d) (among_at xs n d lt)))

-- ---- the n-th block of a file
-- before the first block a caller has no index block
pub index_first : (k : Stored) (bytes : List ℕ) (slot : ℕ) (index : List ℕ) → IsIndex k bytes slot 0 index
index_first k bytes slot index rec is first large = absurd (first refl)

-- a slot has this record, with these numbers of blocks and this size, and its file has bytes in an n-th block
pub record HasBlock (k : Stored) (slot n : ℕ) (rec : FileRecord) (ns : List ℕ) (size : ℕ) : Type 0 where
  pub sound : IsSound k
  pub is_rec : rec_at k.metadata.catalog slot ≡ Some rec
  pub within : 4096 * n < rec.size
  pub numbers : ns ≡ rec.blocks
  pub sized : size ≡ rec.size

pub has_block : {k now : Stored} {slot : ℕ} {rec : FileRecord} {ns : List ℕ} {size : ℕ} (n : ℕ) → k ≡ now → IsSound k → rec_at k.metadata.catalog slot ≡ Some rec
    → IsSomeAnd (rec_at now.metadata.catalog slot) (λ (r : FileRecord). 4096 * n < r.size) → ns ≡ rec.blocks → size ≡ rec.size → HasBlock k slot n rec ns size
has_block {slot = slot} n view sound is_rec within numbers sized = search (rules)

module _ {k : Stored} {slot n : ℕ} {rec : FileRecord} {ns : List ℕ} {size : ℕ} (has : HasBlock k slot n rec ns size) where
  abbrev filed : Filed
  filed = record { slot = slot; rec = rec }

  there : Among k.metadata.catalog.entries filed
  there = filed_at_slot k.metadata.catalog has.sound.metadata.catalog slot rec has.is_rec

  pub block_few : size ≤ 67108864
  block_few = omega (arith, has.sized, limit_le k.metadata.limits, (sound_parts k.metadata has.sound.metadata filed there).short)

  pub block_counted : length ns ≡ slot_count size
  block_counted = ap length has.numbers ∙ (numbers_counted k.metadata has.sound.metadata filed there ∙ ap slot_count (sym has.sized))

  pub block_within_slot : (base : ℕ) → base ≡ data_start k.metadata.limits → are_within base k.journal.layout.blocks ns ≡ true
  block_within_slot base is_base = slot_within k.metadata rec base k.journal.layout.blocks ns (has.sound.metadata.records slot rec has.is_rec) is_base (same_blocks has.sound.image) has.numbers

  pub block_inside : n < blocks_needed size
  block_inside = let within = has.within in omega (arith, within, has.sized)

  pub block_home : (base : ℕ) → base ≡ data_start k.metadata.limits → homes_start k.journal.layout ≤ base
  block_home base is_base = omega (arith, is_base, same_homes has.sound.image)

  -- ---- the index block with its number
  -- by what is read of the slot, and by what memory has of it
  index_read : (base : ℕ) (index bytes : List ℕ) → base ≡ data_start k.metadata.limits → IsIndex k bytes slot n index → MayHaveNumber base ns size n (held_in k.journal bytes) index
  index_read base index bytes is_base is_index =
      let M : ℕ → List ℕ → ℕ → Type 0 = λ b numbers total. MayHaveNumber b numbers total n (held_in k.journal bytes) index in
      subst (λ b. M b ns size) (sym is_base)
      (subst (λ numbers. M (data_start k.metadata.limits) numbers size) (sym has.numbers)
      (subst (λ total. M (data_start k.metadata.limits) rec.blocks total) (sym has.sized) (is_index rec has.is_rec)))

  -- by what the disk keeps
  pub index_kept : (m : Meaning) (base : ℕ) (index : List ℕ) → base ≡ data_start k.metadata.limits → IsIndex k m.bytes slot n index
      → (kept : ℕ → List ℕ) → Fits k.journal m kept → MayHaveNumber base ns size n (looked k.journal.staged kept) index
  index_kept m base index is_base is_index kept fits first large =
      index_read base index m.bytes is_base is_index first large
      ∙ fits_held k.journal fits (index_home base ns (n / 1024)) (inr (omega (arith, block_home base is_base)))

  -- and for the next block
  pub index_next : (base : ℕ) (index after bytes : List ℕ) → base ≡ data_start k.metadata.limits
      → (MayHaveNumber base ns size n (held_in k.journal bytes) index → HasNumber base ns size n (held_in k.journal bytes) after) → IsIndex k bytes slot n index → IsIndex k bytes slot (n + 1) after
  index_next base index after bytes is_base next is_index other is_other =
      let M : ℕ → FileRecord → Type 0 = λ b r. MayHaveNumber b r.blocks r.size (n + 1) (held_in k.journal bytes) after in
      let N : List ℕ → ℕ → Type 0 = λ numbers total. MayHaveNumber base numbers total (n + 1) (held_in k.journal bytes) after in
      let here : N ns size = may_have_next base ns size n (held_in k.journal bytes) after (next (index_read base index bytes is_base is_index)) in
      subst (λ b. M b other) is_base
      (subst (λ r. M base r) (same_Some rec other (sym has.is_rec ∙ is_other))
      (subst (λ numbers. N numbers rec.size) has.numbers (subst (λ total. N ns total) has.sized here)))

  module _ (m : Meaning) (s : State) (fits : StoreFits k m s) where
    abbrev numbers : List ℕ
    numbers = content_told k.metadata.limits fits.kept rec

    in_content : n < length numbers
    in_content = let within = has.within in omega (arith, within, content_counted k.metadata has.sound.metadata filed there fits.kept)

    below : (b : ℕ) → Among numbers b → b < k.metadata.limits.blocks
    below b among = told_below k s has.sound (told_fits k m s has.sound fits) filed there b (content_among k.metadata.limits fits.kept rec b among)

    block_told : (name : List ℕ) → slot_of k.metadata.catalog name ≡ Some slot
        → take (length (part (4096 * n) 4096 (file_of s.files name).bytes)) (fits.kept (data_start k.metadata.limits + get_or numbers n 0)) ≡ part (4096 * n) 4096 (file_of s.files name).bytes
    block_told name is_slot =
        let at : ℕ → List ℕ = λ b. fits.kept (data_start k.metadata.limits + b) in
        let within = has.within in
        let bytes_are : (file_of s.files name).bytes ≡ bytes_told k.metadata.limits fits.kept rec =
        ap (λ (file : File). file.bytes) (file_in_slot k.metadata fits.kept s has.sound.metadata has.sound.free fits.tells name slot rec is_slot has.is_rec) in
        subst (λ bytes. take (length (part (4096 * n) 4096 bytes)) (at (get_or numbers n 0)) ≡ part (4096 * n) 4096 bytes) (sym bytes_are)
        (part_of_pieces 4096 at numbers n rec.size 0 (λ b among. (told_fits k m s has.sound fits).whole b (below b among)) in_content (omega arith))

    number_whole : length (fits.kept (data_start k.metadata.limits + get_or numbers n 0)) ≡ 4096
    number_whole = (told_fits k m s has.sound fits).whole (get_or numbers n 0) (below (get_or numbers n 0) (among_at numbers n 0 in_content))

    number_within : data_start k.metadata.limits + get_or numbers n 0 < k.journal.layout.blocks
    number_within = omega (arith, below (get_or numbers n 0) (among_at numbers n 0 in_content), same_blocks has.sound.image)

  pub block_read : (m : Meaning) (version base len : ℕ) (buf : List ℕ) → version ≡ k.metadata.limits.version → base ≡ data_start k.metadata.limits → len ≡ 4096
      → ((kept : ℕ → List ℕ) → Fits k.journal m kept
      → buf ≡ take len (block_within base k.journal.layout.blocks (looked k.journal.staged kept) (slice_index (content_blocks version base ns size (looked k.journal.staged kept)) n)))
      → (s : State) (name : List ℕ) → StoreFits k m s → slot_of k.metadata.catalog name ≡ Some slot
      → take (length (part (4096 * n) 4096 (file_of s.files name).bytes)) buf ≡ part (4096 * n) 4096 (file_of s.files name).bytes
  block_read m version base len buf is_version is_base whole read s name fits is_slot =
      let held : ℕ → ℕ → List ℕ → ℕ → List HomeBlock → List ℕ =
      λ v b slots bytes es. block_within b k.journal.layout.blocks (looked es fits.kept) (slice_index (content_blocks v b slots bytes (looked es fits.kept)) n) in
      let ds = data_start k.metadata.limits in
      let v = k.metadata.limits.version in
      let number = get_or (numbers m s fits) n 0 in
      let is_read : held version base ns size k.journal.staged ≡ held v ds rec.blocks rec.size [] =
      ap (held version base ns size) fits.settled
      ∙ (ap (λ x. held x base ns size []) is_version
      ∙ (ap (λ b. held v b ns size []) is_base
      ∙ (ap (λ slots. held v ds slots size []) has.numbers
      ∙ ap (λ bytes. held v ds rec.blocks bytes []) has.sized))) in
      let is_kept : held version base ns size k.journal.staged ≡ fits.kept (ds + number) =
      is_read ∙ cond-true (nat_lt (ds + number) k.journal.layout.blocks) (fits.kept (ds + number)) (replicate 4096 0) (lt-ltb (ds + number) k.journal.layout.blocks (number_within m s fits)) in
      let is_block : buf ≡ fits.kept (ds + number) =
      read fits.kept fits.journal ∙ (ap (take len) is_kept ∙ take_all len (fits.kept (ds + number)) (omega (arith, whole, number_whole m s fits))) in
      ap (take (length (part (4096 * n) 4096 (file_of s.files name).bytes))) is_block ∙ block_told m s fits name is_slot
