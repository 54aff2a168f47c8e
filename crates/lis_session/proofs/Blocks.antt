-- The bytes of a file, shown block by block.
use Rattle.std.proofs.Common.{◌≡◌, ◌⊎◌, ℕ, ◌+◌, ◌-◌, ◌*◌, ◌≤◌, min, true, false, Option, Some, None, IsSomeAnd, List, [], ◌∷◌, ◌++◌, length, take, drop, codes, Result, Ok, Err, refl, ap, sym, subst, ◌∙◌, inl, arith, append_assoc, length-drop}
use Rattle.std.specs.Result.{IsErrAnd}
use Rattle.std.proofs.Math.Seq.{take-add}
use Rattle.std.proofs.lemmas.List.{length-take, take_all, take-append-drop}
use Rattle.lis_ports.specs.Meaning.{Meaning}
use Rattle.lis_ports.specs.Bytes.{part}
use Rattle.lis_ports.specs.Runs.{Leaves}
use Rattle.lis_ports.specs.Calls.{IsUnchanged}
use Rattle.lis_ports.proofs.Always.{always_unchanged}
use Rattle.lis_ports.proofs.Moments.{leaves_weaken}
use Rattle.lis_catalog.specs.Catalog.{slot_of, rec_at}
use Rattle.lis_fields.specs.Records.{FileRecord}
use Rattle.lis_model.specs.declared.refusal.Refusal.TheVariants.{NoFileHere}
use Rattle.lis_model.specs.Image.{image_blocks}
use Rattle.lis_model.specs.Replies.{line, ok_line, refusal_line, number_line, content_lines}
use Rattle.lis_model.specs.State.{State}
use Rattle.lis_model.specs.Changes.{file_of}
use Rattle.lis_model.specs.Step.{Situation, Outcome, shown_here}
use Rattle.lis_store.specs.Stands.{Stands}
use Rattle.lis_store.specs.Stored.{Stored, IsSound, StoreFits}
use Rattle.lis_store.specs.Judging.{is_among}
use Rattle.lis_store.proofs.ToldBy.{told_fits}
use Rattle.lis_store.proofs.StoreSays.{sizes_told, here_told}
use Rattle.lis_session.specs.declared.end.End.{End}
use Rattle.lis_session.specs.declared.end.End.TheVariants.{DiskFault}
use Rattle.lis_session.specs.Session.{root_of}
use Rattle.lis_session.specs.Item.{FitsAt, OneItem, Does}
use Rattle.lis_session.specs.Parts.{only_shows, Answers}
use Rattle.lis_laws.proofs.Regular.{shown_if_here, refused_nowhere}
use Rattle.lis_session.proofs.Moments.{take_none}
use Rattle.lis_session.proofs.Saying.{Shows, unchanged_past, quiet_broke, quiet_done, item_front, item_then, item_none, shows_item, shows_bytes, item_shows}

-- a file has as many bytes as its record says
pub size_is : {k : Stored} {m : Meaning} {s : State} (name : List ℕ) (slot size : ℕ) → IsSound k → StoreFits k m s → slot_of k.metadata.catalog name ≡ Some slot
    → IsSomeAnd (rec_at k.metadata.catalog slot) (λ (rec : FileRecord). size ≡ rec.size) → length (file_of s.files name).bytes ≡ size
size_is {k} {m} {s} name slot size sound fits is_slot told = by (rec_at k.metadata.catalog slot) (sizes_told k s sound (told_fits k m s sound fits) name slot is_slot) told
  where
    by : (o : Option FileRecord) → IsSomeAnd o (λ (rec : FileRecord). length (file_of s.files name).bytes ≡ rec.size) → IsSomeAnd o (λ (rec : FileRecord). size ≡ rec.size)
        → length (file_of s.files name).bytes ≡ size
    by None none also = absurd none
    by (Some rec) is same = is ∙ sym same

-- ---- one block
-- this much of the buffer is the block of the file's bytes
pub block_is : (bytes buf : List ℕ) (n size count : ℕ) → length bytes ≡ size → count ≡ min (size - 4096 * n) 4096
    → take (length (part (4096 * n) 4096 bytes)) buf ≡ part (4096 * n) 4096 bytes → take count buf ≡ part (4096 * n) 4096 bytes
block_is bytes buf n size count len is read =
    let all : count ≡ length (part (4096 * n) 4096 bytes) = omega (arith, is, len, length-take 4096 (drop (4096 * n) bytes), length-drop (4096 * n) bytes) in
    ap (λ k. take k buf) all ∙ read

module _ {k : Stored} {old mid : Meaning} {state : State} (piece : List ℕ) (fitting : FitsAt (StoreFits k old) old state) (read : Leaves old mid old.images) (same : IsUnchanged old mid) where
  read_leaves : Leaves old mid (λ image. Stands image state ⊎ Stands image state)
  read_leaves = leaves_weaken _ read (λ image is. inl (fitting.stands.leaves image is))

  -- something was read
  read_fits : StoreFits k mid state → FitsAt (StoreFits k mid) mid state
  read_fits fits = record { honest = fits.journal.honest; stands = always_unchanged fitting.stands same; own = fits }

  -- it was read, and shown
  pub block_item : {new : Meaning} (result : Result (Unit {0}) End) → StoreFits k mid state → Answers mid new piece result → Shows state piece old new result (StoreFits k new)
  block_item result fits answers =
      item_shows result (quiet_done {next = root_of state} read_leaves (unchanged_past same (image_blocks state.limits)) (read_fits fits) refl) answers

  -- it could not be read
  pub block_broke : Shows state piece old mid (Err DiskFault) (StoreFits k mid)
  block_broke = quiet_broke read_leaves (unchanged_past same (image_blocks state.limits)) piece (StoreFits k mid) []

-- ---- all blocks
-- what is shown of the file in a slot, by its bytes
abbrev pub ShowsOf : (List ℕ → List ℕ) → Stored → ℕ → Meaning → Meaning → Result (Unit {0}) End → Type 0
ShowsOf shown k slot old new result =
    (name : List ℕ) → slot_of k.metadata.catalog name ≡ Some slot
    → Does (λ (now : Situation). only_shows (shown (file_of now.state.files name).bytes) now) (StoreFits k old) [] old new result (StoreFits k new) []

-- the first n blocks, and the block after them
abbrev pub first_blocks : ℕ → List ℕ → List ℕ
first_blocks n bytes = take (4096 * n) bytes

abbrev pub block_of : ℕ → List ℕ → List ℕ
block_of n bytes = part (4096 * n) 4096 bytes

pub block_more : (n : ℕ) (bytes : List ℕ) → take (4096 * n) bytes ++ part (4096 * n) 4096 bytes ≡ take (4096 * (n + 1)) bytes
block_more n bytes = let next : 4096 * (n + 1) ≡ 4096 * n + 4096 = omega arith in sym (ap (λ j. take j bytes) next ∙ take-add (4096 * n) 4096 bytes)

module _ (k : Stored) (slot n : ℕ) {old : Meaning} where
  pub blocks_none : ShowsOf (first_blocks 0) k slot old old (Ok tt)
  blocks_none name is state fitting =
      subst (λ xs. Shows state xs old old (Ok tt) (StoreFits k old)) (sym (take_none (file_of state.files name).bytes)) (item_none (root_of state) fitting)

  module _ {now next : Meaning} (shown : ShowsOf (first_blocks n) k slot old now (Ok tt)) where
    pub blocks_more : ShowsOf (block_of n) k slot now next (Ok tt) → ShowsOf (first_blocks (n + 1)) k slot old next (Ok tt)
    blocks_more block name is state fitting =
        let so_far = shown name is state fitting in
        let item = block name is state so_far.ended.fitting in
        subst (λ xs. Shows state xs old next (Ok tt) (StoreFits k next)) (block_more n (file_of state.files name).bytes) (item_then (Ok tt) so_far item.past item)

    pub blocks_broke : {end : End} {result : Result (Unit {0}) End} → ShowsOf (block_of n) k slot now next (Err end) → IsErrAnd result (λ e. e ≡ end) → ShowsOf (λ bytes. bytes) k slot old next result
    blocks_broke {end} {result} block same name is state fitting =
        let bytes = (file_of state.files name).bytes in
        let rest : List ℕ = drop (4096 * (n + 1)) bytes in
        let so_far = shown name is state fitting in
        let item = block name is state so_far.ended.fitting in
        subst (λ xs. Shows state xs old next result (StoreFits k next)) (ap (λ xs. xs ++ rest) (block_more n bytes) ∙ take-append-drop (4096 * (n + 1)) bytes)
        (item_front rest (item_then (Err end) so_far item.past item) same)

  pub blocks_all : {now : Meaning} (size : ℕ) → IsSound k → IsSomeAnd (rec_at k.metadata.catalog slot) (λ (rec : FileRecord). size ≡ rec.size) → size ≤ 4096 * n
      → ShowsOf (first_blocks n) k slot old now (Ok tt) → ShowsOf (λ bytes. bytes) k slot old now (Ok tt)
  blocks_all {now} size sound told enough shown name is state fitting =
      subst (λ xs. Shows state xs old now (Ok tt) (StoreFits k now)) (take_all (4096 * n) (file_of state.files name).bytes (omega (arith, size_is name slot size sound fitting.own is told, enough)))
      (shown name is state fitting)

-- ---- a file with its size
-- the size, the bytes, and what follows them
parted : (front bytes end : List ℕ) → (front ++ (bytes ++ 10 ∷ [])) ++ end ≡ (front ++ bytes) ++ 10 ∷ end
parted front bytes end = simp append_assoc

abbrev size_line : ℕ → List ℕ
size_line size = number_line (codes "b") size

-- the whole reply
abbrev ShowsFile : Stored → State → List ℕ → Meaning → Meaning → Result (Unit {0}) End → Type 0
ShowsFile k state bytes old new result = Shows state (content_lines bytes ++ ok_line) old new result (StoreFits k new)

in_pieces : {k : Stored} {old new : Meaning} {state : State} {result : Result (Unit {0}) End} (bytes : List ℕ) (size : ℕ) → length bytes ≡ size
    → Shows state ((size_line size ++ bytes) ++ 10 ∷ ok_line) old new result (StoreFits k new) → ShowsFile k state bytes old new result
in_pieces {k} {old} {new} {state} {result} bytes size len item =
    let is : content_lines bytes ++ ok_line ≡ (size_line size ++ bytes) ++ 10 ∷ ok_line = ap (λ n. (size_line n ++ line bytes) ++ ok_line) len ∙ parted (size_line size) bytes ok_line in
    subst (λ xs. Shows state xs old new result (StoreFits k new)) (sym is) item

module _ {k : Stored} {old mid : Meaning} {state : State} (bytes : List ℕ) {size : ℕ} (len : length bytes ≡ size) (fitting : FitsAt (StoreFits k old) old state) where
  pub size_broke : {end : End} {result : Result (Unit {0}) End} → Answers old mid (size_line size) (Err end) → IsErrAnd result (λ e. e ≡ end) → ShowsFile k state bytes old mid result
  size_broke {end} answers same =
      in_pieces bytes size len (item_front (10 ∷ ok_line) (item_front bytes (shows_bytes fitting answers) refl) same)

  module _ (answers : Answers old mid (size_line size) (Ok tt)) where
    size_shown : Shows state (size_line size) old mid (Ok tt) (StoreFits k mid)
    size_shown = shows_bytes fitting answers

    -- the store still fits
    pub size_fits : FitsAt (StoreFits k mid) mid state
    size_fits = size_shown.ended.fitting

    pub bytes_broke : {next : Meaning} {end : End} {result : Result (Unit {0}) End} → Shows state bytes mid next (Err end) (StoreFits k next) → IsErrAnd result (λ e. e ≡ end) → ShowsFile k state bytes old next result
    bytes_broke {end = end} item same = in_pieces bytes size len (item_front (10 ∷ ok_line) (item_then (Err end) size_shown item.past item) same)

    pub bytes_item : {next new : Meaning} {result : Result (Unit {0}) End} → Shows state bytes mid next (Ok tt) (StoreFits k next) → Answers next new (10 ∷ ok_line) result → ShowsFile k state bytes old new result
    bytes_item {result = result} item last = in_pieces bytes size len (item_shows result (item_then (Ok tt) size_shown item.past item) last)

-- ---- whether the file is here
-- a file of which something is shown, by whether the store finds it
module _ {k : Stored} {old new : Meaning} {result : Result (Unit {0}) End} (now : Situation) (name body : List ℕ) (sound : IsSound k) (fitting : FitsAt (StoreFits k old) old now.state) where
  pub shows_nowhere : is_among k.metadata now.place name ≡ false → Answers old new (refusal_line NoFileHere) result → OneItem now (shown_here now name body) old new result (StoreFits k new) now.place
  shows_nowhere nowhere answers = shows_item (shown_here now name body) now.place fitting answers (refused_nowhere now name body (sym (here_told k now.state sound (told_fits k old now.state sound fitting.own) now.place name) ∙ nowhere))

  pub shows_here : is_among k.metadata now.place name ≡ true → Shows now.state (body ++ ok_line) old new result (StoreFits k new) → OneItem now (shown_here now name body) old new result (StoreFits k new) now.place
  shows_here here item =
      subst (λ (o : Outcome). OneItem now o old new result (StoreFits k new) now.place) (sym (shown_if_here now name body (sym (here_told k now.state sound (told_fits k old now.state sound fitting.own) now.place name) ∙ here))) (item_then result (item_none now fitting) item.past item)
