-- Blocks that are taken for a content, or freed.
use Rattle.std.proofs.Common.{MatchResult, OnOk, OnErr, ap₂, arith, nat_le, min}
use Rattle.lis_kept.proofs.Common.{rules, ◌≡◌, refl, sym, ap, ◌∙◌, subst, ℕ, zero, suc, ◌≤◌, nat_lt, not, Bool, true, false, List, [], ◌∷◌, length, map, drop, Result, Ok, Err, list_all, and_parts, ltb-true, lt-ltb, Held, are_distinct, slot_count, FileRecord, Taxonomy, Among, marked, length-marked, data_start, all_among, and_from, all_from, ◌==◌, ◌&&◌, ◌||◌, ◌/◌, ◌*◌, Limits, cond, ◌+◌, ◌⊎◌, inl, inr, IsTrue, are_in_range}
use Rattle.lis_model.specs.Ranges.{most_blocks}
use Rattle.std.specs.Prelude.{◌^◌}
use Rattle.lis_model.proofs.Ranges.{own_limits, limit_le, early_limit_le}
use Rattle.std.proofs.lemmas.Bool.{cond-true, eq-eqb, leb-true, ltb-false, leb-false, and_from}
use Rattle.lis_ports.specs.Meaning.{Meaning}
use Rattle.lis_ports.specs.Runs.{Leaves}
use Rattle.lis_ports.proofs.Moments.{leaves_none}
use Rattle.lis_journal.specs.Record.{HomeBlock}
use Rattle.lis_journal.specs.Images.{look, is_among, StandsBut, Fits}
use Rattle.lis_journal.specs.Phases.{looked}
use Rattle.lis_blockmap.specs.Bitmap.{free_count, is_taken}
use Rattle.lis_content.specs.Content.{given, are_free, are_within}
use Rattle.lis_content.specs.Large.{is_large, file_blocks}
use Rattle.lis_content.specs.Placing.{homes_of, HasFile, Places, IsPlaced, IsTornOff, IsUnplaced}
use Rattle.lis_content.specs.Putting.{IsPut, IsRefused}
use Rattle.lis_content.specs.declared.fault.PutFault.{PutFault}
use Rattle.lis_content.specs.declared.fault.PutFault.TheVariants.{NoSpace, Disk}
use Rattle.lis_content.proofs.Numbers.{length-given, are_below, below_from_free, within_if_below}
use Rattle.lis_content.proofs.Indexes.{small_blocks, small_content, small_slot}
use Rattle.lis_content.proofs.Files.{slot_were_free}
use Rattle.lis_content.proofs.Laying.{among_homes}
use Rattle.lis_fields.specs.Layouts.{are_blocks, number_width, slot_blocks}
use Rattle.lis_model.specs.Image.{image_blocks}
use Rattle.lis_model.specs.State.{file_limit, blocks_needed, blocks_taken}
use Rattle.lis_kept.specs.Metadata.{Metadata}
use Rattle.lis_kept.specs.Sound.{is_sound_record}
use Rattle.lis_kept.specs.Links.{AreHeld}
use Rattle.lis_kept.specs.Changes.{bitmap_homes, Takes, GivesBack, Fills, Lands, Puts, PutTorn}
use Rattle.lis_kept.proofs.InArea.{numbers_fit}
use Rattle.lis_kept.specs.Image.{most_placed}
use Rattle.lis_kept.proofs.Image.{early_placed, third_placed}
use Rattle.lis_kept.proofs.Formed.{held_files, record_parts}
use Rattle.lis_kept.proofs.BitmapMarks.{is_home, bitmap_home_of, homes_are, homes_by, bitmap_marked, given_others, marked_others}
use Rattle.lis_kept.specs.Telling.{blocks_told}
use Rattle.lis_kept.proofs.Contents.{slot_blocks_counted}
use Rattle.lis_model.specs.Sets.{has_number, fit}
use Rattle.lis_journal.specs.Journal.{shape_of}

-- ---- other blocks are taken, over what memory kept
module _ (k p : Metadata) (t : Taxonomy) (blocks : List ℕ) (taken marks : List Bool) (is : p ≡ k) (held : AreHeld p t) (len : length taken ≡ length p.taken)
    (others : (n : ℕ) → (Among blocks n → ⊥) → is_taken taken n ≡ is_taken p.taken n) (are_marks : marks ≡ marked p.marks (bitmap_homes p.limits blocks)) where
  pub takes : AreHeld (record p { taken = taken; marks = marks }) t × Takes blocks taken k (record p { taken = taken; marks = marks })
  takes = (
    held_files p t p.catalog taken p.ext marks held (assumption (ap length are_marks ∙ length-marked p.marks (bitmap_homes p.limits blocks))),
    subst (λ (x : Metadata). Takes blocks taken x (record p { taken = taken; marks = marks })) is (record {
      metadata = cc (are_marks);
      len = len;
      marks = bitmap_marked p held.sound blocks taken marks len others are_marks;
    }),
  )

-- ---- the numbers of a slot
-- numbers of which none occurs twice stay so if the first ones are dropped
distinct_behind : (ns : List ℕ) (k : ℕ) → are_distinct ns ≡ true → are_distinct (drop k ns) ≡ true
distinct_behind ns zero apart = apart
distinct_behind [] (suc k) apart = refl
distinct_behind (n ∷ ns) (suc k) apart = distinct_behind ns k (and_parts (not (has_number ns n)) (are_distinct ns) apart).1

-- free blocks are numbers below the number of blocks, which fit in their bytes
module _ (p : Metadata) (t : Taxonomy) (held : AreHeld p t) (numbers : List ℕ) (free : are_free p.taken numbers ≡ true) where
  free_below : list_all (λ n. nat_lt n p.limits.blocks) numbers ≡ true
  free_below = ap (λ m. are_below m numbers) (sym held.sound.blocks) ∙ below_from_free p.taken numbers free

  free_short : fit (number_width p.limits.version) numbers ≡ true
  free_short =
      all_from (λ n. nat_lt n (256 ^ number_width p.limits.version)) numbers
      (λ n m. lt-ltb n (256 ^ number_width p.limits.version) (numbers_fit p.limits n held.sound.range (inr (ltb-true n p.limits.blocks (all_among (λ n. nat_lt n p.limits.blocks) numbers n free_below m)))))

  free_in_form : (size : ℕ) → size ≤ file_limit p.limits → length numbers ≡ slot_count size → are_distinct numbers ≡ true → are_blocks p.limits.version size numbers ≡ true
  free_in_form size few counted apart =
      and_from ((length numbers == slot_blocks p.limits.version size) && fit (number_width p.limits.version) numbers) (are_distinct numbers)
      (and_from (length numbers == slot_blocks p.limits.version size) (fit (number_width p.limits.version) numbers)
      (eq-eqb (length numbers) (slot_blocks p.limits.version size) (counted ∙ sym (slot_blocks_counted p.limits size held.sound.range few)))
      free_short) apart

-- ---- a content that is placed
placed_fills : (p : Metadata) (taken : List Bool) (old : Held) (before after : Meaning) (blocks : List ℕ) → Places (data_start p.limits) p.taken taken old before after blocks → Fills blocks p old before after
placed_fills p taken old before after blocks places = assumption

module _ (p : Metadata) (t : Taxonomy) (held : AreHeld p t) (bytes numbers : List ℕ) (taken : List Bool) (old new : Held) (before after : Meaning) (few : length bytes ≤ file_limit p.limits)
    (unstaged : old.staged ≡ []) (large : is_large (length bytes) ≡ true) (placed : IsPlaced p.limits.version (data_start p.limits) bytes p.taken taken old new before after numbers) where
  slot_apart : are_distinct numbers ≡ true
  slot_apart = search (rules, cond-true, distinct_behind)

  staged_same : new.staged ≡ old.staged
  staged_same = ap (λ (h : Held). h.staged) placed.lays.journal

  abbrev placed_lands : (kept : ℕ → List ℕ) → Fits old before kept → Lands p.limits bytes numbers placed.blocks (looked old.staged kept) new after
  placed_lands kept fits =
      let end = placed.lays.fits kept fits in
      let H : List HomeBlock → Type 0 = λ es. HasFile p.limits.version (data_start p.limits) bytes numbers placed.blocks (looked es end.0) in
      record {
        kept = end.0;
        fits = end.1;
        same = λ n none. ap (λ (es : List HomeBlock). look es n (end.0 n)) staged_same ∙ ap (look old.staged n) (end.2 n none);
        holds = subst H (sym (staged_same ∙ unstaged)) end.3;
      }

  placed_puts : (q : Metadata) → Takes placed.blocks taken p q → Puts bytes numbers p q old new before after
  placed_puts q takes = record {
    blocks = placed.blocks;
    fills = placed_fills p taken old before after placed.blocks placed.lays.places;
    takes = subst (λ (ts : List Bool). Takes placed.blocks ts p q) placed.lays.places.marks takes;
    in_form = free_in_form p t held numbers free (length bytes) few placed.slot_len slot_apart;
    below = free_below p t held numbers free;
    image = ap shape_of placed.lays.journal;
    broken = ap (λ (h : Held). h.is_broken) placed.lays.journal;
    placed = λ n among. sym (among_homes (data_start p.limits) placed.blocks n) ∙ (ap (λ (h : Held). is_among h.placed n) (sym placed.lays.journal) ∙ among);
    few_staged = omega (arith, ap length staged_same);
    others = λ n was out. ap (λ (es : List HomeBlock). look es n was) staged_same;
    lands = placed_lands;
    stays = λ kept fits n none. (placed.lays.fits kept fits).2 n (sym (among_homes (data_start p.limits) placed.blocks n) ∙ (ap (λ (h : Held). is_among h.placed n) (sym placed.lays.journal) ∙ none));
    moments = λ kept fits.
        subst (λ ns. Leaves before after (StandsBut old.layout ns kept)) (sym (ap (λ (h : Held). h.placed) placed.lays.journal)) (placed.lays.places.moments kept fits);
    unplaced = λ small. absurd (let e : true ≡ false = sym large ∙ small in cc);
    unstaged = λ _. staged_same;
  }
    where
      free : are_free p.taken numbers ≡ true
      free = slot_were_free p.limits.version (data_start p.limits) bytes p.taken taken old new numbers placed

-- the homes of what is placed, and the marks of the blocks of the bitmap with its bits
module _ (limits : Limits) (bytes slot : List ℕ) (taken now_taken : List Bool) (old new : Held) (before after : Meaning) (placed : IsPlaced limits.version (data_start limits) bytes taken now_taken old new before after slot)
    (len : length taken ≡ limits.blocks) (homes : List ℕ) (is : homes ≡ new.placed) where
  placed_at : homes ≡ homes_of (data_start limits) placed.blocks
  placed_at = is ∙ ap (λ (h : Held). h.placed) placed.lays.journal

  placed_below : list_all (λ n. nat_lt n limits.blocks) placed.blocks ≡ true
  placed_below = ap (λ m. are_below m placed.blocks) (sym len) ∙ below_from_free taken placed.blocks placed.lays.places.were_free

  pub placed_homes : list_all (is_home limits) homes ≡ true
  placed_homes = ap (list_all (is_home limits)) placed_at ∙ homes_are limits placed.blocks placed_below

  pub placed_marks : (marks : List Bool) → marked marks (map (bitmap_home_of limits) homes) ≡ marked marks (bitmap_homes limits placed.blocks)
  placed_marks marks = ap (marked marks) (ap (map (bitmap_home_of limits)) placed_at ∙ homes_by limits placed.blocks placed_below)

-- what a placing takes
pub few_taken : (limits : Limits) (size : ℕ) → IsTrue (are_in_range limits) → size ≤ file_limit limits → blocks_taken 2 size ≤ most_placed limits
few_taken limits size range le = by (limits.version == 3) refl
  where
    n : ℕ
    n = blocks_needed size

    third_few : (small : Bool) → size ≤ 67108864 → n + cond small 0 ((n + 1023) / 1024) ≤ 16400
    third_few true few = omega (arith, few)
    third_few false few = omega (arith, few)

    early_few : (small : Bool) → size ≤ 1048576 → n + cond small 0 ((n + 1023) / 1024) ≤ 257
    early_few true few = omega (arith, few)
    early_few false few = omega (arith, few)

    by : (third : Bool) → (limits.version == 3) ≡ third → blocks_taken 2 size ≤ most_placed limits
    by true third = omega (arith, third_placed limits third, third_few (nat_le n 16) (omega (arith, le, limit_le limits)))
    by false early = omega (arith, early_placed limits early, early_few (nat_le n 16) (omega (arith, le, early_limit_le limits range early)))

-- each block has a number of the version
pub few_numbers : (limits : Limits) → IsTrue (are_in_range limits) → limits.blocks ≤ most_blocks limits.version
few_numbers limits range = leb-true limits.blocks (most_blocks limits.version) (and_parts (nat_le 1 limits.blocks) (nat_le limits.blocks (most_blocks limits.version)) (own_limits limits range).blocks).1

-- ---- a content that is staged
module _ (p : Metadata) (t : Taxonomy) (held : AreHeld p t) (bytes numbers : List ℕ) (taken : List Bool) (old new : Held) (m : Meaning) (few : length bytes ≤ file_limit p.limits)
    (small : is_large (length bytes) ≡ false) (unplaced : old.placed ≡ []) (put : IsPut (data_start p.limits) [] bytes p.taken taken old new numbers) where
  not_large : is_large (length bytes) ≡ true → ⊥
  not_large large = let e : true ≡ false = sym large ∙ small in cc

  counted : length numbers ≡ slot_count (length bytes)
  counted = put.count ∙ sym (small_slot (length bytes) small)

  staged_fits : (kept : ℕ → List ℕ) → Fits old m kept → Fits new m kept
  staged_fits kept fits = search (rules)

  abbrev staged_lands : (kept : ℕ → List ℕ) → Fits old m kept → Lands p.limits bytes numbers numbers (looked old.staged kept) new m
  staged_lands kept fits = record {
    kept = kept;
    fits = staged_fits kept fits;
    same = λ n none. put.others n (kept n) none;
    holds = record {
      reads = small_content p.limits.version (data_start p.limits) numbers (length bytes) (looked new.staged kept) small ∙ put.holds kept;
      index = λ large. absurd (not_large large);
      all = small_blocks p.limits.version (data_start p.limits) numbers (length bytes) (looked new.staged kept) small;
    };
  }

  staged_puts : (q : Metadata) → Takes numbers taken p q → Puts bytes numbers p q old new m m
  staged_puts q takes = record {
    blocks = numbers;
    fills = record {
      distinct = put.distinct;
      were_free = put.were_free;
      moments = λ kept fits. leaves_none m _;
      past = λ kept fits n le. refl;
    };
    takes = subst (λ (ts : List Bool). Takes numbers ts p q) put.marks takes;
    in_form = free_in_form p t held numbers put.were_free (length bytes) few counted put.distinct;
    below = free_below p t held numbers put.were_free;
    image = put.image;
    broken = put.broken;
    placed = λ n among. absurd (let none : is_among new.placed n ≡ false = ap (λ ns. is_among ns n) (put.placed ∙ unplaced) in let e : true ≡ false = sym among ∙ none in cc);
    few_staged = omega (arith, put.few, put.count, ltb-false 16 (blocks_needed (length bytes)) small);
    others = put.others;
    lands = staged_lands;
    stays = λ kept fits n none. refl;
    moments = λ kept fits. leaves_none m _;
    unplaced = λ _. put.placed ∙ unplaced;
    unstaged = λ large. absurd (not_large large);
  }

-- ---- how a put ends
-- memory is as it must be, and what the result says holds of it
pub record PutEnds {T : Type 0} (items : T → List ℕ) (bytes : List ℕ) (k q : Metadata) (t : Taxonomy) (old new : Held) (before after : Meaning) (put : Result T PutFault) : Type 0 where
  pub held : AreHeld q t
  pub ended : MatchResult put (λ numbers. Puts bytes (items numbers) k q old new before after) (λ fault. PutTorn k q old new before after)

-- as many blocks are taken in each version as in version 2, since in version 1 no file is large
pub taken_counted : (limits : Limits) (size : ℕ) → size ≤ file_limit limits → blocks_taken limits.version size ≡ blocks_taken 2 size
taken_counted limits size few = by (limits.version == 1) (nat_le n 16) refl few
  where
    n : ℕ
    n = blocks_needed size

    rest : ℕ
    rest = cond (limits.version == 2) 1048576 (min 67108864 (4096 * limits.blocks))

    by : (one small : Bool) → nat_le n 16 ≡ small → size ≤ cond one 65536 rest → n + cond (one || small) 0 ((n + 1023) / 1024) ≡ n + cond small 0 ((n + 1023) / 1024)
    by true true e le = refl
    by true false e le = absurd (omega (arith, le, leb-false n 16 e))
    by false small e le = refl

-- what a put requires
pub record MayPut (k : Metadata) (bytes : List ℕ) (old : Held) : Type 0 where
  pub short : length bytes ≤ file_limit k.limits
  pub enough : blocks_taken k.limits.version (length bytes) ≤ free_count k.taken
  pub unplaced : old.placed ≡ []
  pub unstaged : is_large (length bytes) ≡ true → old.staged ≡ []

module _ {T : Type 0} (items : T → List ℕ) (k p : Metadata) (t : Taxonomy) (is : p ≡ k) (held : AreHeld p t) (bytes : List ℕ) (old new : Held) (asked : MayPut k bytes old) (taken marks : List Bool) where
  abbrev after_put : Metadata
  after_put = record p { taken = taken; marks = marks }

  may : MayPut p bytes old
  may = subst (λ (q : Metadata). MayPut q bytes old) (sym is) asked

  -- these blocks are taken
  marks_put : (blocks : List ℕ) → taken ≡ marked p.taken blocks → marks ≡ marked p.marks (bitmap_homes p.limits blocks) → AreHeld after_put t × Takes blocks taken p after_put
  marks_put blocks are_taken are_marks =
      takes p p t blocks taken marks refl held (ap length are_taken ∙ length-marked p.taken blocks)
      (λ n apart. ap (λ ts. is_taken ts n) are_taken ∙ marked_others p.taken blocks n apart) are_marks

  needed_enough : blocks_taken 2 (length bytes) ≤ free_count p.taken
  needed_enough = subst (λ n. n ≤ free_count p.taken) (taken_counted p.limits (length bytes) may.short) may.enough

  module _ (before after : Meaning) (large : is_large (length bytes) ≡ true) where
    torn_off : IsTornOff (data_start p.limits) p.taken taken old new before after → PutTorn k after_put old new before after
    torn_off torn =
        let P : Metadata → Type 0 = λ q. PutTorn q after_put old new before after in
        subst P is (record {
          blocks = torn.blocks;
          fills = placed_fills p taken old before after torn.blocks torn.places;
          metadata = refl;
          image = ap shape_of torn.journal;
        })

    -- some blocks are taken, and no marks are made
    held_torn : length taken ≡ length p.taken → marks ≡ p.marks → AreHeld after_put t
    held_torn len same = held_files p t p.catalog taken p.ext marks held (assumption (ap length same))

    pub placed_ends : (put : Result T PutFault)
        → MatchResult put
        (λ s. (placed : IsPlaced p.limits.version (data_start p.limits) bytes p.taken taken old new before after (items s)) × (marks ≡ marked p.marks (bitmap_homes p.limits placed.blocks)))
        (λ fault. IsUnplaced (data_start p.limits) bytes p.taken taken old new before after fault × (marks ≡ p.marks))
        → PutEnds items bytes k after_put t old new before after put
    placed_ends (Ok s) (placed, are_marks) =
        let P : Metadata → Type 0 = λ q. Puts bytes (items s) q after_put old new before after in
        let done = marks_put placed.blocks placed.lays.places.marks are_marks in
        record {
          held = done.0;
          ended = subst P is (placed_puts p t held bytes (items s) taken old new before after may.short (may.unstaged large) large placed after_put done.1);
        }
    placed_ends (Err NoSpace) refused = absurd (omega (arith, refused.0.2, needed_enough))
    placed_ends (Err Disk) torn = record { held = held_torn torn.0.1.places.len torn.1; ended = torn_off torn.0.1 }

  module _ (m : Meaning) (small : is_large (length bytes) ≡ false) where
    content_enough : blocks_needed (length bytes) ≤ free_count p.taken
    content_enough = omega (arith, needed_enough)

    pub staged_ends : (put : Result T PutFault)
        → MatchResult put (λ s. IsPut (data_start p.limits) [] bytes p.taken taken old new (items s) × (marks ≡ marked p.marks (bitmap_homes p.limits (items s))))
        (λ fault. IsRefused [] bytes p.taken taken old new fault × (marks ≡ p.marks))
        → PutEnds items bytes k after_put t old new m m put
    staged_ends (Ok s) (is_put, are_marks) =
        let P : Metadata → Type 0 = λ q. Puts bytes (items s) q after_put old new m m in
        let done = marks_put (items s) is_put.marks are_marks in
        record {
          held = done.0;
          ended = subst P is (staged_puts p t held bytes (items s) taken old new m may.short small may.unplaced is_put after_put done.1);
        }
    staged_ends (Err NoSpace) refused = absurd (omega (arith, refused.0.2, content_enough))
    staged_ends (Err Disk) never = absurd never.0

-- what is stated of a result, stated of its value
pub ended_ok : {T : Type 0} (P : T → Type 0) (Q : PutFault → Type 0) (put : Result T PutFault) (x : T) → put ≡ Ok x → MatchResult put P Q → P x
ended_ok P Q put x is ended = subst (λ r. MatchResult r P Q) is ended

pub ended_err : {T : Type 0} (P : T → Type 0) (Q : PutFault → Type 0) (put : Result T PutFault) (fault : PutFault) → put ≡ Err fault → MatchResult put P Q → Q fault
ended_err P Q put fault is ended = subst (λ r. MatchResult r P Q) is ended

-- ---- blocks that are freed
-- the homes of the blocks that a slot numbers are blocks of the image
pub slot_within : (k : Metadata) (rec : FileRecord) (base blocks : ℕ) (numbers : List ℕ) → is_sound_record k.limits k.dict k.limits.blocks rec ≡ true → base ≡ data_start k.limits
    → blocks ≡ image_blocks k.limits → numbers ≡ rec.blocks → are_within base blocks numbers ≡ true
slot_within k rec base blocks numbers sound from image are = search (rules, within_if_below, are_below, record_parts)

freed_takes : (p : Metadata) (t : Taxonomy) (numbers : List ℕ) (taken marks : List Bool) → AreHeld p t → taken ≡ given p.taken numbers → marks ≡ marked p.marks (bitmap_homes p.limits numbers)
    → AreHeld (record p { taken = taken; marks = marks }) t × Takes numbers taken p (record p { taken = taken; marks = marks })
freed_takes p t numbers taken marks held are_taken are_marks =
    takes p p t numbers taken marks refl held (ap length are_taken ∙ length-given p.taken numbers)
    (λ n apart. ap (λ ts. is_taken ts n) are_taken ∙ given_others p.taken numbers n apart) are_marks

-- memory is still as it must be
pub given_held : (p : Metadata) (t : Taxonomy) (numbers : List ℕ) (taken marks : List Bool) → AreHeld p t → taken ≡ given p.taken numbers → marks ≡ marked p.marks (bitmap_homes p.limits numbers)
    → AreHeld (record p { taken = taken; marks = marks }) t
given_held p t numbers taken marks held are_taken are_marks = (freed_takes p t numbers taken marks held are_taken are_marks).0

-- all blocks of a file are freed
pub gives : (k p : Metadata) (t : Taxonomy) (rec : FileRecord) (journal : Held) (m : Meaning) (blocks : List ℕ) (taken marks : List Bool) → p ≡ k → AreHeld p t
    → taken ≡ given p.taken blocks → marks ≡ marked p.marks (bitmap_homes p.limits blocks) → (is_large rec.size ≡ false → blocks ≡ rec.blocks)
    → ((kept : ℕ → List ℕ) → Fits journal m kept → blocks ≡ blocks_told p.limits (looked journal.staged kept) rec)
    → GivesBack rec k (record p { taken = taken; marks = marks }) journal m
gives k p t rec journal m blocks taken marks is held are_taken are_marks small told =
    let Q : Metadata → Type 0 = λ q. GivesBack rec q (record p { taken = taken; marks = marks }) journal m in
    subst Q is (record {
      blocks = blocks;
      takes = subst (λ (ts : List Bool). Takes blocks ts p (record p { taken = taken; marks = marks })) are_taken (freed_takes p t blocks taken marks held are_taken are_marks).1;
      small = small;
      told = told;
    })

-- what is stated of a value, by what is stated of it before
pub on_ok : {T E A B : Type 0} (r : Result T E) → (A → B) → OnOk r A → OnOk r B
on_ok (Ok x) f a = f a
on_ok (Err e) f a = a

-- of a file with index blocks, by what their reading says
module _ (k p : Metadata) (t : Taxonomy) (is : p ≡ k) (held : AreHeld p t) (journal : Held) (m : Meaning) (version base size : ℕ) (numbers : List ℕ) (taken marks : List Bool) where
  abbrev pub Freed : Type 0
  Freed = (blocks : List ℕ) × (taken ≡ given p.taken blocks) × (marks ≡ marked p.marks (bitmap_homes p.limits blocks))
      × ((kept : ℕ → List ℕ) → Fits journal m kept → blocks ≡ file_blocks version base numbers size (looked journal.staged kept))

  pub freed_held : {T E : Type 0} (r : Result T E) → OnOk r Freed → OnErr r ((taken ≡ p.taken) × (marks ≡ p.marks)) → AreHeld (record p { taken = taken; marks = marks }) t
  freed_held (Ok x) (blocks, are_taken, are_marks, told) stays =
      given_held p t blocks taken marks held are_taken are_marks
  freed_held (Err e) freed stays = held_files p t p.catalog taken p.ext marks held (assumption (ap length stays.0, ap length stays.1))

  pub freed_gives : (rec : FileRecord) → version ≡ p.limits.version → base ≡ data_start p.limits → numbers ≡ rec.blocks → size ≡ rec.size → is_large size ≡ true
      → Freed → GivesBack rec k (record p { taken = taken; marks = marks }) journal m
  freed_gives rec v b n s large (blocks, are_taken, are_marks, told) =
      gives k p t rec journal m blocks taken marks is held are_taken are_marks
      (λ small. absurd (let e : true ≡ false = sym large ∙ (ap is_large s ∙ small) in cc))
      (λ kept fits.
      told kept fits
      ∙ (ap₂ (λ v b. file_blocks v b numbers size (looked journal.staged kept)) v b
      ∙ ap₂ (λ ns n. file_blocks p.limits.version (data_start p.limits) ns n (looked journal.staged kept)) n s))

-- of a file without
pub small_gives : (k p : Metadata) (t : Taxonomy) (rec : FileRecord) (journal : Held) (m : Meaning) (numbers : List ℕ) (taken marks : List Bool) → p ≡ k → AreHeld p t → numbers ≡ rec.blocks
    → is_large rec.size ≡ false → taken ≡ given p.taken numbers → marks ≡ marked p.marks (bitmap_homes p.limits numbers)
    → GivesBack rec k (record p { taken = taken; marks = marks }) journal m
small_gives k p t rec journal m numbers taken marks is held are small are_taken are_marks =
    gives k p t rec journal m numbers taken marks is held are_taken are_marks (λ _. are)
    (λ kept fits. are ∙ sym (small_blocks p.limits.version (data_start p.limits) rec.blocks rec.size (looked journal.staged kept) small))
