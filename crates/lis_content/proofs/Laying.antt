-- Blocks that are placed row by row.
use Rattle.std.proofs.Common.{drop, ◌≡◌, ℕ, zero, suc, ◌+◌, ◌*◌, ◌<◌, ◌≤◌, ◌==◌, Bool, true, false, ◌||◌, List, [], ◌∷◌, ◌++◌, length, take, set, Option, Some, None, IsSomeAnd, Result, Ok, Err, IsErr, MatchResult, refl, sym, ◌∙◌, ap, subst, inr, arith, append_assoc, length-append, length-drop, eqb}
use Rattle.std.specs.List.{flat_map, range_with_len}
use Rattle.std.proofs.lemmas.Bool.{eqb-false, eq-eqb, ne_eqb, cond-true, cond-false, false≢true}
use Rattle.std.proofs.lemmas.Grind.{flat_map-append}
use Rattle.std.proofs.lemmas.List.{append-nil, length-take-le, take-append-drop, take_all}
use Rattle.std.proofs.lemmas.List.FromFn.{length-range_with_len}
use Rattle.std.proofs.lemmas.List.Sums.{fold-append}
use Rattle.lis_ports.specs.Meaning.{Meaning}
use Rattle.lis_ports.specs.Runs.{IsDiskRun}
use Rattle.lis_ports.specs.Calls.{DiskFaultEnds}
use Rattle.lis_ports.proofs.Ending.{ends_then}
use Rattle.lis_ports.proofs.Moments.{run_then, leaves_then, leaves_weaken}
use Rattle.lis_model.specs.State.{blocks_needed}
use Rattle.lis_journal.specs.Record.{replayed}
use Rattle.lis_journal.specs.Journal.{Held}
use Rattle.lis_journal.specs.declared.layout.Layout.{Layout}
use Rattle.lis_journal.specs.Images.{KeepsBut, StandsBut, Fits, is_among, with_kept, with_run}
use Rattle.lis_journal.specs.Staging.{has_entry}
use Rattle.lis_journal.proofs.Entries.{neither}
use Rattle.lis_journal.proofs.Runs.{among_head, among_parts, among_swapped, run_other}
use Rattle.lis_blockmap.specs.Bitmap.{free_count, is_taken}
use Rattle.lis_words.specs.Bytes.{padded}
use Rattle.lis_words.proofs.Bytes.{length_padded}
use Rattle.lis_content.specs.Content.{content, marked, has_home}
use Rattle.lis_content.specs.Large.{is_large}
use Rattle.lis_content.specs.Placing.{AreUnstaged, homes_of, Places, Lays, IsLaid, HasFile, IsPlaced, IsTornOff, WritesRow, RowPlaced, RowOf, RowTorn, OnePlaced}
use Rattle.lis_content.proofs.Numbers.{below_from_free, free_after, length-marked, number_past, row_new}
use Rattle.lis_content.proofs.Taking.{part_more, same_others}
use Rattle.lis_content.proofs.Indexes.{small_numbers, small_blocks, small_slot, taken_with_index}
use Rattle.lis_model.specs.Sets.{has_number}

-- ---- homes of blocks
pub among_homes : (base : ℕ) (blocks : List ℕ) (n : ℕ) → is_among (homes_of base blocks) n ≡ has_home base blocks n
among_homes base [] n = refl
among_homes base (b ∷ blocks) n = ap (λ t. eqb (base + b) n || t) (among_homes base blocks n)

homes_in_row : (base n count : ℕ) → homes_of base (range_with_len n count) ≡ range_with_len (base + n) count
homes_in_row base n zero = refl
homes_in_row base n (suc count) =
    let next : base + (n + 1) ≡ base + n + 1 = omega arith in
    ap (λ hs. (base + n) ∷ hs) (homes_in_row base (n + 1) count ∙ ap (λ h. range_with_len h count) next)

pub homes_more : (base : ℕ) (blocks more : List ℕ) → homes_of base (blocks ++ more) ≡ homes_of base blocks ++ homes_of base more
homes_more base [] more = refl
homes_more base (b ∷ blocks) more = ap (λ hs. (base + b) ∷ hs) (homes_more base blocks more)

pub home_new : (base : ℕ) (blocks : List ℕ) (n : ℕ) → has_number blocks n ≡ false → has_home base blocks (base + n) ≡ false
home_new base [] n new = refl
home_new base (b ∷ blocks) n new =
    let parts = neither (eqb b n) (has_number blocks n) new in
    let differ : base + b ≡ base + n → ⊥ = λ e. eqb-false b n parts.0 (omega (arith, e)) in
    ap (λ t. t || has_home base blocks (base + n)) (ne_eqb (base + b) (base + n) differ) ∙ home_new base blocks n parts.1

-- with one more row, the placed blocks are these and those of the row
placed_more : (base : ℕ) (blocks : List ℕ) (n count : ℕ) → homes_of base (blocks ++ range_with_len n count) ≡ homes_of base blocks ++ range_with_len (base + n) count
placed_more base blocks n count = homes_more base blocks (range_with_len n count) ∙ ap (λ hs. homes_of base blocks ++ hs) (homes_in_row base n count)

-- ---- moments
-- An image that represents some blocks represents fewer of them, also by another function that gives the same for these.
pub stands_told : (layout : Layout) (placed more : List ℕ) (kept now : ℕ → List ℕ) (image : List ℕ) → ((n : ℕ) → is_among more n ≡ false → (is_among placed n ≡ false) × (kept n ≡ now n)) → StandsBut layout placed kept image → StandsBut layout more now image
unfolding StandsBut
stands_told layout placed more kept now image less all = (all.0, by (replayed layout image) all.1)
  where
    by : (o : Option (List ℕ)) → IsSomeAnd o (KeepsBut layout placed kept) → IsSomeAnd o (KeepsBut layout more now)
    by None h = h
    by (Some r) h = record { long = h.long; same = λ n out not_in. let is = less n not_in in h.same n out is.0 ∙ is.1 }

-- ---- one more row
module _ (base : ℕ) (start now_taken next_taken : List Bool) (before now : Held) {old mid new : Meaning} (blocks : List ℕ) (n count : ℕ) {P : (ℕ → List ℕ) → Type 0} (was : Lays base start now_taken before now old mid blocks P) (row : WritesRow base now_taken next_taken now mid new n count) where
  pub unlike : (k : ℕ) → n ≤ k → k < n + count → (has_number blocks k ≡ false) × (is_taken start k ≡ false)
  unlike k le lt = free_after (length start) start blocks k refl (below_from_free start blocks was.places.were_free) (ap (λ t. is_taken t k) (sym was.places.marks) ∙ row.row.were_free k le lt)

  same_layout : now.layout ≡ before.layout
  same_layout = ap (λ (h : Held). h.layout) was.journal

  same_placed : now.placed ≡ homes_of base blocks
  same_placed = ap (λ (h : Held). h.placed) was.journal

  apart : (m : ℕ) → is_among (homes_of base (blocks ++ range_with_len n count)) m ≡ false → (is_among (homes_of base blocks) m ≡ false) × (is_among (range_with_len (base + n) count ++ now.placed) m ≡ false)
  apart m not_in =
      let out = ap (λ hs. is_among hs m) (sym (placed_more base blocks n count)) ∙ not_in in
      ((among_parts (homes_of base blocks) (range_with_len (base + n) count) m out).0, ap (λ p. is_among (range_with_len (base + n) count ++ p) m) same_placed ∙ among_swapped (homes_of base blocks) (range_with_len (base + n) count) m out)

  pub places_more : Places base start next_taken before old new (blocks ++ range_with_len n count)
  places_more =
      let more = row_new (length start) start blocks n count refl was.places.distinct was.places.were_free (omega (arith, row.row.within, was.places.len)) unlike in
      record {
        distinct = more.0;
        were_free = more.1;
        marks = row.row.marks ∙ (ap (λ t. marked t (range_with_len n count)) was.places.marks ∙ sym (fold-append (λ t k. set t k true) start blocks (range_with_len n count)));
        len = ap length row.row.marks ∙ (length-marked now_taken (range_with_len n count) ∙ was.places.len);
        counted = omega (arith, was.places.counted, row.row.counted, length-append blocks (range_with_len n count), length-range_with_len n count);
        moments = λ kept fits.
            let at = was.fits kept fits in
            leaves_then
            (leaves_weaken _ (was.places.moments kept fits) (λ image. stands_told before.layout (homes_of base blocks) (homes_of base (blocks ++ range_with_len n count)) kept kept image (λ m not_in. ((apart m not_in).0, refl))))
            (leaves_weaken _ (row.moments at.0 at.1) (λ image stands. stands_told before.layout (range_with_len (base + n) count ++ now.placed) (homes_of base (blocks ++ range_with_len n count)) at.0 kept image (λ m not_in. ((apart m not_in).1, at.2 m (sym (among_homes base blocks m) ∙ (apart m not_in).0))) (subst (λ b. StandsBut b (range_with_len (base + n) count ++ now.placed) at.0 image) same_layout stands)));
        past = λ kept fits k le.
            let at = was.fits kept fits in
            row.past at.0 at.1 k (omega (arith, le, ap (λ (l : Layout). l.blocks) same_layout)) ∙ was.places.past kept fits k le;
      }

-- what is kept of the blocks outside the row stays
abbrev pub KeepsOthers : ℕ → ℕ → ((ℕ → List ℕ) → ℕ → List ℕ) → Type 0
KeepsOthers home count after = (at : ℕ → List ℕ) (m : ℕ) → is_among (range_with_len home count) m ≡ false → after at m ≡ at m

pub lays_more : (base : ℕ) (start now_taken next_taken : List Bool) (before now next : Held) {old mid new : Meaning} (blocks : List ℕ) (n count : ℕ) (after : (ℕ → List ℕ) → ℕ → List ℕ) (P Q : (ℕ → List ℕ) → Type 0) → Lays base start now_taken before now old mid blocks P → RowPlaced base now_taken next_taken now next mid new n count after → KeepsOthers (base + n) count after → ((at : ℕ → List ℕ) → ((k : ℕ) → n ≤ k → k < n + count → has_number blocks k ≡ false) → P at → Q (after at)) → Lays base start next_taken before next old new (blocks ++ range_with_len n count) Q
lays_more base start now_taken next_taken before now next blocks n count after P Q was row others more = record {
  places = places_more base start now_taken next_taken before now blocks n count was row.writes;
  journal =
      row.journal
      ∙ (ap (λ (h : Held). record h { records = next.records; placed = h.placed ++ range_with_len (base + n) count }) was.journal
      ∙ ap (λ p. record before { records = next.records; placed = p }) (sym (placed_more base blocks n count)));
  fits = λ kept fits.
      let at = was.fits kept fits in (
        after at.0,
        row.fits at.0 at.1,
        (λ m none.
            let parts = among_parts (homes_of base blocks) (range_with_len (base + n) count) m (ap (λ hs. is_among hs m) (sym (placed_more base blocks n count)) ∙ (among_homes base (blocks ++ range_with_len n count) m ∙ none)) in
            others at.0 m parts.1 ∙ at.2 m (sym (among_homes base blocks m) ∙ parts.0)),
        more at.0 (λ k le lt. (unlike base start now_taken next_taken before now blocks n count was row.writes k le lt).0) at.3,
      );
}

-- a row of one block
pub one_block : (base : ℕ) (bytes block : List ℕ) (taken now_taken : List Bool) (before now : Held) {old new : Meaning} (n count : ℕ) → length bytes ≤ 4096 → block ≡ padded 4096 bytes → RowOf base block taken now_taken before now old new n count → OnePlaced base bytes taken now_taken before now old new n
one_block base bytes block taken now_taken before now {old} {new} n count few is row =
    let len : length block ≡ 4096 = ap length is ∙ length_padded 4096 bytes few in
    let one : count ≡ 1 = omega (arith, row.any, row.few, len) in
    let was = subst (λ k. RowPlaced base taken now_taken before now old new n k (with_run (base + n) k (take (4096 * k) block))) one row.placed in
    let whole : take 4096 (take 4096 block) ≡ padded 4096 bytes = ap (take 4096) (take_all 4096 block (omega (arith, len))) ∙ (take_all 4096 block (omega (arith, len)) ∙ is) in
    record {
      writes = was.writes;
      journal = was.journal;
      fits = λ kept fits. subst (λ b. Fits now new (with_kept (base + n) b kept)) whole (was.fits kept fits);
    }

-- one block is placed, and the others stay
pub one_keeps : (home : ℕ) (bytes : List ℕ) → KeepsOthers home 1 (with_kept home bytes)
one_keeps home bytes at m out = cond-false (m == home) bytes (at m) (ne_eqb m home (λ e. (among_head home m [] out).0 (sym e)))

pub lays_torn : (base : ℕ) (start now_taken next_taken : List Bool) (before now next : Held) {old mid new : Meaning} (blocks : List ℕ) (P : (ℕ → List ℕ) → Type 0) → Lays base start now_taken before now old mid blocks P → RowTorn base now_taken next_taken now next mid new → IsTornOff base start next_taken before next old new
lays_torn base start now_taken next_taken before now next blocks P was torn = record {
  blocks = blocks ++ range_with_len torn.n torn.count;
  places = places_more base start now_taken next_taken before now blocks torn.n torn.count was torn.writes;
  journal =
      torn.journal
      ∙ (ap (λ (h : Held). record h { records = next.records; is_broken = true }) was.journal
      ∙ ap (λ p. record before { records = next.records; placed = p; is_broken = true })
      (sym (ap (λ (h : Held). h.placed) torn.journal ∙ ap (λ (h : Held). h.placed) was.journal)));
}

-- the free blocks that are not staged stay unstaged
pub unstaged_still : (base : ℕ) (start now_taken : List Bool) (before now : Held) {old new : Meaning} (blocks : List ℕ) {P : (ℕ → List ℕ) → Type 0} → Lays base start now_taken before now old new blocks P → AreUnstaged base start before.staged → AreUnstaged base now_taken now.staged
unstaged_still base start now_taken before now blocks was unstaged n lt free =
    let then = free_after (length start) start blocks n refl (below_from_free start blocks was.places.were_free) (ap (λ t. is_taken t n) (sym was.places.marks) ∙ free) in
    ap (λ (h : Held). has_entry h.staged (base + n)) was.journal ∙ unstaged n (omega (arith, lt, was.places.len)) then.1

-- ---- the parts of the bytes, in sequence: those of `rest` are still to be placed
pub record IsPart (base : ℕ) (bytes rest blocks : List ℕ) (at : ℕ → List ℕ) : Type 0 where
  pub long : length (flat_map (λ b. at (base + b)) blocks) ≡ 4096 * length blocks
  pub holds : take (length bytes) (flat_map (λ b. at (base + b)) blocks ++ rest) ≡ bytes

pub record Laying (base : ℕ) (bytes rest : List ℕ) (start now_taken : List Bool) (before now : Held) (old new : Meaning) (blocks : List ℕ) : Type 0 where
  pub lays : Lays base start now_taken before now old new blocks (IsPart base bytes rest blocks)
  pub run : IsDiskRun old new
  pub faults : new.disk_faults ≡ old.disk_faults
  pub first_fault : DiskFaultEnds old new
  pub count : length blocks + blocks_needed (length rest) ≡ blocks_needed (length bytes)
  pub enough : blocks_needed (length rest) ≤ free_count now_taken
  pub left : 0 < length rest → 4096 * length blocks + length rest ≡ length bytes

flat_one : (base n : ℕ) (blocks bytes : List ℕ) (at : ℕ → List ℕ) → has_number blocks n ≡ false → flat_map (λ b. with_kept (base + n) bytes at (base + b)) (blocks ++ n ∷ []) ≡ flat_map (λ b. at (base + b)) blocks ++ bytes
flat_one base n blocks bytes at new =
    flat_map-append (λ b. after (base + b)) blocks (n ∷ [])
    ∙ (ap (λ xs. xs ++ (after (base + n) ++ [])) (same_others at after base n blocks bytes (λ m. refl) new)
    ∙ ap (λ xs. flat_map (λ b. at (base + b)) blocks ++ xs) (append-nil (after (base + n)) ∙ cond-true ((base + n) == (base + n)) bytes (at (base + n)) (eq-eqb (base + n) (base + n) refl)))
  where
    after : ℕ → List ℕ
    after = with_kept (base + n) bytes at

-- these bytes are in a row of blocks after others
flat_row : (base n count : ℕ) (blocks bytes : List ℕ) (at : ℕ → List ℕ) → length bytes ≡ 4096 * count → ((k : ℕ) → n ≤ k → k < n + count → has_number blocks k ≡ false)
    → flat_map (λ b. with_run (base + n) count bytes at (base + b)) (blocks ++ range_with_len n count) ≡ flat_map (λ b. at (base + b)) blocks ++ bytes
flat_row base n zero blocks [] at len new = ap (flat_map (λ b. at (base + b))) (append-nil blocks) ∙ sym (append-nil (flat_map (λ b. at (base + b)) blocks))
flat_row base n zero blocks (b ∷ bytes) at len new = absurd (omega (arith, len))
flat_row base n (suc count) blocks bytes at len new =
    ap (flat_map (λ b. with_run (base + n) (suc count) bytes at (base + b))) (sym (append_assoc blocks (n ∷ []) (range_with_len (n + 1) count)))
    ∙ (ap (λ h. flat_map (λ b. with_run h count behind after (base + b)) ((blocks ++ n ∷ []) ++ range_with_len (n + 1) count)) next
    ∙ (flat_row base (n + 1) count (blocks ++ n ∷ []) behind after (omega (arith, len, length-drop 4096 bytes)) (λ k le lt. number_past blocks n k (new k (omega (arith, le)) (omega (arith, lt))) (omega (arith, le)))
    ∙ (ap (λ xs. xs ++ behind) one
    ∙ (append_assoc (flat_map (λ b. at (base + b)) blocks) front behind ∙ ap (λ xs. flat_map (λ b. at (base + b)) blocks ++ xs) (take-append-drop 4096 bytes)))))
  where
    front : List ℕ
    front = take 4096 bytes

    behind : List ℕ
    behind = drop 4096 bytes

    next : base + n + 1 ≡ base + (n + 1)
    next = omega arith

    after : ℕ → List ℕ
    after = with_kept (base + n) front at

    one : flat_map (λ b. after (base + b)) (blocks ++ n ∷ []) ≡ flat_map (λ b. at (base + b)) blocks ++ front
    one = flat_one base n blocks front at (new n (omega arith) (omega arith))

pub laying_more : (base : ℕ) (bytes rest behind placed : List ℕ) (start now_taken next_taken : List Bool) (before now next : Held) {old mid new : Meaning} (blocks : List ℕ) (n count : ℕ) (after : (ℕ → List ℕ) → ℕ → List ℕ)
    → Laying base bytes rest start now_taken before now old mid blocks → 0 < length rest → length placed ≡ 4096 * count → blocks_needed (length behind) + count ≡ blocks_needed (length rest)
    → (0 < length behind → length behind + 4096 * count ≡ length rest)
    → ((flat : List ℕ) → length flat + length rest ≡ length bytes → take (length bytes) (flat ++ rest) ≡ bytes → take (length bytes) ((flat ++ placed) ++ behind) ≡ bytes)
    → RowPlaced base now_taken next_taken now next mid new n count after → KeepsOthers (base + n) count after
    → ((at : ℕ → List ℕ) → ((k : ℕ) → n ≤ k → k < n + count → has_number blocks k ≡ false) → flat_map (λ b. after at (base + b)) (blocks ++ range_with_len n count) ≡ flat_map (λ b. at (base + b)) blocks ++ placed)
    → IsDiskRun mid new → new.disk_faults ≡ mid.disk_faults → DiskFaultEnds mid new
    → Laying base bytes behind start next_taken before next old new (blocks ++ range_with_len n count)
laying_more base bytes rest behind placed start now_taken next_taken before now next blocks n count after was some len needs left part row others flat run faults no_more = record {
  lays = lays_more base start now_taken next_taken before now next blocks n count after _ _ was.lays row others (λ at new is. record {
    long = ap length (flat at new) ∙ (length-append (flat_map (λ b. at (base + b)) blocks) placed ∙ omega (arith, is.long, longer, len));
    holds = ap (λ xs. take (length bytes) (xs ++ behind)) (flat at new) ∙ part (flat_map (λ b. at (base + b)) blocks) (omega (arith, is.long, was.left some)) is.holds;
  });
  run = run_then was.run run;
  faults = faults ∙ was.faults;
  first_fault = ends_then was.first_fault was.faults no_more;
  count = omega (arith, was.count, longer, needs);
  enough = omega (arith, was.enough, row.writes.row.counted, needs);
  left = λ more. omega (arith, was.left some, longer, left more);
}
  where
    longer : length (blocks ++ range_with_len n count) ≡ length blocks + count
    longer = length-append blocks (range_with_len n count) ∙ ap (λ k. length blocks + k) (length-range_with_len n count)

-- one more row of whole blocks
pub laying_row : (base : ℕ) (bytes rest behind : List ℕ) (start now_taken next_taken : List Bool) (before now next : Held) {old mid new : Meaning} (blocks : List ℕ) (n count : ℕ)
    → Laying base bytes rest start now_taken before now old mid blocks → behind ≡ drop (4096 * count) rest → RowOf base rest now_taken next_taken now next mid new n count
    → IsDiskRun mid new → new.disk_faults ≡ mid.disk_faults → DiskFaultEnds mid new
    → Laying base bytes behind start next_taken before next old new (blocks ++ range_with_len n count)
laying_row base bytes rest behind start now_taken next_taken before now next blocks n count was is row run faults no_more =
    let front : List ℕ = take (4096 * count) rest in
    let len : length front ≡ 4096 * count = length-take-le (4096 * count) rest row.few in
    let shorter : length behind + 4096 * count ≡ length rest = omega (arith, ap length is, length-drop (4096 * count) rest, row.few) in
    laying_more base bytes rest behind front start now_taken next_taken before now next blocks n count (with_run (base + n) count front)
    was (omega (arith, row.any, row.few)) len (omega (arith, shorter)) (λ more. shorter)
    (λ flat all holds. ap (take (length bytes)) (append_assoc flat front behind ∙ ap (λ xs. flat ++ xs) (ap (λ xs. front ++ xs) is ∙ take-append-drop (4096 * count) rest)) ∙ holds)
    row.placed (λ at m. run_other (base + n) count front at m) (λ at new. flat_row base n count blocks front at len new) run faults no_more

-- the last block, with zeros after the bytes
pub laying_last : (base : ℕ) (bytes rest : List ℕ) (start now_taken next_taken : List Bool) (before now next : Held) {old mid new : Meaning} (blocks : List ℕ) (n : ℕ)
    → Laying base bytes rest start now_taken before now old mid blocks → 0 < length rest → length rest ≤ 4096 → OnePlaced base rest now_taken next_taken now next mid new n
    → IsDiskRun mid new → new.disk_faults ≡ mid.disk_faults → DiskFaultEnds mid new
    → Laying base bytes [] start next_taken before next old new (blocks ++ n ∷ [])
laying_last base bytes rest start now_taken next_taken before now next blocks n was some few one run faults no_more =
    laying_more base bytes rest [] (padded 4096 rest) start now_taken next_taken before now next blocks n 1 (with_kept (base + n) (padded 4096 rest))
    was some (length_padded 4096 rest few) (omega (arith, some, few)) (λ more. absurd (omega (arith, more)))
    (λ flat all holds. ap (λ p. take (length bytes) ((flat ++ p) ++ [])) (sym (append-nil (padded 4096 rest))) ∙ part_more bytes flat rest rest [] all holds (append-nil rest) (inr refl))
    one (one_keeps (base + n) (padded 4096 rest)) (λ at new. flat_one base n blocks (padded 4096 rest) at (new n (omega arith) (omega arith))) run faults no_more

-- ---- what holds at the end
pub lays_as : (base : ℕ) (start now_taken : List Bool) (before now : Held) {old new : Meaning} (blocks : List ℕ) (P Q : (ℕ → List ℕ) → Type 0) → ((at : ℕ → List ℕ) → P at → Q at) → Lays base start now_taken before now old new blocks P → Lays base start now_taken before now old new blocks Q
lays_as base start now_taken before now blocks P Q weaker was = record {
  places = was.places;
  journal = was.journal;
  fits = λ kept fits. let at = was.fits kept fits in (at.0, at.1, at.2, weaker at.0 at.3);
}

pub laid_done : (base : ℕ) (bytes rest : List ℕ) (start now_taken : List Bool) (before now : Held) {old new : Meaning} (blocks : List ℕ) → length rest ≡ 0 → Laying base bytes rest start now_taken before now old new blocks → IsLaid base bytes start now_taken before now old new blocks
laid_done base bytes rest start now_taken before now blocks none was = record {
  lays = lays_as base start now_taken before now blocks _ _ (λ at part.
      ap (take (length bytes)) (sym (append-nil (flat_map (λ b. at (base + b)) blocks)) ∙ ap (λ r. flat_map (λ b. at (base + b)) blocks ++ r) (sym (empty rest none)))
      ∙ part.holds) was.lays;
  count = omega (arith, was.count, none);
}
  where
    empty : (xs : List ℕ) → length xs ≡ 0 → xs ≡ []
    empty [] is = refl
    empty (x ∷ xs) is = absurd (omega arith)

pub placed_small : (version base : ℕ) (bytes : List ℕ) (start now_taken : List Bool) (before now : Held) {old new : Meaning} (blocks : List ℕ) → is_large (length bytes) ≡ false → IsLaid base bytes start now_taken before now old new blocks → IsPlaced version base bytes start now_taken before now old new blocks
placed_small version base bytes start now_taken before now blocks small was = record {
  blocks = blocks;
  lays = lays_as base start now_taken before now blocks _ (HasFile version base bytes blocks blocks) (λ at is. record {
    reads = ap (λ ns. content base ns (length bytes) at) (small_numbers version base blocks (length bytes) at small) ∙ is;
    index = λ large. absurd (false≢true (sym small ∙ large));
    all = small_blocks version base blocks (length bytes) at small;
  }) was.lays;
  count = was.count ∙ (sym (cond-false (is_large (length bytes)) _ (blocks_needed (length bytes)) small) ∙ taken_with_index (length bytes));
  slot_len = was.count ∙ sym (small_slot (length bytes) small);
  slot_is = sym (cond-false (is_large (length bytes)) (drop (blocks_needed (length bytes)) blocks) blocks small);
}

-- a result that is a fault
pub failed_as : {T E Q : Type 0} (r : Result T E) (P : T → Type 0) → IsErr r → Q → MatchResult r P (λ _. Q)
failed_as (Ok x) P is q = absurd (false≢true is)
failed_as (Err e) P is q = q
