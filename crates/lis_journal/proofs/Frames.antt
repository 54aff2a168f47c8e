-- Entries in frames, when a frame is written, taken or given back.
use Rattle.std.proofs.Common.{◌≡◌, ◌≢◌, ◌⊎◌, inl, inr, ℕ, zero, suc, ◌+◌, ◌<◌, ◌≤◌, nat_lt, true, ◌&&◌, ◌==◌, cond, List, [], ◌∷◌, ◌++◌, length, get_or, take, drop, Option, Some, None, unwrap_or, IsTrue, IsSome, refl, sym, ◌∙◌, ap, subst, arith, ◌||◌, Bool, false}
use Rattle.std.specs.List.{list_all}
use Rattle.std.proofs.lemmas.Bool.{and_parts, lt-ltb, eq-eqb, false≢true, cond-true, cond-false, le-ltb, ne_eqb, ltb-false, eqb-false, eqb-true}
use Rattle.std.specs.List.{list_any, count_by}
use Rattle.std.specs.Option.{is_some}
use Rattle.std.proofs.Math.ListN.{set}
use Rattle.std.proofs.lemmas.List.{length-map, length-set, map-append}
use Rattle.std.proofs.lemmas.List.Folds.{list_all-append}
use Rattle.std.proofs.lemmas.List.Sums.{sum_by-set}
use Rattle.lis_region.specs.Region as region
use Rattle.lis_region.proofs.Frames.{get-with_frame_same, get-with_frame_other, frame_in_range}
use Rattle.lis_journal.specs.declared.stage.Staged.{Staged}
use Rattle.lis_journal.specs.declared.layout.Layout.{Layout}
use Rattle.lis_journal.specs.Record.{homes_start, HomeBlock, homes, rises}
use Rattle.lis_journal.specs.Staging.{Staging, with_entry, has_entry}
use Rattle.lis_journal.specs.Images.{look}
use Rattle.lis_journal.specs.Inside.{bytes_at, entry_of, entries_of, home_list, IsFresh, AreApart, FoundAt, PlaceFor, IsStage}
use Rattle.lis_journal.proofs.Places.{rise_parts, rise_from, rises-with_entry, whole-with_entry, absent}

abbrev pub AllWhole : List HomeBlock → Type 0
AllWhole es = IsTrue (list_all (λ e. length e.bytes == 4096) es)

some_whole : (o : Option (List ℕ)) → (length (unwrap_or o []) == 4096) ≡ true → IsSome o
some_whole None e = absurd (false≢true e)
some_whole (Some xs) e = refl

-- a staged block is in a frame that is taken
pub has_frame : (r : region.Region ℕ) (xs : List Staged) (k : ℕ) (d : Staged) → AllWhole (entries_of r xs) → k < length xs → region.HasFrame r (get_or xs k d).frame
has_frame r [] k d whole lt = absurd (omega arith)
has_frame r (x ∷ xs) zero d whole lt = some_whole (region.get r x.frame) (and_parts (length (bytes_at r x.frame) == 4096) (list_all (λ e. length e.bytes == 4096) (entries_of r xs)) whole).0
has_frame r (x ∷ xs) (suc k) d whole lt =
    let less : k < length xs = omega (arith, lt) in
    has_frame r xs k d (and_parts (length (bytes_at r x.frame) == 4096) (list_all (λ e. length e.bytes == 4096) (entries_of r xs)) whole).1 less

none_short : (o : Option (List ℕ)) → o ≡ None → (length (unwrap_or o []) == 4096) ≡ true → ⊥
none_short o none e = false≢true (sym (ap (λ o. length (unwrap_or o []) == 4096) none) ∙ e)

-- a free frame is none of those of the staged blocks
pub fresh : (r : region.Region ℕ) (xs : List Staged) (frame : ℕ) → AllWhole (entries_of r xs) → region.get r frame ≡ None → IsFresh frame xs
fresh r [] frame whole free = tt
fresh r (x ∷ xs) frame whole free =
    let parts = and_parts (length (bytes_at r x.frame) == 4096) (list_all (λ e. length e.bytes == 4096) (entries_of r xs)) whole in
    (λ same. none_short (region.get r x.frame) (ap (region.get r) same ∙ free) parts.0, fresh r xs frame parts.1 free)

-- a frame that is none of those of the staged blocks changes no entry
pub entries-fresh : (r : region.Region ℕ) (xs : List Staged) (frame : ℕ) (items : Option (List ℕ)) → IsFresh frame xs → entries_of (region.with_frame r frame items) xs ≡ entries_of r xs
entries-fresh r [] frame items fresh_ = refl
entries-fresh r (x ∷ xs) frame items fresh_ =
    ap (λ o. record { home = x.home; bytes = unwrap_or o [] } ∷ entries_of (region.with_frame r frame items) xs) (get-with_frame_other r frame x.frame items fresh_.0)
    ∙ ap (λ es. entry_of r x ∷ es) (entries-fresh r xs frame items fresh_.1)

-- the frame of the block at an index
pub frame_fresh : (x : Staged) (xs : List Staged) (k : ℕ) (d : Staged) → IsFresh x.frame xs → k < length xs → x.frame ≢ (get_or xs k d).frame
frame_fresh x [] k d fresh_ lt = absurd (omega arith)
frame_fresh x (y ∷ ys) zero d fresh_ lt = λ same. fresh_.0 (sym same)
frame_fresh x (y ∷ ys) (suc k) d fresh_ lt = let less : k < length ys = omega (arith, lt) in frame_fresh x ys k d fresh_.1 less

head-with : (e : HomeBlock) (es : List HomeBlock) (n : ℕ) (bytes : List ℕ) → e.home < n → with_entry (e ∷ es) n bytes ≡ e ∷ with_entry es n bytes
head-with e es n bytes lower = cond-true (nat_lt e.home n) (e ∷ with_entry es n bytes) (cond (e.home == n) (record { home = n; bytes = bytes } ∷ es) (record { home = n; bytes = bytes } ∷ e ∷ es)) (lt-ltb e.home n lower)

head-same : (e : HomeBlock) (es : List HomeBlock) (n : ℕ) (bytes : List ℕ) → e.home ≡ n → with_entry (e ∷ es) n bytes ≡ record { home = n; bytes = bytes } ∷ es
head-same e es n bytes same =
    cond-false (nat_lt e.home n) (e ∷ with_entry es n bytes) (cond (e.home == n) (record { home = n; bytes = bytes } ∷ es) (record { home = n; bytes = bytes } ∷ e ∷ es)) (le-ltb e.home n (omega (arith, same)))
    ∙ cond-true (e.home == n) (record { home = n; bytes = bytes } ∷ es) (record { home = n; bytes = bytes } ∷ e ∷ es) (eq-eqb e.home n same)

head-above : (e : HomeBlock) (es : List HomeBlock) (n : ℕ) (bytes : List ℕ) → n < e.home → with_entry (e ∷ es) n bytes ≡ record { home = n; bytes = bytes } ∷ e ∷ es
head-above e es n bytes above =
    let ne : e.home ≡ n → ⊥ = λ same. absurd (omega (arith, same, above)) in
    cond-false (nat_lt e.home n) (e ∷ with_entry es n bytes) (cond (e.home == n) (record { home = n; bytes = bytes } ∷ es) (record { home = n; bytes = bytes } ∷ e ∷ es)) (le-ltb e.home n (omega (arith, above)))
    ∙ cond-false (e.home == n) (record { home = n; bytes = bytes } ∷ es) (record { home = n; bytes = bytes } ∷ e ∷ es) (ne_eqb e.home n ne)

-- the frame of a block that is staged is written
pub entries-found : (r : region.Region ℕ) (xs : List Staged) (n k : ℕ) (d : Staged) (bytes : List ℕ) → AreApart xs → FoundAt n k xs → k < length xs → (get_or xs k d).frame < length r.frames → entries_of (region.with_frame r (get_or xs k d).frame (Some bytes)) xs ≡ with_entry (entries_of r xs) n bytes
entries-found r [] n k d bytes apart found lt in_range = absurd (omega arith)
entries-found r (x ∷ xs) n zero d bytes apart found lt in_range =
    ap (λ o. record { home = x.home; bytes = unwrap_or o [] } ∷ entries_of (region.with_frame r x.frame (Some bytes)) xs) (get-with_frame_same r x.frame (Some bytes) in_range)
    ∙ (ap (λ es. record { home = x.home; bytes = bytes } ∷ es) (entries-fresh r xs x.frame (Some bytes) apart.0)
    ∙ (ap (λ h. record { home = h; bytes = bytes } ∷ entries_of r xs) found
    ∙ sym (head-same (entry_of r x) (entries_of r xs) n bytes found)))
entries-found r (x ∷ xs) n (suc k) d bytes apart found lt in_range =
    let less : k < length xs = omega (arith, lt) in
    let r' = region.with_frame r (get_or xs k d).frame (Some bytes) in
    ap (λ o. record { home = x.home; bytes = unwrap_or o [] } ∷ entries_of r' xs) (get-with_frame_other r (get_or xs k d).frame x.frame (Some bytes) (frame_fresh x xs k d apart.0 less))
    ∙ (ap (λ es. entry_of r x ∷ es) (entries-found r xs n k d bytes apart.1 found.1 less in_range)
    ∙ sym (head-with (entry_of r x) (entries_of r xs) n bytes found.0))

-- a block in a new frame is inserted at its index
pub entries-insert : (r : region.Region ℕ) (xs : List Staged) (n k : ℕ) (s : Staged) (bytes : List ℕ) → PlaceFor n k xs → s.home ≡ n → region.get r s.frame ≡ Some bytes → entries_of r (take k xs ++ s ∷ drop k xs) ≡ with_entry (entries_of r xs) n bytes
entries-insert r [] n zero s bytes place home is =
    ap (λ o. record { home = s.home; bytes = unwrap_or o [] } ∷ []) is ∙ ap (λ h. record { home = h; bytes = bytes } ∷ []) home
entries-insert r [] n (suc k) s bytes place home is = absurd place
entries-insert r (x ∷ xs) n zero s bytes place home is =
    ap (λ o. record { home = s.home; bytes = unwrap_or o [] } ∷ entries_of r (x ∷ xs)) is
    ∙ (ap (λ h. record { home = h; bytes = bytes } ∷ entries_of r (x ∷ xs)) home
    ∙ sym (head-above (entry_of r x) (entries_of r xs) n bytes place))
entries-insert r (x ∷ xs) n (suc k) s bytes place home is =
    ap (λ es. entry_of r x ∷ es) (entries-insert r xs n k s bytes place.1 home is)
    ∙ sym (head-with (entry_of r x) (entries_of r xs) n bytes place.0)

fresh-insert : (frame : ℕ) (xs : List Staged) (k : ℕ) (s : Staged) → IsFresh frame xs → s.frame ≢ frame → IsFresh frame (take k xs ++ s ∷ drop k xs)
fresh-insert frame xs zero s fresh_ ne = (ne, fresh_)
fresh-insert frame [] (suc k) s fresh_ ne = (ne, tt)
fresh-insert frame (x ∷ xs) (suc k) s fresh_ ne = (fresh_.0, fresh-insert frame xs k s fresh_.1 ne)

pub apart-insert : (xs : List Staged) (k : ℕ) (s : Staged) → AreApart xs → IsFresh s.frame xs → AreApart (take k xs ++ s ∷ drop k xs)
apart-insert xs zero s apart fresh_ = (fresh_, apart)
apart-insert [] (suc k) s apart fresh_ = (tt, tt)
apart-insert (x ∷ xs) (suc k) s apart fresh_ =
    (fresh-insert x.frame xs k s apart.0 (λ same. fresh_.0 (sym same)), apart-insert xs k s apart.1 fresh_.1)

-- without the last staged block
pub apart-front : (xs : List Staged) (s : Staged) → AreApart (xs ++ s ∷ []) → AreApart xs × IsFresh s.frame xs
apart-front [] s apart = (tt, tt)
apart-front (x ∷ xs) s apart =
    let rest = apart-front xs s apart.1 in
    let front = fresh_front x.frame xs apart.0 in
    ((front.0, rest.0), (λ same. front.1 (sym same), rest.1))
  where
    fresh_front : (frame : ℕ) (xs : List Staged) → IsFresh frame (xs ++ s ∷ []) → IsFresh frame xs × (s.frame ≢ frame)
    fresh_front frame [] fresh_ = (tt, fresh_.0)
    fresh_front frame (y ∷ ys) fresh_ = let more = fresh_front frame ys fresh_.1 in ((fresh_.0, more.0), more.1)

pub has_frame_at : (r : region.Region ℕ) (xs : List Staged) (k : ℕ) (s : Staged) → AllWhole (entries_of r xs) → k < length (entries_of r xs) → s ≡ get_or xs k s → region.HasFrame r s.frame
has_frame_at r xs k s whole lt is =
    subst (λ (s : Staged). region.HasFrame r s.frame) (sym is) (has_frame r xs k s whole (omega (arith, lt, length-map xs (entry_of r))))

homes-entries : (r : region.Region ℕ) (xs : List Staged) → homes (entries_of r xs) ≡ home_list xs
homes-entries r [] = refl
homes-entries r (x ∷ xs) = ap (λ hs. x.home ∷ hs) (homes-entries r xs)

pub list_rises : (r : region.Region ℕ) (xs : List Staged) (blocks last : ℕ) → IsTrue (rises blocks last (homes (entries_of r xs))) → IsTrue (rises blocks last (home_list xs))
list_rises r xs blocks last rise = subst (λ hs. IsTrue (rises blocks last hs)) (homes-entries r xs) rise

pub has-homes : (r : region.Region ℕ) (xs : List Staged) (n : ℕ) → has_entry (entries_of r xs) n ≡ list_any (λ h. h == n) (home_list xs)
has-homes r [] n = refl
has-homes r (x ∷ xs) n = ap (λ b. (x.home == n) || b) (has-homes r xs n)

count-refilled : (frames : List (Option (List ℕ))) (i : ℕ) (a b : List ℕ) → i < length frames → get_or frames i None ≡ Some a → count_by is_some (set frames i (Some b)) ≡ count_by is_some frames
count-refilled frames i a b lt was =
    let step = sum_by-set (λ (o : Option (List ℕ)). cond (is_some o) 1 0) frames i (Some b) None lt in
    omega (arith, rw was at step)

pub free-refilled : (r : region.Region ℕ) (frame : ℕ) (a b : List ℕ) → region.get r frame ≡ Some a → region.free_frames (region.with_frame r frame (Some b)) ≡ region.free_frames r
free-refilled r frame a b is =
    omega (arith, length-set r.frames frame (Some b), count-refilled r.frames frame a b (frame_in_range r frame a is) is)

-- the last block is removed, and its frame is given back
pub cleared : (r r' : region.Region ℕ) (xs ys : List Staged) (s : Staged) → xs ≡ ys ++ s ∷ [] → r' ≡ region.with_frame r s.frame None → AllWhole (entries_of r xs) → AreApart xs → AllWhole (entries_of r' ys) × AreApart ys
cleared r r' xs ys s is given whole apart =
    let parts = apart-front ys s (subst AreApart is apart) in
    let all : AllWhole (entries_of r ys ++ entry_of r s ∷ []) = subst AllWhole (ap (entries_of r) is ∙ map-append (entry_of r) ys (s ∷ [])) whole in
    let front = and_parts (list_all (λ e. length e.bytes == 4096) (entries_of r ys)) ((length (bytes_at r s.frame) == 4096) && true) (sym (list_all-append (λ (e : HomeBlock). length e.bytes == 4096) (entries_of r ys) (entry_of r s ∷ [])) ∙ all) in
    (subst AllWhole (sym (ap (λ r. entries_of r ys) given ∙ entries-fresh r ys s.frame None parts.1)) front.0, parts.0)

pub has_last : (r : region.Region ℕ) (xs ys : List Staged) (s : Staged) → xs ≡ ys ++ s ∷ [] → AllWhole (entries_of r xs) → region.HasFrame r s.frame
has_last r xs ys s is whole =
    let all : AllWhole (entries_of r ys ++ entry_of r s ∷ []) = subst AllWhole (ap (entries_of r) is ∙ map-append (entry_of r) ys (s ∷ [])) whole in
    let front = and_parts (list_all (λ e. length e.bytes == 4096) (entries_of r ys)) ((length (bytes_at r s.frame) == 4096) && true) (sym (list_all-append (λ (e : HomeBlock). length e.bytes == 4096) (entries_of r ys) (entry_of r s ∷ [])) ∙ all) in
    some_whole (region.get r s.frame) (and_parts (length (bytes_at r s.frame) == 4096) true front.1).0

pub some_of : (o : Option (List ℕ)) → IsSome o → (a : List ℕ) × (o ≡ Some a)
some_of None is = absurd (false≢true is)
some_of (Some a) is = (a, refl)

-- A staged block is written again.
pub put_found : (r r' : region.Region ℕ) (xs : List Staged) (n k room : ℕ) (layout : Layout) (capacity : ℕ) (s : Staged) (bytes : List ℕ) → IsStage r xs room layout capacity → FoundAt n k xs → k < length xs → s ≡ get_or xs k s → r' ≡ region.with_frame r s.frame (Some bytes) → homes_start layout ≤ n → n < layout.blocks → length bytes ≡ 4096 → IsStage r' xs room layout capacity × (entries_of r' xs ≡ with_entry (entries_of r xs) n bytes)
put_found r r' xs n k room layout capacity s bytes stage found lt is filled home within len =
    let frame : s.frame ≡ (get_or xs k s).frame = ap (λ (s : Staged). s.frame) is in
    let filled_at : r' ≡ region.with_frame r (get_or xs k s).frame (Some bytes) = filled ∙ ap (λ f. region.with_frame r f (Some bytes)) frame in
    let some = some_of (region.get r (get_or xs k s).frame) (has_frame r xs k s stage.staging.whole lt) in
    let same : entries_of r' xs ≡ with_entry (entries_of r xs) n bytes =
    ap (λ r. entries_of r xs) filled_at ∙ entries-found r xs n k s bytes stage.apart found lt (frame_in_range r (get_or xs k s).frame some.0 some.1) in
    let free : region.free_frames r' ≡ region.free_frames r = ap region.free_frames filled_at ∙ free-refilled r (get_or xs k s).frame some.0 bytes some.1 in (
      record {
        staging = record {
          rise = subst (λ es. IsTrue (rises layout.blocks (layout.records + 1) (homes es))) (sym same) (rises-with_entry layout.blocks (layout.records + 1) n bytes (entries_of r xs) (omega (arith, home)) within stage.staging.rise);
          whole = subst AllWhole (sym same) (whole-with_entry n bytes (entries_of r xs) len stage.staging.whole);
          few = omega (arith, length-map xs (entry_of r'), stage.counted);
          small = stage.staging.small;
          narrow = stage.staging.narrow;
        };
        wide = ap (λ (r : region.Region ℕ). r.width) filled_at ∙ stage.wide;
        apart = stage.apart;
        counted = omega (arith, free, stage.counted);
        has_room = stage.has_room;
      },
      same,
    )

-- for a block that is not staged there is a free frame
pub not_full : (r : region.Region ℕ) (xs : List Staged) (n k room : ℕ) (layout : Layout) (capacity : ℕ) → IsStage r xs room layout capacity → PlaceFor n k xs → IsTrue (has_entry (entries_of r xs) n) ⊎ (length (entries_of r xs) < capacity) → length xs < capacity
not_full r xs n k room layout capacity stage place may = elim may as (λ _. length xs < capacity) [
  | inl has ↦ absurd (false≢true (sym (has-homes r xs n ∙ absent layout.blocks (layout.records + 1) n k xs (list_rises r xs layout.blocks (layout.records + 1) stage.staging.rise) place) ∙ has))
  | inr few ↦ omega (arith, length-map xs (entry_of r), few)
]

-- A block is staged in a new frame.
pub put_new : (r r1 r2 : region.Region ℕ) (xs xs' : List Staged) (n k room room' : ℕ) (layout : Layout) (capacity frame : ℕ) (fill bytes : List ℕ) → IsStage r xs room layout capacity → PlaceFor n k xs → region.get r frame ≡ None → frame < length r.frames → r1 ≡ region.with_frame r frame (Some fill) → region.free_frames r1 + 1 ≡ region.free_frames r → r2 ≡ region.with_frame r1 frame (Some bytes) → xs' ≡ take k xs ++ record { home = n; frame = frame } ∷ drop k xs → length xs' ≡ length xs + 1 → capacity ≤ room' → homes_start layout ≤ n → n < layout.blocks → length bytes ≡ 4096 → IsStage r2 xs' room' layout capacity × (entries_of r2 xs' ≡ with_entry (entries_of r xs) n bytes)
put_new r r1 r2 xs xs' n k room room' layout capacity frame fill bytes stage place free in_range taken fewer filled is more has_room home within len =
    let fresh_ = fresh r xs frame stage.staging.whole free in
    let same1 : entries_of r1 xs ≡ entries_of r xs = ap (λ r. entries_of r xs) taken ∙ entries-fresh r xs frame (Some fill) fresh_ in
    let same2 : entries_of r2 xs ≡ entries_of r xs = ap (λ r. entries_of r xs) filled ∙ (entries-fresh r1 xs frame (Some bytes) fresh_ ∙ same1) in
    let got1 : region.get r1 frame ≡ Some fill = ap (λ r. region.get r frame) taken ∙ get-with_frame_same r frame (Some fill) in_range in
    let got2 : region.get r2 frame ≡ Some bytes = ap (λ r. region.get r frame) filled ∙ get-with_frame_same r1 frame (Some bytes) (frame_in_range r1 frame fill got1) in
    let same : entries_of r2 xs' ≡ with_entry (entries_of r xs) n bytes =
    ap (entries_of r2) is ∙ (entries-insert r2 xs n k (record { home = n; frame = frame }) bytes place refl got2 ∙ ap (λ es. with_entry es n bytes) same2) in
    let count : region.free_frames r2 ≡ region.free_frames r1 = ap region.free_frames filled ∙ free-refilled r1 frame fill bytes got1 in (
      record {
        staging = record {
          rise = subst (λ es. IsTrue (rises layout.blocks (layout.records + 1) (homes es))) (sym same) (rises-with_entry layout.blocks (layout.records + 1) n bytes (entries_of r xs) (omega (arith, home)) within stage.staging.rise);
          whole = subst AllWhole (sym same) (whole-with_entry n bytes (entries_of r xs) len stage.staging.whole);
          few = omega (arith, length-map xs' (entry_of r2), stage.counted, more, fewer);
          small = stage.staging.small;
          narrow = stage.staging.narrow;
        };
        wide = ap (λ (r : region.Region ℕ). r.width) filled ∙ (ap (λ (r : region.Region ℕ). r.width) taken ∙ stage.wide);
        apart = subst AreApart (sym is) (apart-insert xs k (record { home = n; frame = frame }) stage.apart fresh_);
        counted = omega (arith, count, fewer, more, stage.counted);
        has_room = has_room;
      },
      same,
    )

-- The content of a block that is staged.

look-above : (es : List HomeBlock) (blocks last n : ℕ) (old : List ℕ) → IsTrue (rises blocks last (homes es)) → n ≤ last → look es n old ≡ old
look-above [] blocks last n old rise le = refl
look-above (e ∷ es) blocks last n old rise le =
    let parts = rise_parts blocks last e.home (homes es) rise in
    let ne : n ≡ e.home → ⊥ = λ same. absurd (omega (arith, same, parts.0, le)) in
    ap (look es n) (cond-false (n == e.home) e.bytes old (ne_eqb n e.home ne)) ∙ look-above es blocks e.home n old parts.2 (omega (arith, parts.0, le))

pub look-found : (r : region.Region ℕ) (xs : List Staged) (blocks last n k : ℕ) (d : HomeBlock) (old : List ℕ) → IsTrue (rises blocks last (homes (entries_of r xs))) → FoundAt n k xs → look (entries_of r xs) n old ≡ (get_or (entries_of r xs) k d).bytes
look-found r [] blocks last n k d old rise found = absurd found
look-found r (x ∷ xs) blocks last n zero d old rise found =
    let parts = rise_parts blocks last x.home (homes (entries_of r xs)) rise in
    ap (look (entries_of r xs) n) (cond-true (n == x.home) (bytes_at r x.frame) old (eq-eqb n x.home (sym found)))
    ∙ look-above (entries_of r xs) blocks x.home n (bytes_at r x.frame) parts.2 (omega (arith, found))
look-found r (x ∷ xs) blocks last n (suc k) d old rise found =
    let parts = rise_parts blocks last x.home (homes (entries_of r xs)) rise in
    look-found r xs blocks x.home n k d (cond (n == x.home) (bytes_at r x.frame) old) parts.2 found.1

pub has_frame_at_place : (r : region.Region ℕ) (xs : List Staged) (k : ℕ) (s : Staged) → AllWhole (entries_of r xs) → k < length xs → s ≡ get_or xs k s → region.HasFrame r s.frame
has_frame_at_place r xs k s whole lt is = subst (λ (s : Staged). region.HasFrame r s.frame) (sym is) (has_frame r xs k s whole lt)

pub may_stage : {s t : Staging} (n : ℕ) → s ≡ t → IsTrue (has_entry t.entries n) ⊎ (length t.entries < t.capacity) → IsTrue (has_entry s.entries n) ⊎ (length s.entries < s.capacity)
may_stage n same may = subst (λ (s : Staging). IsTrue (has_entry s.entries n) ⊎ (length s.entries < s.capacity)) (sym same) may

-- The content of a block after one is staged.
pub look-with_entry : (blocks last n : ℕ) (bytes : List ℕ) (es : List HomeBlock) (m : ℕ) (old : List ℕ) → IsTrue (rises blocks last (homes es)) → look (with_entry es n bytes) m old ≡ cond (m == n) bytes (look es m old)
look-with_entry blocks last n bytes [] m old rise = refl
look-with_entry blocks last n bytes (e ∷ es) m old rise =
    let parts = rise_parts blocks last e.home (homes es) rise in
    by (nat_lt e.home n) (e.home == n) (m == n) refl refl refl parts.2 (rise_from blocks 0 e.home (homes es) (omega (arith, parts.0)) parts.1 parts.2) (look-with_entry blocks e.home n bytes es m (cond (m == e.home) e.bytes old) parts.2)
  where
    rest : List ℕ → List ℕ
    rest xs = look es m (cond (m == e.home) e.bytes xs)

    by : (lower same here : Bool) → nat_lt e.home n ≡ lower → (e.home == n) ≡ same → (m == n) ≡ here → IsTrue (rises blocks e.home (homes es)) → IsTrue (rises blocks 0 (homes (e ∷ es))) → look (with_entry es n bytes) m (cond (m == e.home) e.bytes old) ≡ cond (m == n) bytes (rest old)
        → look (cond lower (e ∷ with_entry es n bytes) (cond same (record { home = n; bytes = bytes } ∷ es) (record { home = n; bytes = bytes } ∷ e ∷ es))) m old ≡ cond here bytes (rest old)
    by true same here is_lower is_same is_here rise whole more = more ∙ ap (λ b. cond b bytes (rest old)) is_here
    by false true true is_lower is_same is_here rise whole more =
        let le : m ≤ e.home = omega (arith, eqb-true m n is_here, eqb-true e.home n is_same) in
        ap (λ b. look es m (cond b bytes old)) is_here ∙ look-above es blocks e.home m bytes rise le
    by false true false is_lower is_same is_here rise whole more =
        let other : (m == e.home) ≡ false = ap (λ h. m == h) (eqb-true e.home n is_same) ∙ is_here in
        ap (λ b. look es m (cond b bytes old)) is_here ∙ ap (λ b. look es m (cond b e.bytes old)) (sym other)
    by false false true is_lower is_same is_here rise whole more =
        let at : m ≡ n = eqb-true m n is_here in
        let le : n ≤ e.home = ltb-false e.home n is_lower in
        let ne : e.home ≡ n → ⊥ = eqb-false e.home n is_same in
        let off : m ≡ e.home → ⊥ = λ same. ne (sym same ∙ at) in
        ap (λ b. rest (cond b bytes old)) is_here
        ∙ (ap (λ b. look es m (cond b e.bytes bytes)) (ne_eqb m e.home off)
        ∙ look-above es blocks e.home m bytes rise (omega (arith, at, le)))
    by false false false is_lower is_same is_here rise whole more = ap (λ b. rest (cond b bytes old)) is_here

pub looked_put : (layout : Layout) (capacity n : ℕ) (bytes : List ℕ) (es es' : List HomeBlock) (s : Staging) → record { layout = layout; capacity = capacity; entries = es } ≡ s → IsTrue (rises layout.blocks (layout.records + 1) (homes es)) → es' ≡ with_entry es n bytes → (m : ℕ) (old : List ℕ) → look es' m old ≡ cond (m == n) bytes (look s.entries m old)
looked_put layout capacity n bytes es es' s same rise is m old =
    ap (λ es. look es m old) is
    ∙ (look-with_entry layout.blocks (layout.records + 1) n bytes es m old rise ∙ ap (λ (s : Staging). cond (m == n) bytes (look s.entries m old)) same)

pub has-found : (r : region.Region ℕ) (xs : List Staged) (n k : ℕ) → FoundAt n k xs → has_entry (entries_of r xs) n ≡ true
has-found r [] n k found = absurd found
has-found r (x ∷ xs) n zero found = ap (λ b. b || has_entry (entries_of r xs) n) (eq-eqb x.home n found)
has-found r (x ∷ xs) n (suc k) found = ap (λ b. (x.home == n) || b) (has-found r xs n k found.1) ∙ or_yes (x.home == n)
  where
    or_yes : (a : Bool) → (a || true) ≡ true
    or_yes true = refl
    or_yes false = refl
