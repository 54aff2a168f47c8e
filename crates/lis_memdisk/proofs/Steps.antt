-- What a call does to what a disk in memory means.
use Rattle.std.proofs.Common.{◌≡◌, ◌⊎◌, ℕ, ◌+◌, ◌*◌, ◌^◌, ◌<◌, ◌≤◌, nat_le, Bool, true, false, cond, ◌&&◌, List, [], ◌∷◌, ◌++◌, length, IsTrue, Some, refl, sym, ◌∙◌, ap, subst, inl, inr, arith}
use Rattle.std.specs.List.{list_all}
use Rattle.std.proofs.lemmas.Bool.{and_parts, and_from, leb-true, le-leb, leb-false, ltb-true, ltb-false}
use Rattle.std.proofs.lemmas.List.Folds.{list_all-append}
use Rattle.lis_ports.specs.Meaning.{Now}
use Rattle.lis_ports.specs.Bytes.{part, put, Torn}
use Rattle.lis_ports.specs.Runs.{Adds, IsDiskRun}
use Rattle.lis_ports.specs.Calls.{IsUnchanged, IsTorn, IsWritten, IsSynced, IsShowCall}
use Rattle.lis_ports.proofs.Parts.{torn-put, torn_refl, length-put, length-part}
use Rattle.lis_memdisk.proofs.Picks.{length-picked}
use Rattle.lis_memdisk.specs.Changes.{Deed, Change, Unsynced, Medium, fresh, bytes_of, after, replay, state_at, is_by, had_happened, picked, crashed, IsImage, IsLeft, clock_at, time_of, Moment}
use Rattle.lis_memdisk.specs.Changes.Deed.{Writes, Syncs, Shows}
use Rattle.lis_memdisk.specs.Seen.{Seen, Faults, now_of, clock_of, meaning, is_within, is_counted, IsSoundSeen, Did, bytes_after, shown_after}
use Rattle.lis_memdisk.specs.Laws.{IsWhole, whole_after, whole_fresh, whole_start, Sound, image_reads}

pub replay-push : (s : Medium) (cs : List Change) (c : Change) → replay s (cs ++ c ∷ []) ≡ after (replay s cs) c.deed
replay-push s [] c = refl
replay-push s (d ∷ cs) c = replay-push (after s d.deed) cs c

-- with one more change, a moment is one of before, or it is of the new last state
pub moment_only : (t : ℕ) (s : Medium) (cs : List Change) (c : Change) (image bytes : List ℕ) → Moment t s (cs ++ c ∷ []) image bytes → Moment t s cs image bytes ⊎ IsLeft (after (replay s cs) c.deed) image bytes
moment_only t s [] c image bytes is = elim is as (λ _. IsLeft s image bytes ⊎ IsLeft (after s c.deed) image bytes) [
  | inl early ↦ inl early.1
  | inr later ↦ inr later
]
moment_only t s (d ∷ cs) c image bytes is = elim is as (λ _. Moment t s (d ∷ cs) image bytes ⊎ IsLeft (after (replay (after s d.deed) cs) c.deed) image bytes) [
  | inl early ↦ inl (inl early)
  | inr later ↦ elim (moment_only t (after s d.deed) cs c image bytes later) as (λ _. Moment t s (d ∷ cs) image bytes ⊎ IsLeft (after (replay (after s d.deed) cs) c.deed) image bytes) [
    | inl had ↦ inl (inr had)
    | inr is_new ↦ inr is_new
  ]
]

pub moment_keeps : (t : ℕ) (s : Medium) (cs : List Change) (c : Change) (image bytes : List ℕ) → t < time_of c → Moment t s cs image bytes → Moment t s (cs ++ c ∷ []) image bytes
moment_keeps t s [] c image bytes lt is = inl (lt, is)
moment_keeps t s (d ∷ cs) c image bytes lt is = elim is as (λ _. Moment t s (d ∷ cs ++ c ∷ []) image bytes) [
  | inl early ↦ inl early
  | inr later ↦ inr (moment_keeps t (after s d.deed) cs c image bytes lt later)
]

past_later : (t u : ℕ) (cs : List Change) → t ≤ u → IsTrue (list_all (λ c. nat_le (time_of c) t) cs) → IsTrue (list_all (λ c. nat_le (time_of c) u) cs)
past_later t u [] le past = refl
past_later t u (c ∷ cs) le past =
    let parts = and_parts (nat_le (time_of c) t) (list_all (λ c. nat_le (time_of c) t) cs) past in
    let early : time_of c ≤ t = leb-true (time_of c) t parts.0 in
    and_from (nat_le (time_of c) u) (list_all (λ c. nat_le (time_of c) u) cs) (le-leb (time_of c) u (omega (arith, early, le))) (past_later t u cs le parts.1)

-- A record stays sound while calls pass.
pub sound_later : (s : Seen) (left calls shows : ℕ) → s.calls ≤ calls → s.shows ≤ shows → IsSoundSeen s → IsSoundSeen (record { is_kept = s.is_kept; start = s.start; changes = s.changes; bytes = s.bytes; shown = s.shown; left = left; calls = calls; shows = shows })
sound_later s left calls shows le_calls le_shows sound = record {
  within = sound.within;
  counted = sound.counted;
  past = past_later (clock_of s) (clock_at calls shows) s.changes (omega arith) sound.past;
  reads = sound.reads;
  shows = sound.shows;
}

all_within : (P : Change → Bool) (cs : List Change) (c : Change) → IsTrue (list_all P cs) → IsTrue (P c) → IsTrue (list_all P (cs ++ c ∷ []))
all_within P cs c all one = list_all-append P cs (c ∷ []) ∙ and_from (list_all P cs) (P c && true) all (and_from (P c) true one refl)

reads_after : (s : Medium) (deed : Deed) → bytes_of (after s deed) ≡ bytes_after deed (bytes_of s)
reads_after s (Writes place bytes) = refl
reads_after s Syncs = refl
reads_after s (Shows piece) = refl

shows_after : (s : Medium) (deed : Deed) → (after s deed).shown ≡ shown_after deed s.shown
shows_after s (Writes place bytes) = refl
shows_after s Syncs = refl
shows_after s (Shows piece) = refl

-- the last state of a record with one more deed
pub now_after : (a b : Seen) (deed : Deed) (cost : ℕ) → IsTrue a.is_kept → Did a b deed cost → now_of b ≡ after (now_of a) deed
now_after a b deed cost kept did =
    ap (λ start. replay (fresh start) b.changes) did.start
    ∙ (ap (replay (fresh a.start)) (did.changes kept) ∙ replay-push (fresh a.start) a.changes (record { calls = b.calls; shows = b.shows; deed = deed }))

-- A record stays sound with one more deed.
pub sound_did : (a b : Seen) (deed : Deed) (cost : ℕ) → IsTrue a.is_kept → IsSoundSeen a → Did a b deed cost → IsTrue (is_within (length a.bytes) deed) → IsTrue (is_counted b.shows deed) → IsSoundSeen b
sound_did a b deed cost kept sound did within counts =
    let change : Change = record { calls = b.calls; shows = b.shows; deed = deed } in
    let le : clock_of a ≤ clock_of b = omega (arith, did.passes kept) in
    let len : length a.bytes ≡ length b.start = sym (whole_start a sound) ∙ ap length (sym did.start) in
    record {
      within = subst (λ cs. IsTrue (list_all (λ c. is_within (length b.start) c.deed) cs)) (sym (did.changes kept))
          (all_within (λ c. is_within (length b.start) c.deed) a.changes change (subst (λ start. IsTrue (list_all (λ c. is_within (length start) c.deed) a.changes)) (sym did.start) sound.within) (subst (λ n. IsTrue (is_within n deed)) len within));
      counted = subst (λ cs. IsTrue (list_all (λ c. is_counted c.shows c.deed) cs)) (sym (did.changes kept))
          (all_within (λ c. is_counted c.shows c.deed) a.changes change sound.counted counts);
      past = subst (λ cs. IsTrue (list_all (λ c. nat_le (time_of c) (clock_of b)) cs)) (sym (did.changes kept))
          (all_within (λ c. nat_le (time_of c) (clock_of b)) a.changes change (past_later (clock_of a) (clock_of b) a.changes le sound.past) (le-leb (clock_of b) (clock_of b) (omega arith)));
      reads = ap bytes_of (now_after a b deed cost kept did) ∙ (reads_after (now_of a) deed ∙ (ap (bytes_after deed) sound.reads ∙ sym did.bytes));
      shows = ap (λ s. s.shown) (now_after a b deed cost kept did) ∙ (shows_after (now_of a) deed ∙ (ap (shown_after deed) sound.shows ∙ sym did.shown));
    }

-- Calls that do something.

shown_now : (a b : Seen) (deed : Deed) (cost : ℕ) → IsSoundSeen a → Did a b deed cost → (after (now_of a) deed).shown ≡ b.shown
shown_now a b deed cost sound did = shows_after (now_of a) deed ∙ (ap (shown_after deed) sound.shows ∙ sym did.shown)

pub adds_did : (a b : Seen) (deed : Deed) (cost : ℕ) (f g : Faults) → Sound a → Did a b deed cost → clock_of a ≤ clock_of b → Adds (meaning a f) (meaning b g) (Now (meaning b g))
adds_did a b deed cost f g sound did later = record {
  later = later;
  only = λ t image bytes le had.
      let kept : IsTrue a.is_kept = sym did.kept ∙ had.0 in
      let change : Change = record { calls = b.calls; shows = b.shows; deed = deed } in
      let was : Moment t (fresh a.start) (a.changes ++ change ∷ []) image bytes =
      subst (λ cs. Moment t (fresh a.start) cs image bytes) (did.changes kept) (subst (λ start. Moment t (fresh start) b.changes image bytes) did.start had.1) in
      elim (moment_only t (fresh a.start) a.changes change image bytes was) as (λ _. (meaning a f).moments t image bytes ⊎ Now (meaning b g) image bytes) [
        | inl before ↦ inl (kept, before)
        | inr left ↦ inr (
          (had.0, subst (λ s. IsImage s.unsynced s.synced image) (sym (now_after a b deed cost kept did)) left.0),
          ap (λ xs. Some xs) (sym (left.1 ∙ shown_now a b deed cost (sound kept) did)),
        )
      ];
  keeps = λ t image bytes le had.
      let change : Change = record { calls = b.calls; shows = b.shows; deed = deed } in
      let lt : t < time_of change = omega (arith, le, did.passes had.0) in (
        did.kept ∙ had.0,
        subst (λ start. Moment t (fresh start) b.changes image bytes) (sym did.start) (subst (λ cs. Moment t (fresh a.start) cs image bytes) (sym (did.changes had.0)) (moment_keeps t (fresh a.start) a.changes change image bytes lt had.1)),
      );
}

-- an image after a deed, by the state before it
image_after : (a b : Seen) (deed : Deed) (cost : ℕ) (image : List ℕ) → IsTrue a.is_kept → Did a b deed cost → IsImage (now_of b).unsynced (now_of b).synced image → IsImage (after (now_of a) deed).unsynced (after (now_of a) deed).synced image
image_after a b deed cost image kept did is = subst (λ s. IsImage s.unsynced s.synced image) (now_after a b deed cost kept did) is

image_before : (a b : Seen) (deed : Deed) (cost : ℕ) (image : List ℕ) → IsTrue a.is_kept → Did a b deed cost → IsImage (after (now_of a) deed).unsynced (after (now_of a) deed).synced image → IsImage (now_of b).unsynced (now_of b).synced image
image_before a b deed cost image kept did is = subst (λ s. IsImage s.unsynced s.synced image) (sym (now_after a b deed cost kept did)) is

pub torn_did : (a b : Seen) (place : ℕ) (bytes : List ℕ) (cost : ℕ) (f g : Faults) → Did a b (Writes place bytes) cost → place + length bytes ≤ length a.bytes → IsTorn place (length bytes) (meaning a f) (meaning b g)
torn_did a b place bytes cost f g did fits = record {
  bytes = subst (Torn place (length bytes) a.bytes) (sym did.bytes) (torn-put a.bytes place bytes fits);
  only = λ image is.
      let kept : IsTrue a.is_kept = sym did.kept ∙ is.0 in
      let was = image_after a b (Writes place bytes) cost image kept did is.1 in
      (was.0, (kept, was.1), was.2);
  grows = λ kept image is.
      (did.kept ∙ kept, image_before a b (Writes place bytes) cost image kept did (image, is.1, torn_refl place (length bytes) image));
}

pub written_did : (a b : Seen) (place : ℕ) (bytes : List ℕ) (cost : ℕ) (f g : Faults) → Did a b (Writes place bytes) cost → IsWritten place bytes (meaning a f) (meaning b g)
written_did a b place bytes cost f g did = record {
  reads = did.bytes;
  each = λ kept from image is torn.
      (did.kept ∙ kept, image_before a b (Writes place bytes) cost image kept did (from, is.1, torn));
}

pub synced_did : (a b : Seen) (cost : ℕ) (f g : Faults) → Sound a → Did a b Syncs cost → IsSynced (meaning a f) (meaning b g)
synced_did a b cost f g sound did = record {
  bytes = did.bytes;
  images = record {
    only = λ image is.
        let kept : IsTrue a.is_kept = sym did.kept ∙ is.0 in
        let same : image ≡ a.bytes = image_after a b Syncs cost image kept did is.1 ∙ (sound kept).reads in
        (subst (meaning a f).images (sym same) (image_reads a f sound kept), same);
    each = λ kept image is.
        let was : IsTrue a.is_kept = sym did.kept ∙ kept in
        (kept, image_before a b Syncs cost image was did (is.1 ∙ sym (sound was).reads));
  };
}

-- what a show leaves unchanged on the disk
pub same_did : (a b : Seen) (piece : List ℕ) (cost : ℕ) (f g : Faults) → Did a b (Shows piece) cost → IsUnchanged (meaning a f) (meaning b g)
same_did a b piece cost f g did = record {
  bytes = did.bytes;
  images = record {
    only = λ image is.
        let kept : IsTrue a.is_kept = sym did.kept ∙ is.0 in
        (kept, image_after a b (Shows piece) cost image kept did is.1);
    each = λ kept image is.
        (kept, image_before a b (Shows piece) cost image is.0 did is.1);
  };
}

pub run_write : (a b : Seen) (place : ℕ) (bytes : List ℕ) (cost : ℕ) (f g : Faults) → Did a b (Writes place bytes) cost → place + length bytes ≤ length a.bytes → clock_of a ≤ clock_of b → f.disk ≤ g.disk → g.show ≡ f.show → IsDiskRun (meaning a f) (meaning b g)
run_write a b place bytes cost f g did fits later le same = record {
  later = later;
  honest = refl;
  len = ap length did.bytes ∙ length-put a.bytes place bytes fits;
  recorded = did.kept;
  shown = ap (λ xs. Some xs) did.shown;
  show_faults = same;
  disk_faults = le;
}

pub run_sync : (a b : Seen) (cost : ℕ) (f g : Faults) → Did a b Syncs cost → clock_of a ≤ clock_of b → f.disk ≤ g.disk → g.show ≡ f.show → IsDiskRun (meaning a f) (meaning b g)
run_sync a b cost f g did later le same = record {
  later = later;
  honest = refl;
  len = ap length did.bytes;
  recorded = did.kept;
  shown = ap (λ xs. Some xs) did.shown;
  show_faults = same;
  disk_faults = le;
}

pub call_show : (a b : Seen) (piece : List ℕ) (cost : ℕ) (f g : Faults) → Did a b (Shows piece) cost → g.disk ≡ f.disk → IsShowCall (meaning a f) (meaning b g)
call_show a b piece cost f g did stays = record {
  honest = refl;
  len = ap length did.bytes;
  recorded = did.kept;
  disk_faults = stays;
  same = λ honest. same_did a b piece cost f g did;
}

-- What had not happened when a call returned came later.
not_yet : (call calls shows : ℕ) (deed : Deed) → IsTrue (is_counted shows deed) → is_by call calls deed ≡ false → call * 2 ^ 64 < clock_at calls shows
not_yet call calls shows (Writes place bytes) counts not_by = let lt : call < calls = leb-false calls call not_by in omega arith
not_yet call calls shows Syncs counts not_by = let lt : call < calls = leb-false calls call not_by in omega arith
not_yet call calls shows (Shows piece) counts not_by =
    let le : call ≤ calls = ltb-false calls call not_by in
    let some : 0 < shows = ltb-true 0 shows counts in
    omega arith

-- What a crash leaves of the state at a call is a moment since that call.
pub moment_at : (call : ℕ) (s : Medium) (cs : List Change) (image bytes : List ℕ) → IsTrue (list_all (λ c. is_counted c.shows c.deed) cs) → IsLeft (state_at s call cs) image bytes → Moment (call * 2 ^ 64) s cs image bytes
moment_at call s [] image bytes counts left = left
moment_at call s (c ∷ cs) image bytes counts left =
    let parts = and_parts (is_counted c.shows c.deed) (list_all (λ c. is_counted c.shows c.deed) cs) counts in
    by (had_happened call c) refl (moment_at call (after s c.deed) cs image bytes parts.1) parts.0 left
  where
    by : (had : Bool) → had_happened call c ≡ had → (IsLeft (state_at (after s c.deed) call cs) image bytes → Moment (call * 2 ^ 64) (after s c.deed) cs image bytes) → IsTrue (is_counted c.shows c.deed) → IsLeft (cond had (state_at (after s c.deed) call cs) s) image bytes → Moment (call * 2 ^ 64) s (c ∷ cs) image bytes
    by true is more counts left = inr (more left)
    by false is more counts left = inl (not_yet call c.calls c.shows c.deed counts is, left)

whole_at : (n call : ℕ) (s : Medium) (cs : List Change) → IsWhole n s → IsTrue (list_all (λ c. is_within n c.deed) cs) → IsWhole n (state_at s call cs)
whole_at n call s [] whole within = whole
whole_at n call s (c ∷ cs) whole within =
    let parts = and_parts (is_within n c.deed) (list_all (λ c. is_within n c.deed) cs) within in
    by (had_happened call c) whole (whole_at n call (after s c.deed) cs (whole_after n s c.deed whole parts.0) parts.1)
  where
    by : (had : Bool) → IsWhole n s → IsWhole n (state_at (after s c.deed) call cs) → IsWhole n (cond had (state_at (after s c.deed) call cs) s)
    by true before later = later
    by false before later = before

-- a picked image is one that a crash may leave
crashed_is : (pick : ℕ) (ws : List Unsynced) (synced : List ℕ) (n : ℕ) → IsTrue (list_all (λ w. nat_le (w.place + length w.bytes) n) ws) → ((image : List ℕ) → IsImage ws synced image → length image ≡ n) → IsImage ws synced (crashed pick ws synced)
crashed_is pick [] synced n fits len = refl
crashed_is pick (w ∷ ws) synced n fits len =
    let parts = and_parts (nat_le (w.place + length w.bytes) n) (list_all (λ w. nat_le (w.place + length w.bytes) n) ws) fits in
    let le : w.place + length w.bytes ≤ n = leb-true (w.place + length w.bytes) n parts.0 in
    let before = crashed pick ws synced in
    let lens = λ (image : List ℕ) (is : IsImage ws synced image). len image (image, is, torn_refl w.place (length w.bytes) image) in
    let is = crashed_is pick ws synced n parts.1 lens in
    let old = part w.place (length w.bytes) before in
    let room : w.place + length w.bytes ≤ length before = omega (arith, le, lens before is) in
    let same : length (picked pick w.place w.bytes old) ≡ length w.bytes =
    length-picked pick w.place w.bytes old (sym (length-part w.place (length w.bytes) before room)) in
    let fit : w.place + length (picked pick w.place w.bytes old) ≤ length before = omega (arith, room, same) in (
      before,
      is,
      subst (λ m. Torn w.place m before (put before w.place (picked pick w.place w.bytes old))) same
          (torn-put before w.place (picked pick w.place w.bytes old) fit),
    )

-- The image that a pick gives of the state at a call is a moment since that call.
pub moment_crashed : (s : Seen) (f : Faults) (call pick : ℕ) → IsTrue s.is_kept → IsSoundSeen s → (meaning s f).moments (call * 2 ^ 64) (crashed pick (state_at (fresh s.start) call s.changes).unsynced (state_at (fresh s.start) call s.changes).synced) (state_at (fresh s.start) call s.changes).shown
moment_crashed s f call pick kept sound =
    let state = state_at (fresh s.start) call s.changes in
    let whole = whole_at (length s.start) call (fresh s.start) s.changes (whole_fresh s.start) sound.within in (
      kept,
      moment_at call (fresh s.start) s.changes _ _ sound.counted
          (crashed_is pick state.unsynced state.synced (length s.start) whole.fits whole.images, refl),
    )
