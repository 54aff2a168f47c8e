-- A recovery, call by call: what is known of the disk before it writes, and how it ends.
use Rattle.std.proofs.Common.{◌≡◌, inl, inr, ℕ, ◌*◌, ◌<◌, ◌≤◌, ◌==◌, Bool, true, false, List, [], length, replicate, Option, Some, None, IsSomeAnd, IsTrue, Result, Ok, Err, IsErr, OnOk, refl, sym, ◌∙◌, ap, subst, arith, cond}
use Rattle.std.specs.List.{list_any, prefix_len}
use Rattle.std.proofs.lemmas.Bool.{false≢true}
use Rattle.lis_ports.specs.Meaning.{Meaning}
use Rattle.lis_ports.specs.Bytes.{put, Torn}
use Rattle.lis_ports.specs.Runs.{IsDiskRun, Leaves, Always, IsSettled}
use Rattle.lis_ports.specs.Calls.{Elapses, IsSynced}
use Rattle.lis_ports.proofs.Always.{always_settled}
use Rattle.lis_ports.proofs.Moments.{leaves_call, leaves_then, leaves_weaken}
use Rattle.lis_journal.specs.declared.layout.Layout.{Layout}
use Rattle.lis_journal.specs.Record.{homes_start, block, gates, is_open, has_open, open_count, behind_gates, gates_closed, HomeBlock, first_bad, all_recorded, behind, apply, bad_record, replayed, recovered_as, recovered}
use Rattle.lis_journal.specs.Journal.{records_of, no_records}
use Rattle.lis_journal.specs.Images.{look, StandsFor, StandsBut, IsAtRest, FitsAt, KeepsPast}
use Rattle.lis_journal.specs.Spreads.{Spreads, IsQuiet, SameAround}
use Rattle.lis_journal.specs.Phases.{Opened, IsOpened, Shut, IsLoaded, Closes}
use Rattle.lis_journal.specs.Recovery.{StandsForReplayed, InRecovery, LeftOrRecovering, Recovers}
use Rattle.lis_journal.proofs.Entries.{Within, block-apply, apply_alike}
use Rattle.lis_journal.proofs.Spreading.{leaves_both}
use Rattle.lis_journal.proofs.Gates.{all_closed, open_before, shut_first}
use Rattle.lis_journal.proofs.Series.{all_sound}
use Rattle.lis_journal.proofs.Phases.{replayed-good, replayed-bad, replayed-closed, shut_rest, some_and, stands_full, rest_stands}
use Rattle.lis_journal.proofs.Saving.{on_ok, others_stand, others_fit, around_past, gates_around}

-- ---- what the sync and the reads leave
-- So far the disk was synced and read: it reads as at the start, and a crash leaves that and nothing else.
pub record Reading (old m : Meaning) : Type 0 where
  pub honest : IsTrue m.is_honest
  pub reads : m.bytes ≡ old.bytes
  pub only : (image : List ℕ) → m.images image → image ≡ old.bytes
  pub within : (image : List ℕ) → m.images image → old.images image
  pub leaves : Leaves old m old.images

pub after_sync : {old m : Meaning} → IsTrue old.is_honest → IsDiskRun old m → Elapses old m → IsSynced old m → Reading old m
after_sync {old} {m} honest run time synced = record {
  honest = run.honest ∙ honest;
  reads = synced.bytes;
  only = λ image is. (synced.images.only image is).1;
  within = λ image is. (synced.images.only image is).0;
  leaves = leaves_call old.images run time (λ image is. (synced.images.only image is).0);
}

pub reading_on : {old m n : Meaning} → Reading old m → IsDiskRun m n → IsQuiet m n → Reading old n
reading_on {old} {m} {n} reading run quiet = record {
  honest = run.honest ∙ reading.honest;
  reads = quiet.bytes ∙ reading.reads;
  only = λ image is. reading.only image (quiet.images image is);
  within = λ image is. reading.within image (quiet.images image is);
  leaves = leaves_then reading.leaves (leaves_weaken old.images quiet.moments reading.within);
}

reading_settled : {old m : Meaning} → Reading old m → IsSettled m old.bytes
reading_settled reading = record { reads = reading.reads; only = reading.only }

-- ---- what a recovery makes of an image
pub recovered-closed : (layout : Layout) (image : List ℕ) → has_open image ≡ false → recovered layout image ≡ image
unfolding recovered
recovered-closed layout image none = ap (λ b. cond b (recovered_as image (replayed layout image)) image) none

recovered-none : (layout : Layout) (image : List ℕ) → has_open image ≡ true → replayed layout image ≡ None → recovered layout image ≡ image
unfolding recovered
recovered-none layout image some none =
    ap (λ b. cond b (recovered_as image (replayed layout image)) image) some ∙ ap (recovered_as image) none

recovered-some : (layout : Layout) (image replay : List ℕ) → has_open image ≡ true → replayed layout image ≡ Some replay → recovered layout image ≡ gates_closed (is_open 0 image) replay
unfolding recovered
recovered-some layout image replay some is =
    ap (λ b. cond b (recovered_as image (replayed layout image)) image) some ∙ ap (recovered_as image) is

-- ---- if no gate is open
pub quiet_recovers : {E : Type 0} (layout : Layout) {old m : Meaning} → homes_start layout < layout.blocks → 4096 * layout.blocks ≤ length old.bytes → Reading old m → has_open old.bytes ≡ false → Recovers {E = E} layout old m (Ok None)
quiet_recovers layout {old} {m} enough long reading none =
    let closed = all_closed old.bytes none in
    let rest = shut_rest layout (λ n. block n old.bytes) old.bytes enough (record { long = long; same = λ n out. refl }) (λ k lt. closed k) in
    let at = always_settled (IsAtRest layout no_records [] (λ n. block n old.bytes)) old.bytes (reading_settled reading) rest in
    record {
      moments = leaves_weaken _ reading.leaves (λ image is. inl is);
      images = λ image is. inl (reading.within image is);
      ended = some_and _ (replayed layout old.bytes) (replayed-closed layout old.bytes (omega (arith, enough, long)) (closed 0)) (record { honest = reading.honest; reads = at.reads; leaves = at.leaves });
      left = subst (IsSettled m) (sym (recovered-closed layout old.bytes none)) (reading_settled reading);
      past = λ n le. ap (block n) reading.reads;
      settled_past = λ settled n le. ap (block n) reading.reads;
    }

-- ---- if a record is malformed
pub bad_recovers : {E : Type 0} (layout : Layout) (b : ℕ) {old m : Meaning} → Reading old m → has_open old.bytes ≡ true → bad_record layout old.bytes ≡ Some b → Recovers {E = E} layout old m (Ok (Some b))
bad_recovers layout b {old} {m} reading some bad =
    let none = replayed-bad layout b old.bytes bad in
    record {
      moments = leaves_weaken _ reading.leaves (λ image is. inl is);
      images = λ image is. inl (reading.within image is);
      ended = (none, bad, reading_settled reading);
      left = subst (IsSettled m) (sym (recovered-none layout old.bytes some none)) (reading_settled reading);
      past = λ n le. ap (block n) reading.reads;
      settled_past = λ settled n le. ap (block n) reading.reads;
    }

-- ---- if a call failed before the first write
pub failed_recovers : {E : Type 0} (layout : Layout) {old m : Meaning} (result : Result (Option ℕ) E) → IsErr result → Reading old m → Recovers {E = E} layout old m result
failed_recovers layout (Ok x) failed reading = absurd (false≢true failed)
failed_recovers layout (Err e) failed reading = record {
  moments = leaves_weaken _ reading.leaves (λ image is. inl is);
  images = tt;
  ended = tt;
  left = tt;
  past = tt;
  settled_past = λ settled n le. ap (block n) reading.reads;
}

-- ---- closing the gates
module _ {layout : Layout} {count : ℕ} {latest : List HomeBlock} {m : Meaning} (loaded : IsLoaded layout count latest m) where
  loaded_full : 4096 * homes_start layout ≤ length m.bytes
  loaded_full = omega (arith, loaded.enough, loaded.long)

  replayed-loaded : replayed layout m.bytes ≡ Some (apply (all_recorded 2 count m.bytes) m.bytes)
  replayed-loaded = replayed-good layout count m.bytes loaded.counted loaded.form

  stands_replayed : (image : List ℕ) → StandsFor layout (λ n. block n (apply (all_recorded 2 count m.bytes) m.bytes)) image → StandsForReplayed layout m.bytes image
  stands_replayed image stands =
      some_and (λ r. StandsFor layout (λ n. block n r) image) (replayed layout m.bytes) replayed-loaded stands

  pub recovering : {n : Meaning} → Leaves m n (StandsFor layout (λ k. block k (apply (all_recorded 2 count m.bytes) m.bytes))) → Spreads m n (SameAround layout) → Leaves m n (InRecovery layout m.bytes)
  recovering stands around =
      leaves_weaken _ (leaves_both stands around.moments) (λ image is. record {
        opened = loaded.opened;
        stands = stands_replayed image is.0;
        rest = is.1.2.rest ∙ ap (behind_gates layout) (loaded.settled.only is.1.0 is.1.1);
      })

  pub recovering_images : {n : Meaning} → FitsAt layout no_records [] n (λ k. block k (apply (all_recorded 2 count m.bytes) m.bytes)) → Spreads m n (SameAround layout) → (image : List ℕ) → n.images image → InRecovery layout m.bytes image
  recovering_images fits around image is =
      let was = around.images image is in
      record {
        opened = loaded.opened;
        stands = stands_replayed image (stands_full layout _ image (rest_stands layout no_records [] _ image (fits.leaves image is)));
        rest = was.2.rest ∙ ap (behind_gates layout) (loaded.settled.only was.0 was.1);
      }

  -- with the records that a checkpoint writes to their homes
  loaded_holds : Opened layout (records_of count (behind 2 count m.bytes) latest) [] (λ k. block k (apply (all_recorded 2 count m.bytes) m.bytes)) m.bytes
  loaded_holds =
      let sound = all_sound layout 2 count m.bytes loaded_full loaded.form in
      record {
        holds = record {
          enough = loaded.enough;
          long = loaded.long;
          form = loaded.form;
          ends = refl;
          latest = loaded.latest_is;
          same = λ n out not_in.
              sym (loaded.latest_is n (block n m.bytes)) ∙ sym (block-apply layout.blocks (all_recorded 2 count m.bytes) m.bytes n sound.within loaded.long);
        };
        counted = loaded.counted;
      }

  pub loaded_opened : 0 < count → IsOpened layout (records_of count (behind 2 count m.bytes) latest) [] m (λ k. block k (apply (all_recorded 2 count m.bytes) m.bytes))
  loaded_opened some = record {
    honest = loaded.honest;
    some = some;
    reads = loaded_holds;
    leaves = λ image is. subst (Opened layout (records_of count (behind 2 count m.bytes) latest) [] (λ k. block k (apply (all_recorded 2 count m.bytes) m.bytes))) (sym (loaded.settled.only image is)) loaded_holds;
  }

  checkpoint_left : 0 < count → Within layout.blocks latest → gates_closed true (apply latest m.bytes) ≡ recovered layout m.bytes
  checkpoint_left some within =
      let sound = all_sound layout 2 count m.bytes loaded_full loaded.form in
      let first : is_open 0 m.bytes ≡ true = open_before m.bytes 0 (omega (arith, some, loaded.counted)) in
      let same : apply latest m.bytes ≡ apply (all_recorded 2 count m.bytes) m.bytes =
      sym (apply_alike layout.blocks (all_recorded 2 count m.bytes) latest m.bytes sound.within within loaded.long loaded.latest_is) in
      ap (gates_closed true) same
      ∙ (ap (λ b. gates_closed b (apply (all_recorded 2 count m.bytes) m.bytes)) (sym first)
      ∙ sym (recovered-some layout m.bytes (apply (all_recorded 2 count m.bytes) m.bytes) loaded.opened replayed-loaded))

  pub checkpoint_closes : {T E : Type 0} {n : Meaning} (result : Result T E) → 0 < count → Within layout.blocks latest → ((c next : ℕ) (placed : List ℕ) (kept : ℕ → List ℕ) → IsOpened layout (records_of c next latest) placed m kept → Leaves m n (StandsBut layout placed kept)) → OnOk result ((c next : ℕ) (placed : List ℕ) (kept : ℕ → List ℕ) → IsOpened layout (records_of c next latest) placed m kept → FitsAt layout no_records [] n kept) → (IsTrue m.is_honest → Spreads m n (SameAround layout)) → OnOk result (IsTrue m.is_honest → IsSettled n (gates_closed true (apply latest m.bytes))) → Closes layout count m n result
  checkpoint_closes {n = n} result some within moments keeps around settled =
      let kept : ℕ → List ℕ = λ k. block k (apply (all_recorded 2 count m.bytes) m.bytes) in
      let opened = loaded_opened some in
      let next = behind 2 count m.bytes in
      record {
        moments = recovering (leaves_weaken _ (moments count next [] kept opened) (λ image stands. stands_full layout kept image stands)) (around loaded.honest);
        images = on_ok result (λ fits. recovering_images (fits count next [] kept opened) (around loaded.honest)) keeps;
        fits = on_ok result (λ fits. fits count next [] kept opened) keeps;
        left = on_ok result (λ left. subst (IsSettled n) (checkpoint_left some within) (left loaded.honest)) settled;
        past = around_past (around loaded.honest);
      }

  -- gate 0 is closed, and only others are open
  loaded_shut : count ≡ 0 → Always m (Shut layout (λ k. block k (apply (all_recorded 2 count m.bytes) m.bytes)))
  loaded_shut none = always_settled (Shut layout (λ k. block k (apply (all_recorded 2 count m.bytes) m.bytes))) m.bytes loaded.settled (record {
    enough = loaded.enough;
    closed = shut_first m.bytes (omega (arith, loaded_full)) (loaded.counted ∙ none);
    keeps = record { long = loaded.long; same = λ n out. ap (λ c. block n (apply (all_recorded 2 c m.bytes) m.bytes)) (sym none) };
  })

  others_left : count ≡ 0 → put m.bytes 4097 (replicate 63 0) ≡ recovered layout m.bytes
  unfolding gates_closed
  others_left none =
      let closed : is_open 0 m.bytes ≡ false = shut_first m.bytes (omega (arith, loaded_full)) (loaded.counted ∙ none) in
      ap (λ c. put (apply (all_recorded 2 c m.bytes) m.bytes) 4097 (replicate 63 0)) (sym none)
      ∙ (ap (λ b. gates_closed b (apply (all_recorded 2 count m.bytes) m.bytes)) (sym closed)
      ∙ sym (recovered-some layout m.bytes (apply (all_recorded 2 count m.bytes) m.bytes) loaded.opened replayed-loaded))

  pub others_close : {T E : Type 0} {n : Meaning} (result : Result T E) → count ≡ 0 → IsDiskRun m n → (IsTrue m.is_honest → Spreads m n (Torn 4097 63)) → OnOk result (IsTrue m.is_honest → IsSettled n (put m.bytes 4097 (replicate 63 0))) → Closes layout count m n result
  others_close {n = n} result none run spreads settled =
      let shut = loaded_shut none in
      let torn = spreads loaded.honest in
      let around = gates_around layout loaded.enough 4097 63 (omega arith) torn in
      record {
        moments = recovering (others_stand shut torn) around;
        images = on_ok result (λ left. recovering_images (others_fit (run.honest ∙ loaded.honest) shut (left loaded.honest)) around) settled;
        fits = on_ok result (λ left. others_fit (run.honest ∙ loaded.honest) shut (left loaded.honest)) settled;
        left = on_ok result (λ left. subst (IsSettled n) (others_left none) (left loaded.honest)) settled;
        past = around_past around;
      }

  -- ---- and so a recovery ends
  close_leaves : {T E : Type 0} {old n : Meaning} {result : Result T E} → Reading old m → Closes layout count m n result → Leaves old n (LeftOrRecovering layout old)
  close_leaves {old = old} reading closes =
      leaves_then (leaves_weaken _ reading.leaves (λ image is. inl is))
      (leaves_weaken _ closes.moments (λ image is. inr (subst (λ bytes. InRecovery layout bytes image) reading.reads is)))

  close_past : {T E : Type 0} {old n : Meaning} {result : Result T E} → Reading old m → Closes layout count m n result → KeepsPast layout.blocks old n
  close_past {old = old} {n = n} reading closes k le =
      let was = closes.past.reads in
      let from : was.0 ≡ old.bytes = elim was.1 as (λ _. was.0 ≡ old.bytes) [
        | inl image ↦ reading.only was.0 image
        | inr same ↦ same ∙ reading.reads
      ] in
      was.2 k le ∙ ap (block k) from

  pub close_failed : {T E F : Type 0} {old n : Meaning} {closed : Result T E} (result : Result (Option ℕ) F) → IsErr result → Reading old m → Closes layout count m n closed → Recovers {E = F} layout old n result
  close_failed (Ok x) failed reading closes = absurd (false≢true failed)
  close_failed (Err e) failed reading closes = record {
    moments = close_leaves reading closes;
    images = tt;
    ended = tt;
    left = tt;
    past = tt;
    settled_past = λ settled. close_past reading closes;
  }

  pub close_done : {T E F : Type 0} {old n : Meaning} {x : T} → Reading old m → Closes {E = E} layout count m n (Ok x) → Recovers {E = F} layout old n (Ok None)
  close_done {n = n} reading closes = record {
    moments = close_leaves reading closes;
    images = λ image is. inr (subst (λ bytes. InRecovery layout bytes image) reading.reads (closes.images image is));
    ended = subst (λ bytes. IsSomeAnd (replayed layout bytes) (λ r. FitsAt layout no_records [] n (λ k. block k r))) reading.reads
        (some_and (λ r. FitsAt layout no_records [] n (λ k. block k r)) (replayed layout m.bytes) replayed-loaded closes.fits);
    left = subst (λ bytes. IsSettled n (recovered layout bytes)) reading.reads closes.left;
    past = close_past reading closes;
    settled_past = λ settled. close_past reading closes;
  }

-- ---- what was read
-- after all records are read
pub loaded_from : {layout : Layout} {count : ℕ} {latest : List HomeBlock} {old m : Meaning} (bytes : List ℕ) → Reading old m → homes_start layout < layout.blocks → 4096 * layout.blocks ≤ length old.bytes → has_open old.bytes ≡ true → open_count old.bytes ≡ count → bytes ≡ old.bytes → None ≡ first_bad layout 2 count bytes → ((n : ℕ) (was : List ℕ) → look (all_recorded 2 count bytes) n was ≡ look latest n was) → IsLoaded layout count latest m
loaded_from {layout} {count} {latest} {old} {m} bytes reading enough long opened counted is form latest_is =
    let same : bytes ≡ m.bytes = is ∙ sym reading.reads in
    record {
      honest = reading.honest;
      opened = ap has_open reading.reads ∙ opened;
      settled = record { reads = refl; only = λ image i. reading.only image i ∙ sym reading.reads };
      enough = enough;
      long = omega (arith, long, ap length reading.reads);
      counted = ap open_count reading.reads ∙ counted;
      form = ap (first_bad layout 2 count) (sym same) ∙ sym form;
      latest_is = λ n was. ap (λ xs. look (all_recorded 2 count xs) n was) (sym same) ∙ latest_is n was;
    }

-- What is known once the gates are read.
pub record Gated (old s : Meaning) (found : List ℕ) (any : Bool) : Type 0 where
  pub synced : Reading old s
  pub opened : has_open old.bytes ≡ any
  pub found_are : found ≡ gates old.bytes

pub gates_read : {old s : Meaning} {found : List ℕ} {read any : Bool} → Reading old s → (IsTrue s.is_honest → found ≡ gates s.bytes) → read ≡ list_any (λ gate. gate == 1) found → read ≡ any → Gated old s found any
gates_read {old} {s} synced found_is read_is any_is =
    let found_are = found_is synced.honest ∙ ap gates synced.reads in
    record {
      synced = synced;
      opened = ap (list_any (λ gate. gate == 1)) (sym found_are) ∙ (sym read_is ∙ any_is);
      found_are = found_are;
    }

pub gates_counted : {old s : Meaning} {found : List ℕ} {any : Bool} {count : ℕ} → Gated old s found any → count ≡ prefix_len (λ gate. gate == 1) found → open_count old.bytes ≡ count
unfolding open_count
gates_counted gated counted = ap (prefix_len (λ gate. gate == 1)) (sym gated.found_are) ∙ sym counted

pub bad_found : (layout : Layout) (count : ℕ) {b : ℕ} {found : Option ℕ} (bytes old : List ℕ) → open_count old ≡ count → bytes ≡ old → found ≡ Some b → found ≡ first_bad layout 2 count bytes → bad_record layout old ≡ Some b
unfolding bad_record
bad_found layout count bytes old counted is found_is found =
    ap (λ n. first_bad layout 2 n old) counted ∙ (ap (first_bad layout 2 count) (sym is) ∙ (sym found ∙ found_is))
