-- A journal's open records over a disk, by the log of them that a contract sees.
use Rattle.std.proofs.Common.{◌≡◌, ◌⊎◌, inl, inr, ℕ, zero, suc, ◌+◌, ◌*◌, ◌<◌, ◌≤◌, ◌==◌, Bool, true, false, cond, List, [], ◌∷◌, ◌++◌, length, take, drop, length-append, length-drop, append_assoc, refl, sym, ◌∙◌, ap, subst, arith}
use Rattle.std.specs.List.{range_with_len}
use Rattle.std.proofs.lemmas.Bool.{eqb-true, cases_lt}
use Rattle.std.proofs.lemmas.List.{length-take-le, append-nil, take-append-drop, take_at, drop_at, drop-drop}
use Rattle.lis_ports.specs.Meaning.{Meaning}
use Rattle.lis_ports.specs.Bytes.{put, Torn}
use Rattle.lis_ports.specs.Runs.{IsDiskRun, Leaves}
use Rattle.lis_ports.specs.Calls.{Elapses, IsTorn, IsWritten}
use Rattle.lis_ports.proofs.Moments.{leaves_call, leaves_then, leaves_weaken}
use Rattle.lis_ports.proofs.Parts.{Apart, part-torn, torn-put}
use Rattle.lis_journal.specs.declared.layout.Layout.{Layout}
use Rattle.lis_journal.specs.Record.{homes_start, block, HomeBlock}
use Rattle.lis_journal.specs.Journal.{OpenRecords}
use Rattle.lis_journal.specs.Images.{IsOutside, StandsBut, StandsForAllOrNone, is_among, look, IsAtRest, FitsAt, with_kept, with_run}
use Rattle.lis_journal.specs.Staging.{has_entry, HasNone}
use Rattle.lis_journal.specs.Spreads.{SamePast}
use Rattle.lis_journal.specs.Phases.{IsOpened, looked}
use Rattle.lis_journal.proofs.Entries.{block-put, look-absent}
use Rattle.lis_journal.proofs.Runs.{among_head, among_parts, run_other}
use Rattle.lis_journal.proofs.Gates.{gate-torn}
use Rattle.lis_journal.proofs.Phases.{holds_from, next_high, rest_opened, rest_stands, stands_less, rest_placed}

pub fits_opened : {layout : Layout} {records : OpenRecords} {placed : List ℕ} {m : Meaning} {kept : ℕ → List ℕ} → 0 < records.count → FitsAt layout records placed m kept → IsOpened layout records placed m kept
fits_opened some fits = record {
  honest = fits.honest;
  some = some;
  reads = rest_opened fits.reads;
  leaves = λ image is. rest_opened (fits.leaves image is);
}

-- what fits with no block placed fits with any blocks placed
pub fits_placed : {layout : Layout} {records : OpenRecords} {m : Meaning} {kept : ℕ → List ℕ} (placed : List ℕ) → FitsAt layout records [] m kept → FitsAt layout records placed m kept
fits_placed placed fits = record {
  honest = fits.honest;
  reads = fits.reads;
  leaves = λ image is. rest_placed placed (fits.leaves image is);
}

-- ---- two calls in sequence
pub save_moments : {a b c : Meaning} (layout : Layout) (placed : List ℕ) (kept : ℕ → List ℕ) (es : List HomeBlock) → Leaves a b (StandsBut layout placed kept) → Leaves b c (StandsForAllOrNone layout placed kept es) → Leaves a c (StandsForAllOrNone layout placed kept es)
save_moments layout placed kept es one two = leaves_then (leaves_weaken _ one (λ image stands. inl stands)) two

pub saving_moments : {a b : Meaning} (layout : Layout) (placed : List ℕ) (kept : ℕ → List ℕ) (es : List HomeBlock) → Leaves a b (StandsBut layout placed kept) → Leaves a b (StandsForAllOrNone layout placed kept es)
saving_moments layout placed kept es one = leaves_weaken _ one (λ image stands. inl stands)

pub more_stands : {a b : Meaning} (layout : Layout) (placed : List ℕ) (kept : ℕ → List ℕ) (run : List ℕ) → Leaves a b (StandsBut layout placed kept) → Leaves a b (StandsBut layout (run ++ placed) kept)
more_stands layout placed kept run leaves =
    leaves_weaken _ leaves (λ image. stands_less layout placed (run ++ placed) kept image (λ m e. (among_parts run placed m e).1))

-- ---- blocks that are placed
-- home blocks that no open record has may be torn
placed_torn : {layout : Layout} {records : OpenRecords} {placed : List ℕ} {kept : ℕ → List ℕ} {from : List ℕ} (n len : ℕ) (others : List ℕ) (now : ℕ → List ℕ) (image : List ℕ) → homes_start layout ≤ n → IsAtRest layout records placed kept from → Torn (4096 * n) len from image → ((m : ℕ) → IsOutside layout m → is_among others m ≡ false → look records.latest m (block m image) ≡ now m) → IsAtRest layout records others now image
placed_torn {records = records} {from = from} n len others now image home rest torn looks =
    let high = next_high rest.holds in
    record {
      few = rest.few;
      holds = holds_from others now image rest.holds torn.len
          (λ j le lt. part-torn (4096 * n) len from image torn (4096 * j) 4096 (inl (omega (arith, lt, high, home)))) looks;
      gates = λ k lt. gate-torn (4096 * n) len from image torn k lt (inl (omega (arith, home, lt))) ∙ rest.gates k lt;
    }

-- a block that is none of a run is before it or after it
outside_run : (n count m : ℕ) → is_among (range_with_len n count) m ≡ false → (m < n) ⊎ (n + count ≤ m)
outside_run n zero m out = elim (cases_lt m n) as (λ _. (m < n) ⊎ (n + 0 ≤ m)) [ inl lt ↦ inl lt | inr le ↦ inr (omega (arith, le)) ]
outside_run n (suc count) m out =
    let parts = among_head n m (range_with_len (n + 1) count) out in
    elim (outside_run (n + 1) count m parts.1) as (λ _. (m < n) ⊎ (n + suc count ≤ m)) [
      | inl lt ↦ inl (omega (arith, lt, parts.0))
      | inr le ↦ inr (omega (arith, le))
    ]

other_block : (n count m : ℕ) (from image : List ℕ) → is_among (range_with_len n count) m ≡ false → Torn (4096 * n) (4096 * count) from image → block m image ≡ block m from
other_block n count m from image out torn =
    part-torn (4096 * n) (4096 * count) from image torn (4096 * m) 4096 (elim (outside_run n count m out) as (λ _. Apart (4096 * n) (4096 * count) (4096 * m) 4096) [
      | inl lt ↦ inl (omega (arith, lt))
      | inr le ↦ inr (omega (arith, le))
    ])

torn_rest : {layout : Layout} {records : OpenRecords} {placed : List ℕ} {kept : ℕ → List ℕ} {from : List ℕ} (n count : ℕ) (image : List ℕ) → homes_start layout ≤ n → IsAtRest layout records placed kept from → Torn (4096 * n) (4096 * count) from image → IsAtRest layout records (range_with_len n count ++ placed) kept image
torn_rest {records = records} {placed = placed} {kept = kept} {from = from} n count image home rest torn =
    placed_torn n (4096 * count) (range_with_len n count ++ placed) kept image home rest torn (λ m out not_in.
    let parts = among_parts (range_with_len n count) placed m not_in in
    ap (look records.latest m) (other_block n count m from image parts.0 torn) ∙ rest.holds.same m out parts.1)

-- the blocks that are kept, if they are placed
torn_kept : {layout : Layout} {records : OpenRecords} {kept : ℕ → List ℕ} {image : List ℕ} (placed : List ℕ) (n count : ℕ) (bytes : List ℕ) → IsAtRest layout records (range_with_len n count ++ placed) kept image → IsAtRest layout records (range_with_len n count ++ placed) (with_run n count bytes kept) image
torn_kept {kept = kept} placed n count bytes rest = record {
  few = rest.few;
  holds = record {
    enough = rest.holds.enough;
    long = rest.holds.long;
    form = rest.holds.form;
    ends = rest.holds.ends;
    latest = rest.holds.latest;
    same = λ m out not_in.
        let parts = among_parts (range_with_len n count) placed m not_in in
        rest.holds.same m out not_in ∙ sym (run_other n count bytes kept m parts.0);
  };
  gates = rest.gates;
}

written_rest : {layout : Layout} {records : OpenRecords} {kept : ℕ → List ℕ} {from : List ℕ} (n : ℕ) (bytes : List ℕ) → homes_start layout ≤ n → n < layout.blocks → length bytes ≡ 4096 → has_entry records.latest n ≡ false → IsAtRest layout records [] kept from → IsAtRest layout records [] (with_kept n bytes kept) (put from (4096 * n) bytes)
written_rest {layout} {records} {kept} {from} n bytes home within whole free rest =
    let long : 4096 * n + 4096 ≤ length from = omega (arith, within, rest.holds.long) in
    let fits : 4096 * n + length bytes ≤ length from = omega (arith, long, whole) in
    placed_torn n 4096 [] (with_kept n bytes kept) (put from (4096 * n) bytes) home rest
    (subst (λ len. Torn (4096 * n) len from (put from (4096 * n) bytes)) whole (torn-put from (4096 * n) bytes fits))
    (λ m out not_in. ap (look records.latest m) (block-put m n bytes from whole long) ∙ by m out (m == n) refl)
  where
    by : (m : ℕ) → IsOutside layout m → (b : Bool) → (m == n) ≡ b → look records.latest m (cond b bytes (block m from)) ≡ cond b bytes (kept m)
    by m out true is = look-absent records.latest m bytes (subst (λ k. has_entry records.latest k ≡ false) (sym (eqb-true m n is)) free)
    by m out false is = rest.holds.same m out refl

put_none : (from : List ℕ) (at : ℕ) (bytes : List ℕ) → length bytes ≡ 0 → from ≡ put from at bytes
unfolding put
put_none from at [] none =
    let same : at + 0 ≡ at = omega arith in
    sym (ap (λ xs. xs ++ drop (at + 0) from) (append-nil (take at from)) ∙ ap (λ k. take at from ++ drop k from) same ∙ take-append-drop at from)
put_none from at (b ∷ bytes) none = absurd (omega (arith, none))

-- a write of the first bytes, and then of those after them, is a write of both
put_two : (at : ℕ) (front behind from : List ℕ) → at ≤ length from → put (put from at front) (at + length front) behind ≡ put from at (front ++ behind)
unfolding put
put_two at front behind from within =
    ap (λ xs. (xs ++ behind) ++ drop (seam + length behind) (written ++ rest)) (take_at written rest seam wide)
    ∙ (ap (λ xs. (written ++ behind) ++ xs) last ∙ ap (λ xs. xs ++ drop (at + length (front ++ behind)) from) (append_assoc (take at from) front behind))
  where
    seam : ℕ
    seam = at + length front

    written : List ℕ
    written = take at from ++ front

    rest : List ℕ
    rest = drop seam from

    wide : length written ≡ seam
    wide = length-append (take at from) front ∙ ap (λ k. k + length front) (length-take-le at from within)

    sum : seam + length behind ≡ at + length (front ++ behind)
    sum = omega (arith, length-append front behind)

    last : drop (seam + length behind) (written ++ rest) ≡ drop (at + length (front ++ behind)) from
    last =
        sym (drop-drop (length behind) seam (written ++ rest))
        ∙ (ap (drop (length behind)) (drop_at written rest seam wide) ∙ (drop-drop (length behind) seam from ∙ ap (λ k. drop k from) sum))

put_parts : (n : ℕ) (bytes from : List ℕ) → 4096 * n + 4096 ≤ length from → 4096 ≤ length bytes → put (put from (4096 * n) (take 4096 bytes)) (4096 * (n + 1)) (drop 4096 bytes) ≡ put from (4096 * n) bytes
put_parts n bytes from long wide =
    let next : 4096 * (n + 1) ≡ 4096 * n + length (take 4096 bytes) = omega (arith, length-take-le 4096 bytes wide) in
    ap (λ k. put (put from (4096 * n) (take 4096 bytes)) k (drop 4096 bytes)) next
    ∙ (put_two (4096 * n) (take 4096 bytes) (drop 4096 bytes) from (omega (arith, long)) ∙ ap (put from (4096 * n)) (take-append-drop 4096 bytes))

written_run : {layout : Layout} {records : OpenRecords} (n count : ℕ) (bytes : List ℕ) (kept : ℕ → List ℕ) (from : List ℕ) → homes_start layout ≤ n → n + count ≤ layout.blocks → length bytes ≡ 4096 * count → HasNone records.latest n count → IsAtRest layout records [] kept from → IsAtRest layout records [] (with_run n count bytes kept) (put from (4096 * n) bytes)
written_run {layout} {records} n zero bytes kept from home within whole free rest = subst (IsAtRest layout records [] kept) (put_none from (4096 * n) bytes whole) rest
written_run {layout} {records} n (suc count) bytes kept from home within whole free rest =
    let wide : 4096 ≤ length bytes = omega (arith, whole) in
    let first : length (take 4096 bytes) ≡ 4096 = length-take-le 4096 bytes wide in
    let others : length (drop 4096 bytes) ≡ 4096 * count = omega (arith, length-drop 4096 bytes, whole) in
    subst (IsAtRest layout records [] (with_run n (suc count) bytes kept)) (put_parts n bytes from (omega (arith, within, rest.holds.long)) wide)
    (written_run (n + 1) count (drop 4096 bytes) (with_kept n (take 4096 bytes) kept) (put from (4096 * n) (take 4096 bytes)) (omega (arith, home)) (omega (arith, within)) others (λ m le lt. free m (omega (arith, le)) (omega (arith, lt)))
    (written_rest n (take 4096 bytes) home (omega (arith, within)) first (free n (omega arith) (omega arith)) rest))

place_torn : (n count at len : ℕ) → at ≡ 4096 * n → len ≡ 4096 * count → (from image : List ℕ) → Torn at len from image → Torn (4096 * n) (4096 * count) from image
place_torn n count at len at_is len_is from image torn = subst (λ p. Torn p (4096 * count) from image) at_is (subst (λ l. Torn at l from image) len_is torn)

-- a write of home blocks leaves what follows the image
pub home_past : (layout : Layout) (n count at len : ℕ) → n + count ≤ layout.blocks → at ≡ 4096 * n → len ≡ 4096 * count → (from image : List ℕ) → Torn at len from image → SamePast layout.blocks from image
home_past layout n count at len within at_is len_is from image torn = λ k le.
    part-torn at len from image torn (4096 * k) 4096 (inr (omega (arith, at_is, len_is, within, le)))

module _ {layout : Layout} {records : OpenRecords} {placed : List ℕ} {kept : ℕ → List ℕ} {a b : Meaning} (n count at len : ℕ) (home : homes_start layout ≤ n) (at_is : at ≡ 4096 * n) (len_is : len ≡ 4096 * count) (fits : FitsAt layout records placed a kept) where
  pub place_moments : IsDiskRun a b → Elapses a b → IsTorn at len a b → Leaves a b (StandsBut layout (range_with_len n count ++ placed) kept)
  place_moments run time torn = leaves_call _ run time (λ image is.
      let was = torn.only image is in
      rest_stands layout records (range_with_len n count ++ placed) kept image (torn_rest n count image home (fits.leaves was.0 was.1) (place_torn n count at len at_is len_is was.0 image was.2)))

  pub placed_fits : (bytes : List ℕ) → n + count ≤ layout.blocks → length bytes ≡ 4096 * count → HasNone records.latest n count → IsDiskRun a b → IsTorn at len a b → IsWritten at bytes a b → FitsAt layout records (range_with_len n count ++ placed) b (with_run n count bytes kept)
  placed_fits bytes within whole free run torn written = record {
    honest = run.honest ∙ fits.honest;
    reads = subst (IsAtRest layout records [] (with_run n count bytes kept)) (sym (written.reads ∙ ap (λ p. put a.bytes p bytes) at_is)) (written_run n count bytes kept a.bytes home within whole free fits.reads);
    leaves = λ image is.
        let was = torn.only image is in
        torn_kept placed n count bytes (torn_rest n count image home (fits.leaves was.0 was.1) (place_torn n count at len at_is len_is was.0 image was.2));
  }

-- the order in which blocks were placed, and how often, makes no difference to the images
pub fits_among : {layout : Layout} {records : OpenRecords} {m : Meaning} {kept : ℕ → List ℕ} (placed others : List ℕ) → ((n : ℕ) → is_among others n ≡ false → is_among placed n ≡ false) → FitsAt layout records placed m kept → FitsAt layout records others m kept
fits_among {layout} {records} {m} {kept} placed others less fits = record {
  honest = fits.honest;
  reads = fits.reads;
  leaves = λ image is. let rest = fits.leaves image is in record {
    few = rest.few;
    holds = record {
      enough = rest.holds.enough;
      long = rest.holds.long;
      form = rest.holds.form;
      ends = rest.holds.ends;
      latest = rest.holds.latest;
      same = λ n out not_in. rest.holds.same n out (less n not_in);
    };
    gates = rest.gates;
  };
}

-- ---- one more record, by the log
pub append_moments : {a b : Meaning} {layout now : Layout} {records now_records : OpenRecords} (es : List HomeBlock) → layout ≡ now → records ≡ now_records → ((placed : List ℕ) (kept : ℕ → List ℕ) → FitsAt layout records placed a kept → Leaves a b (StandsForAllOrNone layout placed kept es)) → (placed : List ℕ) (kept : ℕ → List ℕ) → FitsAt now now_records placed a kept → Leaves a b (StandsForAllOrNone now placed kept es)
append_moments {a} {b} {now = now} {records = records} es blocks_are records_are moments =
    subst (λ (r : OpenRecords). (placed : List ℕ) (kept : ℕ → List ℕ) → FitsAt now r placed a kept → Leaves a b (StandsForAllOrNone now placed kept es)) records_are
    (subst (λ n. (placed : List ℕ) (kept : ℕ → List ℕ) → FitsAt n records placed a kept → Leaves a b (StandsForAllOrNone n placed kept es)) blocks_are moments)

pub append_kept : {a b : Meaning} {layout now then : Layout} {records now_records last then_records : OpenRecords} (es : List HomeBlock) → layout ≡ now → layout ≡ then → records ≡ now_records → last ≡ then_records → ((placed : List ℕ) (kept : ℕ → List ℕ) → FitsAt layout records placed a kept → FitsAt layout last [] b (looked es kept)) → (placed : List ℕ) (kept : ℕ → List ℕ) → FitsAt now now_records placed a kept → FitsAt then then_records [] b (looked es kept)
append_kept {a} {b} {layout} {then = then} {now_records = now_records} {last = last} es blocks_are blocks_then records_are last_is keeps = λ placed kept fits.
    let back = subst (λ n. FitsAt n now_records placed a kept) (sym blocks_are) fits in
    subst (λ (r : OpenRecords). FitsAt then r [] b (looked es kept)) last_is
    (subst (λ n. FitsAt n last [] b (looked es kept)) blocks_then
    (keeps placed kept (subst (λ (r : OpenRecords). FitsAt layout r placed a kept) (sym records_are) back)))
