-- Images whose first gate is closed: after a recovery, and if bytes before the gates change.
use Rattle.std.proofs.Common.{rules}
use Rattle.std.proofs.Common.{get_or-take}
use Rattle.lis_open.proofs.Common.{◌≡◌, refl, sym, ap, ◌∙◌, subst, ℕ, ◌+◌, ◌*◌, ◌<◌, ◌≤◌, ◌==◌, Bool, true, false, cond, Option, Some, IsSomeAnd, List, [], ◌∷◌, length, get_or, replicate, inl, inr, arith, length-append, length-drop, length-take, list_any, part, Torn, part-torn, part-put, block, Keeps}
use Rattle.lis_ports.specs.Bytes.{put}
use Rattle.std.proofs.lemmas.Bool.{or_parts}
use Rattle.std.proofs.lemmas.List.Sums.{prefix_len_is}
use Rattle.lis_ports.proofs.Parts.{part-put_other}
use Rattle.lis_journal.specs.Record.{gates, is_open, has_open, open_count, all_recorded, apply, bad_record, gates_closed, recovered_as, replayed, recovered}
use Rattle.lis_journal.specs.Images.{StandsFor}
use Rattle.lis_journal.proofs.Fitting.{replayed_parts}
use Rattle.lis_journal.specs.declared.layout.Layout.{Layout}

-- ---- the first gate
first_gate : (image : List ℕ) → is_open 0 image ≡ (get_or (part 4096 1 image) 0 0 == 1)
first_gate image = search (rules, get_or-take)

none_first : (gates_are : List ℕ) → list_any (λ gate. gate == 1) gates_are ≡ false → (get_or gates_are 0 0 == 1) ≡ false
none_first [] none = refl
none_first (gate ∷ rest) none = (or_parts (gate == 1) (list_any (λ g. g == 1) rest) none).0

-- if the first gate is closed no record is open
none_open : (image : List ℕ) → is_open 0 image ≡ false → open_count image ≡ 0
unfolding open_count
none_open image shut = prefix_len_is (λ gate. gate == 1) (gates image) 0 0 (omega arith) (λ k lt. absurd (omega arith)) (λ lt. shut)

-- and the image is its own replayed image
pub shut_replays : (layout : Layout) (image : List ℕ) → is_open 0 image ≡ false → replayed layout image ≡ Some image
unfolding replayed bad_record
shut_replays layout image shut = search (rules, none_open)

-- ---- what it keeps
pub shut_keeps : (layout : Layout) (kept : ℕ → List ℕ) (image : List ℕ) → is_open 0 image ≡ false → StandsFor layout kept image → Keeps layout kept image
unfolding StandsFor
shut_keeps layout kept image shut stands = subst (λ (o : Option (List ℕ)). IsSomeAnd o (Keeps layout kept)) (shut_replays layout image shut) stands.1

pub shut_stands : (layout : Layout) (image : List ℕ) → is_open 0 image ≡ false → 4096 * layout.blocks ≤ length image → StandsFor layout (λ n. block n image) image
unfolding StandsFor
shut_stands layout image shut long = search (rules, shut_replays)

-- what is torn before the gates leaves them as they are
pub shut_torn : (at n : ℕ) (from image : List ℕ) → at + n ≤ 4096 → Torn at n from image → is_open 0 from ≡ false → is_open 0 image ≡ false
shut_torn at n from image low torn shut =
    ap (λ (gate : List ℕ). get_or gate 0 0 == 1) (part-torn at n from image torn 4096 64 (inr low)) ∙ shut

-- ---- after a recovery
-- if the image is longer than the end of what was put into it, the image before was long enough too
put_long : (xs : List ℕ) (at : ℕ) (bytes : List ℕ) → at + length bytes < length (put xs at bytes) → at + length bytes ≤ length xs
unfolding put
put_long xs at bytes long = search (rules, length-append, length-take, length-drop)

rest_closed : (image : List ℕ) → 4160 < length (put image 4097 (replicate 63 0)) → (4160 ≤ length image) × (is_open 0 (put image 4097 (replicate 63 0)) ≡ is_open 0 image)
rest_closed image long =
    let le : 4097 + length {A = ℕ} (replicate 63 0) ≤ length image = put_long image 4097 (replicate 63 0) long in (
      le,
      first_gate (put image 4097 (replicate 63 0))
          ∙ (ap (λ (gate : List ℕ). get_or gate 0 0 == 1) (part-put_other image 4097 (replicate 63 0) le 4096 1 (inl (omega arith))) ∙ sym (first_gate image)),
    )

closed_first : (layout : Layout) (image replay : List ℕ) → replayed layout image ≡ Some replay → (first : Bool) → is_open 0 image ≡ first → 4160 < length (gates_closed first replay)
    → is_open 0 (gates_closed first replay) ≡ false
unfolding gates_closed
closed_first layout image replay replays true is long =
    let first = put replay 4096 (0 ∷ []) in
    let rest = rest_closed first long in
    let le : 4097 ≤ length replay = put_long replay 4096 (0 ∷ []) (omega (arith, rest.0)) in
    rest.1 ∙ (first_gate first ∙ ap (λ (gate : List ℕ). get_or gate 0 0 == 1) (part-put replay 4096 (0 ∷ []) le))
closed_first layout image replay replays false is long =
    let none = none_open image is in
    let same : image ≡ replay = subst (λ n. apply (all_recorded 2 n image) image ≡ replay) none (replayed_parts layout image replay replays).1 in
    (rest_closed replay long).1 ∙ (ap (is_open 0) (sym same) ∙ is)

-- its first gate is closed
pub recovered_shut : (layout : Layout) (image replay : List ℕ) → replayed layout image ≡ Some replay → 4160 < length (recovered layout image) → is_open 0 (recovered layout image) ≡ false
unfolding recovered
recovered_shut layout image replay replays long = by (has_open image) refl long
  where
    by : (some : Bool) → has_open image ≡ some → 4160 < length (cond some (recovered_as image (replayed layout image)) image) → is_open 0 (cond some (recovered_as image (replayed layout image)) image) ≡ false
    by false none enough = none_first (gates image) none
    by true some enough =
        subst (λ (o : Option (List ℕ)). 4160 < length (recovered_as image o) → is_open 0 (recovered_as image o) ≡ false) (sym replays)
        (λ l. closed_first layout image replay replays (is_open 0 image) refl l) enough
