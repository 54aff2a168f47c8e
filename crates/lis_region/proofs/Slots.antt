-- The slots of a region, and the frames that a contract sees in them.
use Rattle.std.proofs.Common.{◌≡◌, ℕ, zero, suc, ◌+◌, ◌-◌, ◌^◌, ◌<◌, Bool, true, false, List, [], ◌∷◌, All, length, get_or, set, ◌++◌, replicate, Option, Some, None, IsSome, is_some, cond, unwrap_or, vec_len, arith, refl, sym, ◌∙◌, ap, subst, if◌then◌else◌}
use Rattle.std.proofs.lemmas.List.{map-set, length-map, get_or_read, map-append, length-replicate, get_or-replicate, replicate_more}
use Rattle.std.proofs.lemmas.List.Elements.{All-set, All-push}
use Rattle.std.proofs.lemmas.List.Folds.{sum_by-replicate}
use Rattle.std.proofs.lemmas.Grind.{common_steps}
use Rattle.std.specs.Vec.{with_items}
use Rattle.std.specs.List.{refill}
use Rattle.lis_region.specs.declared.region.Slot.{Slot}
use Rattle.lis_region.specs.Inside.{IsSoundRegion, IsMade, slot_items, frames_of}
use Rattle.lis_region.proofs.Order.{taken, given, written}

-- from the first element on, all are x
pub all_same : {X : Type 0} (x : X) (xs : List X) → ((k : ℕ) → k < length xs → get_or xs k x ≡ x) → xs ≡ replicate (length xs) x
all_same x [] h = refl
all_same x (y ∷ ys) h = ap (λ z. z ∷ ys) (h 0 (omega arith)) ∙ ap (λ zs. x ∷ zs) (all_same x ys (λ k lt. h (suc k) (omega arith)))

taken_if : {A : Type 0} (b : Bool) (x : A) → IsSome (if b then Some x else None) → (if b then Some x else None) ≡ Some x
taken_if true x h = refl
taken_if false x h = absurd cc

taken_if_like : {A : Type 0} (b : Bool) (x y : A) → IsSome (if b then Some x else None) → (if b then Some y else None) ≡ Some y
taken_if_like true x y h = refl
taken_if_like false x y h = absurd cc

module _ {T : Type 0} where
  -- a slot has the width that all have
  pub width_at : (slots : List (Slot T)) (n : ℕ) (slot : Slot T) {width : ℕ} → slot ≡ get_or slots n slot → n < length slots → All (λ s. vec_len s.items ≡ width) slots → vec_len slot.items ≡ width
  width_at slots n slot e lt h = ap (λ (s : Slot T). vec_len s.items) e ∙ h n slot lt

  -- a frame that is taken has the items of its slot
  pub slot_at : (slots : List (Slot T)) (n : ℕ) (slot : Slot T) → IsSome (get_or (frames_of slots) n None) → slot ≡ get_or slots n slot → get_or (frames_of slots) n None ≡ slot_items slot
  slot_at [] n slot h e = absurd cc
  slot_at (s ∷ slots) zero slot h e = ap slot_items (sym e)
  slot_at (s ∷ slots) (suc n) slot h e = slot_at slots n slot h e

  pub frame_in_range : (slots : List (Slot T)) (n : ℕ) → IsSome (get_or (frames_of slots) n None) → n < length slots
  frame_in_range [] n h = absurd cc
  frame_in_range (s ∷ slots) zero h = omega arith
  frame_in_range (s ∷ slots) (suc n) h = omega (arith, frame_in_range slots n h)

  pub width_in : (slots : List (Slot T)) (n : ℕ) (slot : Slot T) {width : ℕ} → slot ≡ get_or slots n slot → IsSome (get_or (frames_of slots) n None) → All (λ s. vec_len s.items ≡ width) slots → vec_len slot.items ≡ width
  width_in slots n slot e h all = width_at slots n slot e (frame_in_range slots n h) all

  taken_items : (slot : Slot T) → IsSome (slot_items slot) → slot_items slot ≡ Some slot.items.items
  taken_items slot h = taken_if slot.is_taken slot.items.items h

  pub items_at : (slots : List (Slot T)) (n : ℕ) (slot : Slot T) → IsSome (get_or (frames_of slots) n None) → slot ≡ get_or slots n slot → get_or (frames_of slots) n None ≡ Some slot.items.items
  items_at slots n slot h e =
      let at = slot_at slots n slot h e in at ∙ taken_items slot (subst (λ (o : Option (List T)). IsSome o) at h)

  pub stays_taken : (slots : List (Slot T)) (n : ℕ) (slot slot' : Slot T) → IsSome (get_or (frames_of slots) n None) → slot ≡ get_or slots n slot → slot'.is_taken ≡ slot.is_taken → slot_items slot' ≡ Some slot'.items.items
  stays_taken slots n slot slot' h e same =
      rw same (taken_if_like slot.is_taken slot.items.items slot'.items.items (subst (λ (o : Option (List T)). IsSome o) (slot_at slots n slot h e) h))

  module _ (slots : List (Slot T)) (order : List ℕ) (free width n : ℕ) (slot slot' : Slot T) (e : slot ≡ get_or slots n slot) (same_len : vec_len slot'.items ≡ vec_len slot.items) where
    widths_kept : n < length slots → All (λ s. vec_len s.items ≡ width) slots → All (λ s. vec_len s.items ≡ width) (set slots n slot')
    widths_kept lt h = All-set (λ s. vec_len s.items ≡ width) slots n slot' (same_len ∙ width_at slots n slot e lt h) h

    in_frames : n < length slots → n < length (frames_of slots)
    in_frames lt = rw length-map lt

    -- a taken frame's items are written
    pub sound_written : IsSome (get_or (frames_of slots) n None) → slot'.is_taken ≡ slot.is_taken → IsSoundRegion slots order free width → IsSoundRegion (set slots n slot') order free width
    sound_written h same sound =
        let lt = frame_in_range slots n h in
        record {
          widths = widths_kept lt sound.widths;
          free_first = rw (map-set slot_items slots n slot', stays_taken slots n slot slot' h e same) (written (frames_of slots) order free n slot.items.items slot'.items.items (in_frames lt) (items_at slots n slot h e) sound.free_first);
        }

    -- a taken frame is given back
    pub sound_given : IsSome (get_or (frames_of slots) n None) → slot_items slot' ≡ None → IsSoundRegion slots order free width → IsSoundRegion (set slots n slot') (set order free n) (free + 1) width
    sound_given h none sound =
        let lt = frame_in_range slots n h in
        record {
          widths = widths_kept lt sound.widths;
          free_first = rw (map-set slot_items slots n slot', none) (given (frames_of slots) order free n slot.items.items (in_frames lt) (items_at slots n slot h e) sound.free_first);
        }

    -- the last of the free frames is taken
    pub sound_taken : (items : List T) → n ≡ get_or order free 0 → n < length slots → slot_items slot' ≡ Some items → IsSoundRegion slots order (free + 1) width → IsSoundRegion (set slots n slot') order free width
    sound_taken items last lt some sound = record {
      widths = widths_kept lt sound.widths;
      free_first = rw (map-set slot_items slots n slot', some, last) (taken (frames_of slots) order free items sound.free_first);
    }

  -- the last of the free frames has a slot
  pub last_free : (slots : List (Slot T)) (order : List ℕ) (free width n : ℕ) → n ≡ get_or order (free - 1) n → 0 < free → IsSoundRegion slots order free width → (n ≡ get_or order (free - 1) 0) × (n < length slots)
  last_free slots order free width n read some sound =
      let h = sound.free_first in
      let number = get_or_read order (free - 1) n (omega (arith, h.as_many, h.counted)) read 0 in
      let there : get_or order (free - 1) 0 < length slots = rw length-map at (h.in_range (free - 1) (omega arith)) in
      (number, rw number there)

  -- a frame that is lent has what was written through the borrow
  pub frames_lent : (slots : List (Slot T)) (n width : ℕ) (slot : Slot T) (w : List T) → IsSome (get_or (frames_of slots) n None) → slot ≡ get_or slots n slot → vec_len slot.items ≡ width
      → frames_of (set slots n (record { is_taken = slot.is_taken; items = with_items slot.items w })) ≡ set (frames_of slots) n (Some (refill width (unwrap_or (get_or (frames_of slots) n None) []) w))
  frames_lent slots n width slot w h e len =
      let slot' : Slot T = record { is_taken = slot.is_taken; items = with_items slot.items w } in
      map-set slot_items slots n slot' ∙ ap (λ o. set (frames_of slots) n o) (stays_taken slots n slot slot' h e refl ∙ rw (items_at slots n slot h e, ← len))

  -- one more slot is made
  pub made_more : (slots : List (Slot T)) (order : List ℕ) (count width : ℕ) (slot : Slot T) → slot_items slot ≡ None → vec_len slot.items ≡ width → IsMade slots order count width → IsMade (slots ++ slot ∷ []) (order ++ count ∷ []) (count + 1) width
  made_more slots order count width slot none wide made = record {
    widths = All-push (λ (s : Slot T). vec_len s.items ≡ width) slots slot made.widths wide;
    frames = map-append slot_items slots (slot ∷ []) ∙ rw (made.frames, none) (replicate_more count None);
    as_many = grind (arith, common_steps, made.as_many);
    in_turn = λ k lt. grind (arith, common_steps, made.in_turn k);
  }

  -- when all slots are made, the region is sound
  pub sound_made : (slots : List (Slot T)) (order : List ℕ) (count width : ℕ) → count < 2 ^ 32 → IsMade slots order count width → IsSoundRegion slots order count width
  sound_made slots order count width few made =
      let long : length (frames_of slots) ≡ count = ap length made.frames ∙ length-replicate count None in
      record {
        widths = made.widths;
        free_first = record {
          as_many = made.as_many ∙ sym long;
          few = omega arith;
          counted = rw made.frames (omega (arith, sum_by-replicate (λ (o : Option (List T)). cond (is_some o) 1 0) count None, length-replicate {A = Option (List T)} count None));
          in_range = λ k lt. rw (made.in_turn k lt) (omega arith);
          all_free = λ k lt. rw (made.in_turn k lt, made.frames) (get_or-replicate count k None None lt);
          apart = λ j k lt le e. absurd (omega (arith, made.in_turn j (omega arith), made.in_turn k le));
        };
      }
