-- The frames that were made, as one of them is written, given back or made.
use Rattle.std.proofs.Common.{◌≡◌, ℕ, zero, suc, ◌+◌, ◌-◌, ◌*◌, ◌<◌, ◌≤◌, Bool, true, false, List, [], ◌∷◌, ◌++◌, length, get_or, set, take, drop, replicate, Option, Some, None, is_some, count_by, cond, arith, refl, sym, ◌∙◌, ap, if◌then◌else◌, length-append, length-take, length-drop, length-set}
use Rattle.std.proofs.lemmas.List.{take-append-le, drop-append-le, take_at, drop_at, take-take, drop-take, drop-drop, nil_from_length, take_all, set-append_left, set_at, get_or_append_left, get_or-append_right, get_or-replicate, get_or_past, append_assoc, length-replicate}
use Rattle.std.proofs.lemmas.List.Sums.{sum_by-append}
use Rattle.std.proofs.lemmas.List.Folds.{sum_by-replicate}
use Rattle.std.proofs.lemmas.Grind.{common_steps}
use native.Mathlib.Decide.{dec_lt}
use Prim.{yes, no}
use Rattle.lis_region.specs.Made.{frames_made, frames_of}

module _ {T : Type 0} where
  -- a frame with these items, if it is taken
  abbrev pub frame_if : Bool → List T → Option (List T)
  frame_if is_taken items = if is_taken then Some items else None

  pub length-frames_made : (width : ℕ) (taken : List Bool) (items : List T) → length (frames_made width taken items) ≡ length taken
  length-frames_made width [] items = refl
  length-frames_made width (b ∷ taken) items = ap suc (length-frames_made width taken (drop width items))

  pub get_or-frames_made : (width : ℕ) (taken : List Bool) (items : List T) (n : ℕ) → get_or (frames_made width taken items) n None ≡ frame_if (get_or taken n false) (take width (drop (n * width) items))
  get_or-frames_made width [] items n = refl
  get_or-frames_made width (b ∷ taken) items zero = let none : 0 * width ≡ 0 = omega arith in rw none refl
  get_or-frames_made width (b ∷ taken) items (suc n) =
      let next : suc n * width ≡ width + n * width = omega arith in
      get_or-frames_made width taken (drop width items) n ∙ ap (λ xs. frame_if (get_or taken n false) (take width xs)) (drop-drop (n * width) width items ∙ ap (λ k. drop k items) (sym next))

  pub count_made : (width : ℕ) (taken : List Bool) (items : List T) → count_by is_some (frames_made width taken items) ≡ count_by (λ is_taken. is_taken) taken
  count_made width [] items = refl
  count_made width (true ∷ taken) items = grind (arith, common_steps, count_made width taken (drop width items))
  count_made width (false ∷ taken) items = grind (arith, common_steps, count_made width taken (drop width items))

  -- a frame is given back
  pub made_freed : (width : ℕ) (taken : List Bool) (items : List T) (n : ℕ) → frames_made width (set taken n false) items ≡ set (frames_made width taken items) n None
  made_freed width [] items n = refl
  made_freed width (b ∷ taken) items zero = refl
  made_freed width (b ∷ taken) items (suc n) = ap (λ fs. frame_if b (take width items) ∷ fs) (made_freed width taken (drop width items) n)

  -- a frame is written, and taken
  pub made_written : (width at : ℕ) (taken : List Bool) (items written : List T) (n : ℕ) → at ≡ n * width → n < length taken → length items ≡ length taken * width → length written ≡ width
      → frames_made width (set taken n true) (take at items ++ (written ++ drop width (drop at items))) ≡ set (frames_made width taken items) n (Some written)
  made_written width at [] items written n e lt whole wide = absurd (omega arith)
  made_written width at (b ∷ taken) items written zero e lt whole wide =
      let start : at ≡ 0 = omega arith in
      rw start (rw (take_at written (drop width items) width wide, drop_at written (drop width items) width wide) refl)
  made_written width at (b ∷ taken) items written (suc n) e lt whole wide =
      let start : at ≡ width + n * width = omega arith in
      let rest : length (drop width items) ≡ length taken * width = omega (arith, length-drop width items) in
      let long : width ≤ length (take (width + n * width) items) = omega (arith, length-take (width + n * width) items) in
      let tail = written ++ drop width (drop (width + n * width) items) in
      let first = take-append-le width (take (width + n * width) items) tail long ∙ take-take width (width + n * width) items (omega arith) in
      let after : drop width (take (width + n * width) items ++ tail) ≡ take (n * width) (drop width items) ++ (written ++ drop width (drop (n * width) (drop width items))) =
      drop-append-le width (take (width + n * width) items) tail long ∙ rw (drop-take width (n * width) items, drop-drop (n * width) width items) refl in
      rw (start, first, after) (ap (λ fs. frame_if b (take width items) ∷ fs) (made_written width (n * width) taken (drop width items) written n refl (omega arith) rest wide))

  -- one more frame is made
  pub made_more : (width : ℕ) (taken : List Bool) (items more : List T) → length items ≡ length taken * width → length more ≡ width
      → frames_made width (taken ++ true ∷ []) (items ++ more) ≡ frames_made width taken items ++ Some more ∷ []
  made_more width [] items more whole wide = rw (nil_from_length items (omega arith), take_all width more (omega arith)) refl
  made_more width (b ∷ taken) items more whole wide =
      let long : width ≤ length items = omega arith in
      rw (take-append-le width items more long, drop-append-le width items more long) (ap (λ fs. frame_if b (take width items) ∷ fs) (made_more width taken (drop width items) more (omega (arith, length-drop width items)) wide))

  none_at : (k i : ℕ) → get_or {A = Option (List T)} (replicate k None) i None ≡ None
  none_at k i = elim (dec_lt i k) [ yes l ↦ get_or-replicate k i None None l | no ge ↦ get_or_past (replicate k None) i None (omega (arith, length-replicate {A = Option (List T)} k None)) ]

  -- all frames: those that were made, and the rest, which are free
  module _ (width frames : ℕ) (taken : List Bool) (items : List T) where
    abbrev made : List (Option (List T))
    made = frames_made width taken items

    abbrev rest : List (Option (List T))
    rest = replicate (frames - length taken) None

    pub length-frames_of : length taken ≤ frames → length (frames_of width frames taken items) ≡ frames
    length-frames_of le = omega (arith, length-append made rest, length-frames_made width taken items, length-replicate {A = Option (List T)} (frames - length taken) None)

    pub count_frames : count_by is_some (frames_of width frames taken items) ≡ count_by (λ is_taken. is_taken) taken
    count_frames =
        let one : Option (List T) → ℕ = λ o. cond (is_some o) 1 0 in
        omega (arith, sum_by-append one made rest, sum_by-replicate one (frames - length taken) None, count_made width taken items)

    pub get_or-frames_of : (n : ℕ) → get_or (frames_of width frames taken items) n None ≡ frame_if (get_or taken n false) (take width (drop (n * width) items))
    get_or-frames_of n =
        let long = length-frames_made width taken items in
        elim (dec_lt n (length taken)) [
          | yes l ↦ get_or_append_left made rest None n (omega (arith, long)) ∙ get_or-frames_made width taken items n
          | no ge ↦ (
              let past = get_or_past taken n false (omega arith) in
              get_or-append_right made rest (length taken) n None long (omega arith) ∙ rw past (none_at (frames - length taken) (n - length taken))
              )
        ]

    pub frames_freed : (n : ℕ) → n < length taken → frames_of width frames (set taken n false) items ≡ set (frames_of width frames taken items) n None
    frames_freed n lt =
        let there = set-append_left made rest n None (omega (arith, length-frames_made width taken items)) in
        rw (length-set taken n false, made_freed width taken items n) (sym there)

    pub frames_written : (at : ℕ) (written : List T) (n : ℕ) → at ≡ n * width → n < length taken → length items ≡ length taken * width → length written ≡ width
        → frames_of width frames (set taken n true) (take at items ++ (written ++ drop width (drop at items))) ≡ set (frames_of width frames taken items) n (Some written)
    frames_written at written n e lt whole wide =
        let there = set-append_left made rest n (Some written) (omega (arith, length-frames_made width taken items)) in
        rw (length-set taken n true, made_written width at taken items written n e lt whole wide) (sym there)

    pub frames_more : (more : List T) → length taken < frames → length items ≡ length taken * width → length more ≡ width
        → frames_of width frames (taken ++ true ∷ []) (items ++ more) ≡ set (frames_of width frames taken items) (length taken) (Some more)
    frames_more more lt whole wide =
        let left = frames - (length taken + 1) in
        let long : length (taken ++ true ∷ []) ≡ length taken + 1 = length-append taken (true ∷ []) in
        let one : frames - length taken ≡ suc left = omega arith in
        rw (long, made_more width taken items more whole wide, append_assoc made (Some more ∷ []) (replicate left None), one)
        (sym (set_at made None (replicate left None) (Some more) (length taken) (length-frames_made width taken items)))
