-- The fields of a pool, as a frame is taken, given back, written and made.
use Rattle.std.proofs.Common.{◌≡◌, ℕ, ◌+◌, ◌-◌, ◌*◌, ◌<◌, ◌≤◌, Bool, true, false, List, [], ◌∷◌, ◌++◌, length, get_or, set, take, drop, replicate, Option, Some, None, IsSome, is_some, count_by, arith, refl, sym, ◌∙◌, ap, subst, length-append, length-take, length-drop, length-set, if◌then◌else◌}
use Rattle.std.proofs.Math.Nat.{mul-le-mul_right}
use Rattle.std.proofs.lemmas.List.{with_items_is, get_or_default, set-get_or, take_all}
use Rattle.std.specs.Vec.{with_items_from}
use Rattle.std.specs.declared.vec.Vec.{Vec}
use Rattle.lis_region.specs.Made.{IsOrder, IsSoundPool, frames_of}
use Rattle.lis_region.proofs.Made.{length-frames_of, count_frames, get_or-frames_of, frames_written}
use Rattle.lis_region.proofs.Given.{free_in_range, taken_in_range, last_free, order_taken, order_given, order_made}

-- what a vector has after a part of it was written
pub overwritten : {X Z : Type 0} (v : Vec X Z) (at k : ℕ) (ws : List X) → length ws ≡ k → at + k ≤ length v.items → (with_items_from v at ws).items ≡ take at v.items ++ (ws ++ drop k (drop at v.items))
overwritten v at k ws long within =
    let xs = v.items in
    let whole : length (take at xs ++ (ws ++ drop (length ws) (drop at xs))) ≡ v.len =
    omega (arith, v.ok.0, length-append (take at xs) (ws ++ drop (length ws) (drop at xs)), length-append ws (drop (length ws) (drop at xs)), length-take at xs, length-drop at xs, length-drop (length ws) (drop at xs)) in
    with_items_is v (take at xs ++ (ws ++ drop (length ws) (drop at xs))) whole ∙ rw long refl

pub length-overwritten : {X : Type 0} (xs : List X) (at k : ℕ) (ws : List X) → length ws ≡ k → at + k ≤ length xs → length (take at xs ++ (ws ++ drop k (drop at xs))) ≡ length xs
length-overwritten xs at k ws long within =
    omega (arith, length-append (take at xs) (ws ++ drop k (drop at xs)), length-append ws (drop k (drop at xs)), length-take at xs, length-drop at xs, length-drop k (drop at xs))

-- what a vector has after it grew
pub grown : {X : Type 0} (xs : List X) (n len more : ℕ) (x : X) → len ≡ length xs → n ≡ len + more → take n xs ++ replicate (n - len) x ≡ xs ++ replicate more x
grown xs n len more x e e' =
    let k : n - len ≡ more = omega arith in
    rw (k, take_all n xs (omega arith)) refl

is_taken_if : {X : Type 0} (b : Bool) (x : X) → IsSome (if b then Some x else None) → b ≡ true
is_taken_if true x h = refl
is_taken_if false x h = absurd cc

module _ {T : Type 0} (width frames : ℕ) (items : List T) (taken : List Bool) (given : List ℕ) where
  abbrev all : List (Option (List T))
  all = frames_of width frames taken items

  -- how many frames are free
  pub free_are : IsSoundPool width frames items taken given → length all - count_by is_some all ≡ frames - length taken + length given
  free_are h = omega (arith, length-frames_of width frames taken items h.made, count_frames width frames taken items, h.order.counted, h.made)

  pub is_taken : (n : ℕ) → IsSome (get_or all n None) → get_or taken n false ≡ true
  is_taken n has = is_taken_if (get_or taken n false) (take width (drop (n * width) items)) (subst (λ (o : Option (List T)). IsSome o) (get_or-frames_of width frames taken items n) has)

  -- the items of a made frame are there
  pub within : (n at : ℕ) → at ≡ n * width → n < length taken → IsSoundPool width frames items taken given → at + width ≤ length items
  within n at e lt h = omega (arith, mul-le-mul_right {m = n + 1} {n = length taken} width (omega arith), h.whole)

  pub items_at : (n at : ℕ) → at ≡ n * width → IsSome (get_or all n None) → get_or all n None ≡ Some (take (at + width - at) (drop at items))
  items_at n at e has =
      let wide : at + width - at ≡ width = omega arith in
      get_or-frames_of width frames taken items n ∙ rw (is_taken n has, wide, e) refl

  -- a frame that was not taken
  pub none_at_free : (n : ℕ) → get_or taken n false ≡ false → get_or all n None ≡ None
  none_at_free n free = get_or-frames_of width frames taken items n ∙ rw free refl

  pub sound_given : (n : ℕ) → get_or taken n false ≡ true → IsSoundPool width frames items taken given → IsSoundPool width frames items (set taken n false) (given ++ n ∷ [])
  sound_given n was h = record {
    whole = rw (length-set taken n false) h.whole;
    made = omega (arith, length-set taken n false, h.made);
    few = h.few;
    small = h.small;
    order = order_given taken given n was h.order;
  }

  -- not all frames are given back while one of them is taken
  pub room_to_give : (n : ℕ) → get_or taken n false ≡ true → IsSoundPool width frames items taken given → length given < frames
  room_to_give n was h =
      let after = order_given taken given n was h.order in
      omega (arith, after.counted, length-append given (n ∷ []), length-set taken n false, h.made)

  -- a taken frame is written
  pub written_at : (n at : ℕ) (written : List T) → at ≡ n * width → get_or taken n false ≡ true → IsSoundPool width frames items taken given → length written ≡ width
      → frames_of width frames taken (take at items ++ (written ++ drop width (drop at items))) ≡ set all n (Some written)
  written_at n at written e was h wide =
      let same : set taken n true ≡ taken = rw was at (set-get_or taken n false) in
      ap (λ ts. frames_of width frames ts (take at items ++ (written ++ drop width (drop at items)))) (sym same) ∙ frames_written width frames taken items at written n e (taken_in_range taken n was) h.whole wide

  pub sound_written : (items' : List T) → length items' ≡ length items → IsSoundPool width frames items taken given → IsSoundPool width frames items' taken given
  sound_written items' same h = record { whole = same ∙ h.whole; made = h.made; few = h.few; small = h.small; order = h.order }

  -- the last of those that were given back is taken
  pub sound_taken : (rest : List ℕ) (n : ℕ) (items' : List T) → given ≡ rest ++ n ∷ [] → length items' ≡ length items → IsSoundPool width frames items taken given → IsSoundPool width frames items' (set taken n true) rest
  sound_taken rest n items' last same h = record {
    whole = rw (length-set taken n true) (same ∙ h.whole);
    made = omega (arith, length-set taken n true, h.made);
    few = h.few;
    small = h.small;
    order = order_taken taken rest n (subst (λ (g : List ℕ). IsOrder taken g) last h.order);
  }

  pub last_is_free : (rest : List ℕ) (n : ℕ) → given ≡ rest ++ n ∷ [] → IsSoundPool width frames items taken given → (n < length taken) × (get_or taken n false ≡ false)
  last_is_free rest n last h =
      let free = last_free taken rest n (subst (λ (g : List ℕ). IsOrder taken g) last h.order) in
      let lt = free_in_range taken n free in
      (lt, get_or_default taken n false true lt ∙ free)

  -- one more frame is made, and taken
  pub sound_more : (more : List T) → length taken < frames → length more ≡ width → IsSoundPool width frames items taken given → IsSoundPool width frames (items ++ more) (taken ++ true ∷ []) given
  sound_more more lt wide h = record {
    whole = (let long : length (taken ++ true ∷ []) ≡ length taken + 1 = length-append taken (true ∷ []) in rw long (omega (arith, length-append items more, h.whole)));
    made = omega (arith, length-append taken (true ∷ []));
    few = h.few;
    small = h.small;
    order = order_made taken given h.order;
  }
