-- Rows of truth values that represent a list of numbers, and lists of numbers without repeats.
use Rattle.lis_store.proofs.Common.{rules, ◌≡◌, ◌⊎◌, refl, sym, ap, ◌∙◌, subst, inl, inr, ℕ, ◌<◌, ◌||◌, not, Bool, true, false, List, [], ◌∷◌, ◌++◌, length, map, set, replicate, arith, length-set, get_or-set_same, get_or-set_other, flat_map, and_parts, ne_eqb, not-true, not_from_false, length-replicate, get_or-replicate, Among, among_append, among_flat_map, is_taken, and_from, both_ways, eq-eqb, false_from_ne_true, map_among, marked, has_number, are_distinct, among_from_number, number_from_among, or-false, get_or_default}
use Rattle.std.proofs.lemmas.List.{same_lists}
use Rattle.lis_content.proofs.Numbers.{length-marked}
use Rattle.std.proofs.Math.Bool.{or-true}

-- ---- what is taken
pub taken_after : (taken : List Bool) (ns : List ℕ) (n : ℕ) → n < length taken → is_taken (marked taken ns) n ≡ (has_number ns n || is_taken taken n)
taken_after taken [] n lt = refl
taken_after taken (b ∷ ns) n lt = search (rules, length-set, get_or-set_same, or-true, eq-eqb, get_or-set_other, ne_eqb, taken_after (set taken b true) ns n (omega (arith, lt, length-set taken b true)))

-- a row of bits that represents these numbers
pub marks_are : (taken : List Bool) (ns : List ℕ) (blocks : ℕ) → length taken ≡ blocks → ((n : ℕ) → n < blocks → is_taken taken n ≡ has_number ns n) → taken ≡ marked (replicate blocks false) ns
marks_are taken ns blocks len each =
    same_lists taken (marked (replicate blocks false) ns) (len ∙ sym long) (λ n d lt.
    let within : n < blocks = omega (arith, lt, len) in
    get_or_default taken n d false lt
    ∙ (each n within
    ∙ (sym (after n within)
    ∙ get_or_default (marked (replicate blocks false) ns) n false d (omega (arith, within, long)))))
  where
    long : length (marked (replicate blocks false) ns) ≡ blocks
    long = length-marked (replicate blocks false) ns ∙ length-replicate blocks false

    after : (n : ℕ) → n < blocks → is_taken (marked (replicate blocks false) ns) n ≡ has_number ns n
    after n within =
        taken_after (replicate blocks false) ns n (omega (arith, within, length-replicate blocks false))
        ∙ (ap (λ t. has_number ns n || t) (get_or-replicate blocks n false false within) ∙ or-false (has_number ns n))

-- ---- lists in pieces
distinct_append : (ms ns : List ℕ) → are_distinct ms ≡ true → are_distinct ns ≡ true → ((n : ℕ) → Among ms n → Among ns n → ⊥) → are_distinct (ms ++ ns) ≡ true
distinct_append [] ns apart others none = others
distinct_append (m ∷ ms) ns apart others none =
    let parts = and_parts (not (has_number ms m)) (are_distinct ms) apart in
    and_from (not (has_number (ms ++ ns) m)) (are_distinct (ms ++ ns))
    (not_from_false (has_number (ms ++ ns) m) (false_from_ne_true (has_number (ms ++ ns) m) (λ has. either (not-true (has_number ms m) parts.0) (among_append ms ns m (among_from_number (ms ++ ns) m has)))))
    (distinct_append ms ns parts.1 others (λ n here there. none n (inr here) there))
  where
    either : has_number ms m ≡ false → Among ms m ⊎ Among ns m → ⊥
    either absent (inl here) = both_ways (has_number ms m) absent (number_from_among ms m here)
    either absent (inr there) = none m (inl refl) there

-- pieces without repeats, no two of which share a number
pub distinct_pieces : {X : Type 0} (key : X → ℕ) (piece : X → List ℕ) (xs : List X) → are_distinct (map key xs) ≡ true
    → ((x : X) → Among xs x → are_distinct (piece x) ≡ true) → ((x y : X) (n : ℕ) → Among xs x → Among xs y → Among (piece x) n → Among (piece y) n → x ≡ y)
    → are_distinct (flat_map piece xs) ≡ true
distinct_pieces key piece [] apart each one = refl
distinct_pieces key piece (x ∷ xs) apart each one =
    let parts = and_parts (not (has_number (map key xs) (key x))) (are_distinct (map key xs)) apart in
    distinct_append (piece x) (flat_map piece xs) (each x (inl refl))
    (distinct_pieces key piece xs parts.1 (λ y m. each y (inr m)) (λ y z n m k here there. one y z n (inr m) (inr k) here there))
    (λ n here there.
    let other = among_flat_map piece xs n there in
    let same : x ≡ other.0 = one x other.0 n (inl refl) (inr other.1) here other.2 in
    both_ways (has_number (map key xs) (key x)) (not-true (has_number (map key xs) (key x)) parts.0)
    (number_from_among (map key xs) (key x) (subst (λ k. Among (map key xs) k) (sym (ap key same)) (map_among key xs other.0 other.1))))
