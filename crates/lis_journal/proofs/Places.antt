-- The index of a block among the staged ones, which are in the order of their homes.
use Rattle.std.proofs.Common.{◌≡◌, ℕ, zero, suc, ◌+◌, ◌<◌, ◌≤◌, nat_lt, Bool, true, false, ◌&&◌, ◌||◌, ◌==◌, cond, List, [], ◌∷◌, length, get_or, IsTrue, refl, sym, ◌∙◌, ap, subst, arith}
use Rattle.std.specs.List.{list_all, list_any}
use Rattle.std.proofs.lemmas.List.{get_or_default}
use Rattle.std.proofs.lemmas.Bool.{and_parts, and_from, ltb-true, lt-ltb, eqb-true, eqb-false, eq-eqb, ltb-false, ne_eqb}
use Rattle.lis_journal.specs.declared.stage.Staged.{Staged}
use Rattle.lis_journal.specs.Record.{HomeBlock, homes, rises}
use Rattle.lis_journal.specs.Staging.{with_entry}
use Rattle.lis_journal.specs.Inside.{home_list, FoundAt, PlaceFor}

pub found_at : (n k : ℕ) (xs : List Staged) (d : Staged) → k < length xs → ((j : ℕ) → j < k → (get_or xs j d).home < n) → (get_or xs k d).home ≡ n → FoundAt n k xs
found_at n k [] d lt below here = absurd (omega arith)
found_at n zero (x ∷ xs) d lt below here = here
found_at n (suc k) (x ∷ xs) d lt below here =
    let less : k < length xs = omega (arith, lt) in
    (below zero (omega arith), found_at n k xs d less (λ j h. let more : suc j < suc k = omega (arith, h) in below (suc j) more) here)

pub place_for : (n k : ℕ) (xs : List Staged) (d : Staged) → k ≤ length xs → ((j : ℕ) → j < k → (get_or xs j d).home < n) → (k < length xs → n < (get_or xs k d).home) → PlaceFor n k xs
place_for n zero [] d le below above = tt
place_for n zero (x ∷ xs) d le below above = above (omega arith)
place_for n (suc k) [] d le below above = absurd (omega (arith, le))
place_for n (suc k) (x ∷ xs) d le below above =
    let less : k ≤ length xs = omega (arith, le) in
    (below zero (omega arith), place_for n k xs d less (λ j h. let more : suc j < suc k = omega (arith, h) in below (suc j) more) (λ h. let more : suc k < suc (length xs) = omega (arith, h) in above more))

pub rise_parts : (blocks last h : ℕ) (hs : List ℕ) → IsTrue (rises blocks last (h ∷ hs)) → (last < h) × (h < blocks) × IsTrue (rises blocks h hs)
rise_parts blocks last h hs rise =
    let outer = and_parts (nat_lt last h && nat_lt h blocks) (rises blocks h hs) rise in
    let inner = and_parts (nat_lt last h) (nat_lt h blocks) outer.0 in
    (ltb-true last h inner.0, ltb-true h blocks inner.1, outer.1)

pub rise_from : (blocks last h : ℕ) (hs : List ℕ) → last < h → h < blocks → IsTrue (rises blocks h hs) → IsTrue (rises blocks last (h ∷ hs))
rise_from blocks last h hs above within rest =
    and_from (nat_lt last h && nat_lt h blocks) (rises blocks h hs) (and_from (nat_lt last h) (nat_lt h blocks) (lt-ltb last h above) (lt-ltb h blocks within)) rest

both : (h n : ℕ) (hs : List ℕ) → (h == n) ≡ false → list_any (λ h. h == n) hs ≡ false → list_any (λ h. h == n) (h ∷ hs) ≡ false
both h n hs one rest = ap (λ b. b || list_any (λ h. h == n) hs) one ∙ rest

none_above : (blocks last n : ℕ) (hs : List ℕ) → IsTrue (rises blocks last hs) → n ≤ last → list_any (λ h. h == n) hs ≡ false
none_above blocks last n [] rise le = refl
none_above blocks last n (h ∷ hs) rise le =
    let parts = rise_parts blocks last h hs rise in
    let ne : h ≡ n → ⊥ = λ e. absurd (omega (arith, e, parts.0, le)) in
    both h n hs (ne_eqb h n ne) (none_above blocks h n hs parts.2 (omega (arith, parts.0, le)))

-- all homes are above the last one
above_last : (blocks last : ℕ) (xs : List Staged) (j : ℕ) (d : Staged) → IsTrue (rises blocks last (home_list xs)) → j < length xs → last < (get_or xs j d).home
above_last blocks last [] j d rise lt = absurd (omega arith)
above_last blocks last (x ∷ xs) zero d rise lt = (rise_parts blocks last x.home (home_list xs) rise).0
above_last blocks last (x ∷ xs) (suc j) d rise lt =
    let parts = rise_parts blocks last x.home (home_list xs) rise in
    let less : j < length xs = omega (arith, lt) in
    omega (arith, parts.0, above_last blocks x.home xs j d parts.2 less)

-- a later home is not lower
pub homes_rise : (blocks last : ℕ) (xs : List Staged) (i j : ℕ) (d : Staged) → IsTrue (rises blocks last (home_list xs)) → i ≤ j → j < length xs → (get_or xs i d).home ≤ (get_or xs j d).home
homes_rise blocks last [] i j d rise le lt = absurd (omega arith)
homes_rise blocks last (x ∷ xs) zero zero d rise le lt = omega arith
homes_rise blocks last (x ∷ xs) zero (suc j) d rise le lt =
    let parts = rise_parts blocks last x.home (home_list xs) rise in
    let less : j < length xs = omega (arith, lt) in
    omega (arith, above_last blocks x.home xs j d parts.2 less)
homes_rise blocks last (x ∷ xs) (suc i) zero d rise le lt = absurd (omega (arith, le))
homes_rise blocks last (x ∷ xs) (suc i) (suc j) d rise le lt =
    let parts = rise_parts blocks last x.home (home_list xs) rise in
    let less : j < length xs = omega (arith, lt) in
    let same : i ≤ j = omega (arith, le) in
    homes_rise blocks x.home xs i j d parts.2 same less

-- The homes still rise with one more.
pub rises-with_entry : (blocks last n : ℕ) (bytes : List ℕ) (es : List HomeBlock) → last < n → n < blocks → IsTrue (rises blocks last (homes es)) → IsTrue (rises blocks last (homes (with_entry es n bytes)))
rises-with_entry blocks last n bytes [] above within rise = rise_from blocks last n [] above within refl
rises-with_entry blocks last n bytes (e ∷ es) above within rise =
    let parts = rise_parts blocks last e.home (homes es) rise in
    by (nat_lt e.home n) refl parts.0 parts.1 parts.2 (λ lower. rises-with_entry blocks e.home n bytes es lower within parts.2)
  where
    by_eq : (t : Bool) → (e.home == n) ≡ t → nat_lt e.home n ≡ false → e.home < blocks → IsTrue (rises blocks e.home (homes es)) → IsTrue (rises blocks last (homes (cond t (record { home = n; bytes = bytes } ∷ es) (record { home = n; bytes = bytes } ∷ e ∷ es))))
    by_eq true is lower inside rest =
        rise_from blocks last n (homes es) above within (subst (λ h. IsTrue (rises blocks h (homes es))) (eqb-true e.home n is) rest)
    by_eq false is lower inside rest =
        let ne : e.home ≡ n → ⊥ = eqb-false e.home n is in
        let le : n ≤ e.home = ltb-false e.home n lower in
        rise_from blocks last n (e.home ∷ homes es) above within (rise_from blocks n e.home (homes es) (omega (arith, le, ne)) inside rest)

    by : (t : Bool) → nat_lt e.home n ≡ t → last < e.home → e.home < blocks → IsTrue (rises blocks e.home (homes es)) → (e.home < n → IsTrue (rises blocks e.home (homes (with_entry es n bytes)))) → IsTrue (rises blocks last (homes (cond t (e ∷ with_entry es n bytes) (cond (e.home == n) (record { home = n; bytes = bytes } ∷ es) (record { home = n; bytes = bytes } ∷ e ∷ es)))))
    by true is above_e inside rest more = rise_from blocks last e.home (homes (with_entry es n bytes)) above_e inside (more (ltb-true e.home n is))
    by false is above_e inside rest more = by_eq (e.home == n) refl is inside rest

-- And each content is a block.
pub whole-with_entry : (n : ℕ) (bytes : List ℕ) (es : List HomeBlock) → length bytes ≡ 4096 → IsTrue (list_all (λ e. length e.bytes == 4096) es) → IsTrue (list_all (λ e. length e.bytes == 4096) (with_entry es n bytes))
whole-with_entry n bytes [] len whole = and_from (length bytes == 4096) true (eq-eqb (length bytes) 4096 len) refl
whole-with_entry n bytes (e ∷ es) len whole =
    let parts = and_parts (length e.bytes == 4096) (list_all (λ e. length e.bytes == 4096) es) whole in
    by (nat_lt e.home n) (e.home == n) (eq-eqb (length bytes) 4096 len) parts.0 parts.1 (whole-with_entry n bytes es len parts.1)
  where
    by : (lower same : Bool) → IsTrue (length bytes == 4096) → IsTrue (length e.bytes == 4096) → IsTrue (list_all (λ e. length e.bytes == 4096) es) → IsTrue (list_all (λ e. length e.bytes == 4096) (with_entry es n bytes)) → IsTrue (list_all (λ e. length e.bytes == 4096) (cond lower (e ∷ with_entry es n bytes) (cond same (record { home = n; bytes = bytes } ∷ es) (record { home = n; bytes = bytes } ∷ e ∷ es))))
    by true same wide one rest more = and_from (length e.bytes == 4096) (list_all (λ e. length e.bytes == 4096) (with_entry es n bytes)) one more
    by false true wide one rest more = and_from (length bytes == 4096) (list_all (λ e. length e.bytes == 4096) es) wide rest
    by false false wide one rest more = and_from (length bytes == 4096) (list_all (λ e. length e.bytes == 4096) (e ∷ es)) wide whole

-- a block that belongs at an index, and is not there, is the home of no entry
pub absent : (blocks last n k : ℕ) (xs : List Staged) → IsTrue (rises blocks last (home_list xs)) → PlaceFor n k xs → list_any (λ h. h == n) (home_list xs) ≡ false
absent blocks last n zero [] rise place = refl
absent blocks last n (suc k) [] rise place = absurd place
absent blocks last n zero (x ∷ xs) rise place =
    let parts = rise_parts blocks last x.home (home_list xs) rise in
    let ne : x.home ≡ n → ⊥ = λ e. absurd (omega (arith, e, place)) in
    both x.home n (home_list xs) (ne_eqb x.home n ne) (none_above blocks x.home n (home_list xs) parts.2 (omega (arith, place)))
absent blocks last n (suc k) (x ∷ xs) rise place =
    let parts = rise_parts blocks last x.home (home_list xs) rise in
    let ne : x.home ≡ n → ⊥ = λ e. absurd (omega (arith, e, place.0)) in
    both x.home n (home_list xs) (ne_eqb x.home n ne) (absent blocks x.home n k xs parts.2 place.1)

-- What one comparison of a search says.
pub rise_below : (blocks last n m : ℕ) (xs : List Staged) (s : Staged) → IsTrue (rises blocks last (home_list xs)) → m < length xs → (get_or xs m s).home < n → (j : ℕ) (d : Staged) → j < m + 1 → (get_or xs j d).home < n
rise_below blocks last n m xs s rise lt lower j d le =
    let here : (get_or xs m d).home ≡ (get_or xs m s).home = ap (λ (x : Staged). x.home) (get_or_default xs m d s lt) in
    omega (arith, homes_rise blocks last xs j m d rise (omega (arith, le)) lt, here, lower)

pub rise_above : (blocks last n m : ℕ) (xs : List Staged) (s : Staged) → IsTrue (rises blocks last (home_list xs)) → m < length xs → n ≤ (get_or xs m s).home → (j : ℕ) (d : Staged) → m ≤ j → j < length xs → n ≤ (get_or xs j d).home
rise_above blocks last n m xs s rise lt higher j d le in_range =
    let here : (get_or xs m d).home ≡ (get_or xs m s).home = ap (λ (x : Staged). x.home) (get_or_default xs m d s lt) in
    omega (arith, homes_rise blocks last xs m j d rise le in_range, here, higher)

-- the home at an index is above n if it is not lower than n and differs from n
pub place_above : (n k : ℕ) (xs : List Staged) (s : Staged) → ((get_or xs k s).home ≡ n → ⊥) → ((j : ℕ) (d : Staged) → k ≤ j → j < length xs → n ≤ (get_or xs j d).home) → (d : Staged) → k < length xs → n < (get_or xs k d).home
place_above n k xs s other above d lt =
    let here : (get_or xs k d).home ≡ (get_or xs k s).home = ap (λ (x : Staged). x.home) (get_or_default xs k d s lt) in
    let ne : (get_or xs k d).home ≡ n → ⊥ = λ e. other (sym here ∙ e) in
    omega (arith, above k d (omega arith) lt, ne)

no_block : Staged
no_block = record { home = 0; frame = 0 }

pub place_from : (n k : ℕ) (xs : List Staged) → k ≤ length xs → ((j : ℕ) (d : Staged) → j < k → (get_or xs j d).home < n) → ((d : Staged) → k < length xs → n < (get_or xs k d).home) → PlaceFor n k xs
place_from n k xs le below above = place_for n k xs no_block le (λ j h. below j no_block h) (above no_block)
