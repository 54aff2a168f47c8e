-- Files by their slots, and lists of files with one more or one fewer.
use Rattle.std.proofs.Common.{◌≡◌, ℕ, zero, suc, Bool, true, false, not, cond, ◌||◌, ◌==◌, nat_lt, List, [], ◌∷◌, length, map, filter, Option, Some, None, slice_get, eq-eqb, refl, sym, ap, subst, ◌∙◌}
use Rattle.std.specs.List.{find, list_any, list_all, insert, remove, position, position_or_len}
use Rattle.std.specs.Option.{option_map}
use Rattle.std.proofs.lemmas.Bool.{and_parts, and_from, or_parts, or_from, not-true, not_from_false, eqb-false, ne_eqb, ltb-false}
use Rattle.std.proofs.lemmas.List.Folds.{find_at, list_any_at}
use Rattle.std.proofs.lemmas.Option.{slice_get_past, slice_get_within, get_or_from_slice_get}
use Rattle.std.proofs.lemmas.Map.Views.{any-filter_same}
use Rattle.lis_catalog.specs.Catalog.{Filed}
use Rattle.lis_catalog.specs.Inside.{slot_list, has_slot}
use Rattle.lis_model.specs.Sets.{are_distinct}

pub map_none : {A B : Type 0} (v : A → B) (o : Option A) → option_map v o ≡ None → o ≡ None
map_none v None e = refl
map_none v (Some x) e = absurd cc

-- ---- tests of lists
pub swapped : (a b c : Bool) → (a || (b || c)) ≡ (b || (a || c))
swapped true true c = refl
swapped true false c = refl
swapped false true c = refl
swapped false false c = refl

module _ {X : Type 0} (p : X → Bool) where
  pub none_any : (xs : List X) → find p xs ≡ None → list_any p xs ≡ false
  none_any [] h = refl
  none_any (x ∷ xs) h = by (p x) h (none_any xs)
    where
      by : (b : Bool) → cond b (Some x) (find p xs) ≡ None → (find p xs ≡ None → list_any p xs ≡ false) → (b || list_any p xs) ≡ false
      by true e more = absurd cc
      by false e more = more e

  pub any_none : (xs : List X) → list_any p xs ≡ false → find p xs ≡ None
  any_none [] h = refl
  any_none (x ∷ xs) h =
      let parts = or_parts (p x) (list_any p xs) h in
      ap (λ b. cond b (Some x) (find p xs)) parts.0 ∙ any_none xs parts.1

  pub none_found : (xs : List X) → position p xs ≡ None → find p xs ≡ None
  none_found xs h = find_at p xs ∙ by (nat_lt (position_or_len p xs) (length xs)) refl h
    where
      by : (b : Bool) → nat_lt (position_or_len p xs) (length xs) ≡ b → cond b (Some (position_or_len p xs)) None ≡ None → slice_get xs (position_or_len p xs) ≡ None
      by true e some = absurd cc
      by false e some = slice_get_past xs (position_or_len p xs) (ltb-false (position_or_len p xs) (length xs) e)

  pub all_insert : (k : ℕ) (xs : List X) (x : X) → list_all p xs ≡ true → p x ≡ true → list_all p (insert xs k x) ≡ true
  all_insert zero [] x all here = and_from (p x) true here refl
  all_insert zero (y ∷ ys) x all here = and_from (p x) (list_all p (y ∷ ys)) here all
  all_insert (suc k) [] x all here = and_from (p x) true here refl
  all_insert (suc k) (y ∷ ys) x all here =
      let parts = and_parts (p y) (list_all p ys) all in
      and_from (p y) (list_all p (insert ys k x)) parts.0 (all_insert k ys x parts.1 here)

  pub any_insert : (k : ℕ) (xs : List X) (x : X) → list_any p (insert xs k x) ≡ (p x || list_any p xs)
  any_insert zero [] x = refl
  any_insert zero (y ∷ ys) x = refl
  any_insert (suc k) [] x = refl
  any_insert (suc k) (y ∷ ys) x = ap (λ b. p y || b) (any_insert k ys x) ∙ swapped (p y) (p x) (list_any p ys)

  pub all_filter : (keep : X → Bool) (xs : List X) → list_all p xs ≡ true → list_all p (filter keep xs) ≡ true
  all_filter keep [] all = refl
  all_filter keep (x ∷ xs) all = by (keep x) (and_parts (p x) (list_all p xs) all).0 (all_filter keep xs (and_parts (p x) (list_all p xs) all).1)
    where
      by : (b : Bool) → p x ≡ true → list_all p (filter keep xs) ≡ true → list_all p (cond b (x ∷ filter keep xs) (filter keep xs)) ≡ true
      by true here rest = and_from (p x) (list_all p (filter keep xs)) here rest
      by false here rest = rest

  pub any_filter : (keep : X → Bool) (xs : List X) → list_any p xs ≡ false → list_any p (filter keep xs) ≡ false
  any_filter keep [] none = refl
  any_filter keep (x ∷ xs) none = by (keep x) (or_parts (p x) (list_any p xs) none).0 (any_filter keep xs (or_parts (p x) (list_any p xs) none).1)
    where
      by : (b : Bool) → p x ≡ false → list_any p (filter keep xs) ≡ false → list_any p (cond b (x ∷ filter keep xs) (filter keep xs)) ≡ false
      by true here rest = or_from (p x) (list_any p (filter keep xs)) here rest
      by false here rest = rest

  -- nothing is filtered out
  pub filter_none : (xs : List X) → list_any p xs ≡ false → filter (λ x. not (p x)) xs ≡ xs
  filter_none [] none = refl
  filter_none (x ∷ xs) none =
      let parts = or_parts (p x) (list_any p xs) none in
      ap (λ b. cond (not b) (x ∷ filter (λ y. not (p y)) xs) (filter (λ y. not (p y)) xs)) parts.0
      ∙ ap (λ ys. x ∷ ys) (filter_none xs parts.1)

  pub any_map : {Y : Type 0} (v : Y → X) (ys : List Y) → list_any p (map v ys) ≡ list_any (λ y. p (v y)) ys
  any_map v [] = refl
  any_map v (y ∷ ys) = ap (λ b. p (v y) || b) (any_map v ys)

-- ---- slots
-- the parts of the test that no slot occurs twice
pub apart_parts : (x : Filed) (xs : List Filed) → are_distinct (slot_list (x ∷ xs)) ≡ true → (has_slot xs x.slot ≡ false) × (are_distinct (slot_list xs) ≡ true)
apart_parts x xs apart =
    let parts = and_parts (not (list_any (λ m. m == x.slot) (slot_list xs))) (are_distinct (slot_list xs)) apart in
    (sym (any_map (λ m. m == x.slot) (λ (f : Filed). f.slot) xs) ∙ not-true (list_any (λ m. m == x.slot) (slot_list xs)) parts.0, parts.1)

pub apart_from : (x : Filed) (xs : List Filed) → has_slot xs x.slot ≡ false → are_distinct (slot_list xs) ≡ true → are_distinct (slot_list (x ∷ xs)) ≡ true
apart_from x xs none apart =
    and_from (not (list_any (λ m. m == x.slot) (slot_list xs))) (are_distinct (slot_list xs))
    (not_from_false (list_any (λ m. m == x.slot) (slot_list xs)) (any_map (λ m. m == x.slot) (λ (f : Filed). f.slot) xs ∙ none)) apart

pub turned : (a b : ℕ) → (a == b) ≡ false → (b == a) ≡ false
turned a b ne = ne_eqb b a (λ e. eqb-false a b ne (sym e))

pub apart_insert : (k : ℕ) (es : List Filed) (f : Filed) → are_distinct (slot_list es) ≡ true → has_slot es f.slot ≡ false → are_distinct (slot_list (insert es k f)) ≡ true
apart_insert zero [] f apart none = refl
apart_insert zero (x ∷ xs) f apart none = apart_from f (x ∷ xs) none apart
apart_insert (suc k) [] f apart none = refl
apart_insert (suc k) (x ∷ xs) f apart none =
    let parts = apart_parts x xs apart in
    let others = or_parts (x.slot == f.slot) (has_slot xs f.slot) none in
    apart_from x (insert xs k f)
    (any_insert (λ (g : Filed). g.slot == x.slot) k xs f ∙ or_from (f.slot == x.slot) (has_slot xs x.slot) (turned x.slot f.slot others.0) parts.0)
    (apart_insert k xs f parts.1 others.1)

pub apart_filter : (keep : Filed → Bool) (es : List Filed) → are_distinct (slot_list es) ≡ true → are_distinct (slot_list (filter keep es)) ≡ true
apart_filter keep [] apart = refl
apart_filter keep (x ∷ xs) apart = by (keep x) (apart_parts x xs apart).0 (apart_filter keep xs (apart_parts x xs apart).1)
  where
    by : (b : Bool) → has_slot xs x.slot ≡ false → are_distinct (slot_list (filter keep xs)) ≡ true → are_distinct (slot_list (cond b (x ∷ filter keep xs) (filter keep xs))) ≡ true
    by true none rest = apart_from x (filter keep xs) (any_filter (λ (g : Filed). g.slot == x.slot) keep xs none) rest
    by false none rest = rest

pub has_there : (es : List Filed) (k : ℕ) (f : Filed) → slice_get es k ≡ Some f → has_slot es f.slot ≡ true
has_there es k f at =
    list_any_at (λ (g : Filed). g.slot == f.slot) es k f (slice_get_within es k f at)
    (ap (λ (g : Filed). g.slot == f.slot) (get_or_from_slice_get es k f f at) ∙ eq-eqb f.slot f.slot refl)

-- ---- the files without that of a slot
module _ (s : ℕ) where
  abbrev pub is_other : Filed → Bool
  is_other f = not (f.slot == s)

  pub slot_gone : (es : List Filed) → has_slot (filter is_other es) s ≡ false
  slot_gone es = any-filter_same (λ (f : Filed). f.slot == s) is_other false (λ f e. ap not e) es

  pub removed : (es : List Filed) (i : ℕ) (f : Filed) → slice_get es i ≡ Some f → f.slot ≡ s → are_distinct (slot_list es) ≡ true → filter is_other es ≡ remove es i
  removed [] i f at here apart = absurd cc
  removed (x ∷ xs) zero f at here apart =
      let same : x ≡ f = cc in
      let there : x.slot ≡ s = ap (λ (g : Filed). g.slot) same ∙ here in
      ap (λ b. cond (not b) (x ∷ filter is_other xs) (filter is_other xs)) (eq-eqb x.slot s there)
      ∙ filter_none (λ (g : Filed). g.slot == s) xs (subst (λ n. has_slot xs n ≡ false) there (apart_parts x xs apart).0)
  removed (x ∷ xs) (suc i) f at here apart =
      let parts = apart_parts x xs apart in
      let differs : (x.slot == s) ≡ false = ne_eqb x.slot s (λ same. let some = has_there xs i f at in let none = subst (λ n. has_slot xs n ≡ false) (same ∙ sym here) parts.0 in absurd cc) in
      ap (λ b. cond (not b) (x ∷ filter is_other xs) (filter is_other xs)) differs ∙ ap (λ ys. x ∷ ys) (removed xs i f at here parts.1)
