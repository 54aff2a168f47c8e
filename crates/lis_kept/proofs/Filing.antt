-- Lists of files in the order of their names, and catalogs with one more or one fewer file.
pub use Rattle.lis_graph.proofs.Members.{find_among}
use Rattle.std.proofs.Common.{filter, option_map, arith}
use Rattle.lis_kept.proofs.Common.{common_steps, rules, ◌≡◌, ◌⊎◌, refl, sym, ap, ap₂, ◌∙◌, subst, inl, inr, ℕ, ◌+◌, ◌<◌, ◌≤◌, nat_lt, ◌==◌, not, Bool, true, false, cond, List, [], ◌∷◌, length, map, Option, Some, None, Ordering, Less, Equal, Greater, match_ordering, insert_key, find, list_all, list_any, and_parts, eqb-true, lt-ltb, not-true, Among, among_filter, among_from_any, among_insert_key, among_map, are_distinct, FileRecord, Catalog, Filed, IsCatalog, slot_of, rec_at, without_slot, word_cmp, word_order, all_among, filter_le, and_from, both_ways, false_from_ne_true, any_from_among, map_among, all_from}
use Rattle.std.proofs.lemmas.Bool.{eq-eqb, or_parts}
use Rattle.lis_graph.specs.Graph.{is_rising}
use Rattle.lis_catalog.specs.Catalog.{names, slots, filed_cmp, with_filed}
use Rattle.lis_catalog.proofs.Laws.{slot_of-rec_at}
use Rattle.lis_catalog.proofs.Slots.{apart_filter, apart_from, apart_parts, any_map}
use Rattle.lis_words.specs.Words.{is_file_name}
use Rattle.lis_laws.proofs.Counts.{all_insert_key, rising_insert_key, insert_key_le}
use Rattle.lis_model.specs.Sets.{has_number}

-- ---- tests and numbers
pub among_from_number : (ns : List ℕ) (n : ℕ) → has_number ns n ≡ true → Among ns n
among_from_number ns n has = search (rules, among_from_any, eqb-true)

pub number_from_among : (ns : List ℕ) (n : ℕ) → Among ns n → has_number ns n ≡ true
number_from_among ns n m = any_from_among (λ k. k == n) ns n m (eq-eqb n n refl)

-- ---- what a test finds
-- what was found has the value
pub found_has : {X Y : Type 0} (v : X → Y) (y : Y) (o : Option X) → option_map v o ≡ Some y → (x : X) × (o ≡ Some x) × (v x ≡ y)
found_has v y o is = search (rules)

-- ---- numbers of which none occurs twice
-- a member is found by its number
pub found_apart : {X : Type 0} (number : X → ℕ) (xs : List X) (x : X) → are_distinct (map number xs) ≡ true → Among xs x → find (λ y. number y == number x) xs ≡ Some x
found_apart number [] x apart m = absurd m
found_apart number (y ∷ ys) x apart (inl same) =
    ap (λ b. cond b (Some y) (find (λ z. number z == number x) ys)) (eq-eqb (number y) (number x) (ap number same)) ∙ ap Some same
found_apart number (y ∷ ys) x apart (inr m) = by (number y == number x) refl (found_apart number ys x parts.1 m)
  where
    parts : (not (has_number (map number ys) (number y)) ≡ true) × (are_distinct (map number ys) ≡ true)
    parts = and_parts (not (has_number (map number ys) (number y))) (are_distinct (map number ys)) apart

    by : (b : Bool) → (number y == number x) ≡ b → find (λ z. number z == number x) ys ≡ Some x → cond b (Some y) (find (λ z. number z == number x) ys) ≡ Some x
    by true e rest =
        let none = not-true (has_number (map number ys) (number y)) parts.0 in
        let some = any_from_among (λ m. m == number y) (map number ys) (number x) (map_among number ys x m) (eq-eqb (number x) (number y) (sym (eqb-true (number y) (number x) e))) in
        absurd (let e : true ≡ false = sym some ∙ none in cc)
    by false e rest = rest

-- ---- lists
module _ {X Y : Type 0} where
  pub filter-map : (keep : Y → Bool) (f : X → Y) (xs : List X) → filter keep (map f xs) ≡ map f (filter (λ x. keep (f x)) xs)
  filter-map keep f [] = refl
  filter-map keep f (x ∷ xs) = grind (arith, common_steps, filter-map keep f xs)

pub map_all : {X Y : Type 0} (f g : X → Y) (xs : List X) → ((x : X) → Among xs x → f x ≡ g x) → map f xs ≡ map g xs
map_all f g [] same = refl
map_all f g (x ∷ xs) same = ap₂ (λ y ys. y ∷ ys) (same x (inl refl)) (map_all f g xs (λ z m. same z (inr m)))

-- a map that keeps the order inserts the image of a key at its index
pub map_insert_key : {A B : Type 0} (f : A → B) (cmp : A → A → Ordering) (other : B → B → Ordering) → ((x y : A) → cmp x y ≡ other (f x) (f y)) → (xs : List A) (k : A) → map f (insert_key cmp xs k) ≡ insert_key other (map f xs) (f k)
map_insert_key f cmp other same [] k = refl
map_insert_key f cmp other same (x ∷ xs) k = grind (arith, common_steps, map_insert_key f cmp other same xs k)

-- ---- files by their slots
module _ (c : Catalog) (is : IsCatalog c) where
  pub filed_rec : (f : Filed) → Among c.entries f → rec_at c f.slot ≡ Some f.rec
  filed_rec f m = ap (option_map (λ (g : Filed). g.rec)) (found_apart (λ (g : Filed). g.slot) c.entries f is.apart m)

  pub filed_slot : (f : Filed) → Among c.entries f → slot_of c f.rec.name ≡ Some f.slot
  filed_slot f m = slot_of-rec_at c f.slot f.rec is (filed_rec f m)

  pub filed_at_slot : (slot : ℕ) (rec : FileRecord) → rec_at c slot ≡ Some rec → Among c.entries (record { slot = slot; rec = rec })
  filed_at_slot slot rec there =
      let found = found_has (λ (f : Filed). f.rec) rec (find (λ (f : Filed). f.slot == slot) c.entries) there in
      let m = find_among (λ (f : Filed). f.slot == slot) c.entries found.0 found.1 in
      subst (λ (r : FileRecord). Among c.entries (record { slot = slot; rec = r })) found.2
      (subst (λ n. Among c.entries (record { slot = n; rec = (found.0).rec })) (eqb-true (found.0).slot slot m.1) m.0)

-- ---- one fewer file
module _ {X K : Type 0} (v : X → K) (keep : X → Bool) where
  pub all_kept : (test : K → Bool) (xs : List X) → list_all test (map v xs) ≡ true → list_all test (map v (filter keep xs)) ≡ true
  all_kept test xs h =
      all_from test (map v (filter keep xs)) (λ y m.
      let x = among_map v (filter keep xs) y m in
      all_among test (map v xs) y h (subst (λ k. Among (map v xs) k) x.2 (map_among v xs x.0 (among_filter keep xs x.0 x.1).0)))

  pub rising_kept : (cmp : K → K → Ordering) (xs : List X) → is_rising cmp (map v xs) ≡ true → is_rising cmp (map v (filter keep xs)) ≡ true
  rising_kept cmp [] h = refl
  rising_kept cmp (x ∷ xs) h = grind (arith, common_steps, and_parts, and_from, all_kept, rising_kept cmp xs)

abbrev slot_in : Filed → ℕ
slot_in f = f.slot

pub catalog_without : (c : Catalog) (slot : ℕ) → IsCatalog c → IsCatalog (without_slot c slot)
catalog_without c slot is = search (rules, rising_kept, all_kept, apart_filter, filter_le)

-- ---- numbers of which none occurs twice
-- slots are distinct with one more that no file has
apart_more : (f : Filed) (es : List Filed) → are_distinct (map slot_in es) ≡ true → list_any (λ (g : Filed). g.slot == f.slot) es ≡ false
    → are_distinct (map slot_in (insert_key filed_cmp es f)) ≡ true
apart_more f [] apart none = refl
apart_more f (x ∷ xs) apart none = by (filed_cmp f x) (apart_more f xs parts.1 others.1)
  where
    parts : (list_any (λ (g : Filed). g.slot == x.slot) xs ≡ false) × (are_distinct (map slot_in xs) ≡ true)
    parts = apart_parts x xs apart

    others : ((x.slot == f.slot) ≡ false) × (list_any (λ (g : Filed). g.slot == f.slot) xs ≡ false)
    others = or_parts (x.slot == f.slot) (list_any (λ (g : Filed). g.slot == f.slot) xs) none

    not_there : list_any (λ (g : Filed). g.slot == x.slot) (insert_key filed_cmp xs f) ≡ false
    not_there = search (rules, false_from_ne_true, among_from_any, among_insert_key, both_ways, others, eq-eqb, eqb-true, parts, any_from_among)

    by : (r : Ordering) → are_distinct (map slot_in (insert_key filed_cmp xs f)) ≡ true
        → are_distinct (map slot_in (match_ordering r (f ∷ x ∷ xs) (x ∷ xs) (x ∷ insert_key filed_cmp xs f))) ≡ true
    by Less rest = apart_from f (x ∷ xs) none apart
    by Equal rest = apart
    by Greater rest = apart_from x (insert_key filed_cmp xs f) not_there rest

-- ---- a file whose name is new
module _ (c : Catalog) (is : IsCatalog c) (slot : ℕ) (rec : FileRecord) (absent : slot_of c rec.name ≡ None) where
  abbrev filed : Filed
  filed = record { slot = slot; rec = rec }

  pub entries_longer : length (with_filed c slot rec).entries ≤ length c.entries + 1
  entries_longer = insert_key_le filed_cmp c.entries filed

  names_then : names (with_filed c slot rec) ≡ insert_key word_cmp (names c) rec.name
  names_then = map_insert_key (λ (f : Filed). f.rec.name) filed_cmp word_cmp (λ x y. refl) c.entries filed

  pub slot_is_free : rec_at c slot ≡ None → has_number (slots c) slot ≡ false
  slot_is_free free = search (rules, false_from_ne_true, among_from_any, among_map, filed_rec, eqb-true)

  pub catalog_then : is_file_name rec.name ≡ true → slot < c.files → rec_at c slot ≡ None → length c.entries < c.files → IsCatalog (with_filed c slot rec)
  catalog_then form below free room = record {
    rising = ap (is_rising word_cmp) names_then ∙ rising_insert_key word_cmp word_order (names c) rec.name is.rising;
    forms = ap (list_all is_file_name) names_then ∙ all_insert_key word_cmp is_file_name (names c) rec.name is.forms form;
    below = all_from (λ (n : ℕ). nat_lt n c.files) (slots (with_filed c slot rec)) (λ n m. lower n (among_map (λ (f : Filed). f.slot) (with_filed c slot rec).entries n m));
    apart = apart_more filed c.entries is.apart (sym (any_map (λ n. n == slot) slot_in c.entries) ∙ slot_is_free free);
    few = omega (arith, entries_longer, room);
  }
    where
      lower_at : (f : Filed) → (filed ≡ f) ⊎ Among c.entries f → nat_lt f.slot c.files ≡ true
      lower_at f (inl same) = subst (λ (g : Filed). nat_lt g.slot c.files ≡ true) same (lt-ltb slot c.files below)
      lower_at f (inr m) = all_among (λ (n : ℕ). nat_lt n c.files) (slots c) f.slot is.below (map_among (λ (g : Filed). g.slot) c.entries f m)

      lower : (n : ℕ) → (f : Filed) × Among (with_filed c slot rec).entries f × (f.slot ≡ n) → nat_lt n c.files ≡ true
      lower n found = subst (λ i. nat_lt i c.files ≡ true) found.2 (lower_at found.0 (among_insert_key filed_cmp c.entries filed found.0 found.1))
