-- What is found by a name and by a slot, with one more file and with one fewer.
use Rattle.std.proofs.Common.{◌≡◌, ℕ, ◌<◌, Bool, true, false, not, cond, if◌then◌else◌, ◌==◌, nat_lt, List, [], ◌∷◌, filter, Option, Some, None, IsSome, IsTrue, refl, sym, ap, subst, ◌∙◌}
use Rattle.std.specs.declared.cmp.Ordering.{Ordering}
use Rattle.std.specs.declared.cmp.Ordering.TheVariants.{Less, Equal, Greater}
use Rattle.std.specs.Ordering.{match_ordering}
use Rattle.std.specs.BTreeSet.{insert_key}
use Rattle.std.specs.List.{AllByRecursion, find, list_all}
use Rattle.std.specs.List.Sorted.{IsStrictlySortedBy}
use Rattle.std.specs.Option.{option_map}
use Rattle.std.proofs.lemmas.Bool.{and_parts, eqb-true, ne_eqb, eq-eqb, ltb-true}
use Rattle.std.proofs.lemmas.List.Folds.{list_all-map}
use Rattle.std.proofs.lemmas.Map.Entries.{option_filter}
use Rattle.std.proofs.lemmas.Slice.Eq.{bytes_eq-Decides}
use Rattle.lis_graph.proofs.Sets.{below_tail, sorted_tail}
use Rattle.lis_words.specs.Words.{word_cmp}
use Rattle.lis_fields.specs.Records.{FileRecord}
use Rattle.lis_catalog.specs.Catalog.{Filed, Catalog, slot_of, rec_at, filed_cmp, with_filed, without_slot, IsCatalog}
use Rattle.lis_catalog.proofs.Order.{filed_order, sorted_from, is_same}
use Rattle.lis_catalog.proofs.Places.{is_named, none_above}
use Rattle.lis_catalog.specs.Inside.{slot_list}
use Rattle.lis_catalog.proofs.Slots.{none_any, any_none, map_none, any_filter, apart_parts, is_other, slot_gone}
use Rattle.lis_model.specs.Sets.{are_distinct}

-- ---- one more file
module _ (test : Filed → Bool) (f : Filed) where
  -- a test that passes at the file finds it, if it found nothing before
  find_more : (es : List Filed) → find (is_named f.rec.name) es ≡ None → (test f ≡ true → find test es ≡ None) → find test (insert_key filed_cmp es f) ≡ cond (test f) (Some f) (find test es)
  find_more [] absent alone = refl
  find_more (x ∷ xs) absent alone = by (filed_cmp f x) refl (find_more xs)
    where
      tail_absent : (b : Bool) → cond b (Some x) (find (is_named f.rec.name) xs) ≡ None → find (is_named f.rec.name) xs ≡ None
      tail_absent true e = absurd cc
      tail_absent false e = e

      other_first : (b t : Bool) → (t ≡ true → cond b (Some x) (find test xs) ≡ None) → cond b (Some x) (cond t (Some f) (find test xs)) ≡ cond t (Some f) (cond b (Some x) (find test xs))
      other_first true true none = absurd (let e = none refl in cc)
      other_first true false none = refl
      other_first false true none = refl
      other_first false false none = refl

      tail_alone : (b : Bool) → cond b (Some x) (find test xs) ≡ None → find test xs ≡ None
      tail_alone true e = absurd cc
      tail_alone false e = e

      by : (o : Ordering) → filed_cmp f x ≡ o → (find (is_named f.rec.name) xs ≡ None → (test f ≡ true → find test xs ≡ None) → find test (insert_key filed_cmp xs f) ≡ cond (test f) (Some f) (find test xs))
          → find test (match_ordering o (f ∷ x ∷ xs) (x ∷ xs) (x ∷ insert_key filed_cmp xs f)) ≡ cond (test f) (Some f) (find test (x ∷ xs))
      by Less e more = refl
      by Equal e more = absurd (let there = is_same f.rec.name x.rec.name e in let some = ap (λ b. cond b (Some x) (find (is_named f.rec.name) xs)) there in cc)
      by Greater e more =
          ap (λ o. cond (test x) (Some x) o) (more (tail_absent (is_named f.rec.name x) absent) (λ t. tail_alone (test x) (alone t)))
          ∙ other_first (test x) (test f) alone

map_cond : {A B : Type 0} (v : A → B) (b : Bool) (x : A) (o : Option A) → option_map v (cond b (Some x) o) ≡ cond b (Some (v x)) (option_map v o)
map_cond v true x o = refl
map_cond v false x o = refl

pub rec_at-with_filed : (c : Catalog) (slot : ℕ) (rec : FileRecord) (n : ℕ) → slot_of c rec.name ≡ None → rec_at c slot ≡ None → rec_at (with_filed c slot rec) n ≡ (if slot == n then Some rec else rec_at c n)
rec_at-with_filed c slot rec n none free =
    let f : Filed = record { slot = slot; rec = rec } in
    let absent = map_none (λ (g : Filed). g.slot) (find (is_named rec.name) c.entries) none in
    let unused = map_none (λ (g : Filed). g.rec) (find (λ (g : Filed). g.slot == slot) c.entries) free in
    ap (option_map (λ (g : Filed). g.rec)) (find_more (λ (g : Filed). g.slot == n) f c.entries absent (λ same. subst (λ m. find (λ (g : Filed). g.slot == m) c.entries ≡ None) (eqb-true slot n same) unused))
    ∙ map_cond (λ (g : Filed). g.rec) (slot == n) f (find (λ (g : Filed). g.slot == n) c.entries)

-- ---- one fewer file
pub rec_at-without_slot : (c : Catalog) (slot n : ℕ) → rec_at (without_slot c slot) n ≡ (if n == slot then None else rec_at c n)
rec_at-without_slot c slot n = by (n == slot) refl
  where
    stays : (es : List Filed) → (n ≡ slot → ⊥) → find (λ (g : Filed). g.slot == n) (filter (is_other slot) es) ≡ find (λ (g : Filed). g.slot == n) es
    stays [] differ = refl
    stays (x ∷ xs) differ = go (x.slot == slot) refl (stays xs differ)
      where
        go : (b : Bool) → (x.slot == slot) ≡ b → find (λ (g : Filed). g.slot == n) (filter (is_other slot) xs) ≡ find (λ (g : Filed). g.slot == n) xs → find (λ (g : Filed). g.slot == n) (cond (not b) (x ∷ filter (is_other slot) xs) (filter (is_other slot) xs)) ≡ find (λ (g : Filed). g.slot == n) (x ∷ xs)
        go true e rest =
            let at : x.slot ≡ slot = eqb-true x.slot slot e in
            rest ∙ sym (ap (λ b. cond b (Some x) (find (λ (g : Filed). g.slot == n) xs)) (ne_eqb x.slot n (λ same. differ (sym same ∙ at))))
        go false e rest = ap (λ o. cond (x.slot == n) (Some x) o) rest

    by : (b : Bool) → (n == slot) ≡ b → rec_at (without_slot c slot) n ≡ cond b None (rec_at c n)
    by true e =
        subst (λ m. rec_at (without_slot c slot) m ≡ None) (sym (eqb-true n slot e))
        (ap (option_map (λ (g : Filed). g.rec)) (any_none (λ (g : Filed). g.slot == slot) (filter (is_other slot) c.entries) (slot_gone slot c.entries)))
    by false e = ap (option_map (λ (g : Filed). g.rec)) (stays c.entries (λ same. let yes = eq-eqb n slot same in cc))

module _ (slot : ℕ) (name : List ℕ) where
  unnamed : (es : List Filed) → find (is_named name) es ≡ None → find (is_named name) (filter (is_other slot) es) ≡ None
  unnamed es none = any_none (is_named name) (filter (is_other slot) es) (any_filter (is_named name) (is_other slot) es (none_any (is_named name) es none))

  find_fewer : (es : List Filed) → IsStrictlySortedBy filed_cmp es → find (is_named name) (filter (is_other slot) es) ≡ option_filter (is_other slot) (find (is_named name) es)
  find_fewer [] s = refl
  find_fewer (x ∷ xs) s = by (is_named name x) (is_other slot x) refl refl (find_fewer xs (sorted_tail filed_cmp filed_order x xs s))
    where
      later : is_named name x ≡ true → find (is_named name) xs ≡ None
      later e = none_above name xs (subst (λ n. AllByRecursion (λ (y : Filed). word_cmp n y.rec.name ≡ Less) xs) ((bytes_eq-Decides x.rec.name name).0 e) (below_tail filed_cmp filed_order x xs s))

      first : (n o : Bool) → is_named name x ≡ n → is_other slot x ≡ o → find (is_named name) (cond o (x ∷ filter (is_other slot) xs) (filter (is_other slot) xs)) ≡ cond o (cond n (Some x) (find (is_named name) (filter (is_other slot) xs))) (find (is_named name) (filter (is_other slot) xs))
      first n true named other = ap (λ b. cond b (Some x) (find (is_named name) (filter (is_other slot) xs))) named
      first n false named other = refl

      second : (n o : Bool) → is_named name x ≡ n → is_other slot x ≡ o → find (is_named name) (filter (is_other slot) xs) ≡ option_filter (is_other slot) (find (is_named name) xs)
          → cond o (cond n (Some x) (find (is_named name) (filter (is_other slot) xs))) (find (is_named name) (filter (is_other slot) xs)) ≡ option_filter (is_other slot) (cond n (Some x) (find (is_named name) xs))
      second true true named other rest = sym (ap (λ b. cond b (Some x) None) other)
      second true false named other rest = unnamed xs (later named) ∙ sym (ap (λ b. cond b (Some x) None) other)
      second false true named other rest = rest
      second false false named other rest = rest

      by : (n o : Bool) → is_named name x ≡ n → is_other slot x ≡ o → find (is_named name) (filter (is_other slot) xs) ≡ option_filter (is_other slot) (find (is_named name) xs)
          → find (is_named name) (cond o (x ∷ filter (is_other slot) xs) (filter (is_other slot) xs)) ≡ option_filter (is_other slot) (cond n (Some x) (find (is_named name) xs))
      by n o named other rest = first n o named other ∙ second n o named other rest

map_filter : {A B : Type 0} (v : A → B) (p : B → Bool) (o : Option A) → option_map v (option_filter (λ x. p (v x)) o) ≡ option_filter p (option_map v o)
map_filter v p None = refl
map_filter v p (Some x) = by (p (v x))
  where
    by : (b : Bool) → option_map v (cond b (Some x) None) ≡ cond b (Some (v x)) None
    by true = refl
    by false = refl

pub slot_of-without_slot : (c : Catalog) (slot : ℕ) (name : List ℕ) → IsCatalog c → slot_of (without_slot c slot) name ≡ option_filter (λ (n : ℕ). not (n == slot)) (slot_of c name)
slot_of-without_slot c slot name is =
    ap (option_map (λ (g : Filed). g.slot)) (find_fewer slot name c.entries (sorted_from c.entries is.rising))
    ∙ map_filter (λ (g : Filed). g.slot) (λ (n : ℕ). not (n == slot)) (find (is_named name) c.entries)

-- a name that no file has, or that of the slot alone
pub filtered_none : (slot : ℕ) (o : Option ℕ) → o ≡ None → option_filter (λ (n : ℕ). not (n == slot)) o ≡ None
filtered_none slot o none = ap (option_filter (λ (n : ℕ). not (n == slot))) none

pub filtered_one : (slot n : ℕ) (o : Option ℕ) → o ≡ Some n → n ≡ slot → option_filter (λ (n : ℕ). not (n == slot)) o ≡ None
filtered_one slot n o some same =
    ap (option_filter (λ (n : ℕ). not (n == slot))) some ∙ ap (λ b. cond (not b) (Some n) None) (eq-eqb n slot same)

-- ---- slots that have a file are below the limit
below_limit : (files slot : ℕ) (es : List Filed) → list_all (λ (f : Filed). nat_lt f.slot files) es ≡ true → IsSome (option_map (λ (f : Filed). f.rec) (find (λ (f : Filed). f.slot == slot) es)) → slot < files
below_limit files slot [] all here = absurd cc
below_limit files slot (x ∷ xs) all here =
    let parts = and_parts (nat_lt x.slot files) (list_all (λ (f : Filed). nat_lt f.slot files) xs) all in
    by (x.slot == slot) refl (ltb-true x.slot files parts.0) (below_limit files slot xs parts.1) here
  where
    by : (b : Bool) → (x.slot == slot) ≡ b → x.slot < files → (IsSome (option_map (λ (f : Filed). f.rec) (find (λ (f : Filed). f.slot == slot) xs)) → slot < files)
        → IsSome (option_map (λ (f : Filed). f.rec) (cond b (Some x) (find (λ (f : Filed). f.slot == slot) xs))) → slot < files
    by true e lt more some = subst (λ n. n < files) (eqb-true x.slot slot e) lt
    by false e lt more some = more some

pub slot_is_below : (c : Catalog) (slot : ℕ) → IsCatalog c → IsSome (rec_at c slot) → slot < c.files
slot_is_below c slot is some = below_limit c.files slot c.entries (sym (list_all-map (λ (n : ℕ). nat_lt n c.files) (λ (f : Filed). f.slot) c.entries) ∙ is.below) some

-- ---- the two ways to a file
slot_from_name : (name : List ℕ) (f : Filed) (es : List Filed) → IsTrue (are_distinct (slot_list es)) → find (is_named name) es ≡ Some f → find (λ (g : Filed). g.slot == f.slot) es ≡ Some f
slot_from_name name f [] apart some = absurd cc
slot_from_name name f (x ∷ xs) apart some =
    let parts = apart_parts x xs apart in
    by (is_named name x) some (slot_from_name name f xs parts.1) (any_none (λ (g : Filed). g.slot == x.slot) xs parts.0)
  where
    later : (b : Bool) → (x.slot == f.slot) ≡ b → find (λ (g : Filed). g.slot == x.slot) xs ≡ None → find (λ (g : Filed). g.slot == f.slot) xs ≡ Some f → cond b (Some x) (find (λ (g : Filed). g.slot == f.slot) xs) ≡ Some f
    later true e none there = absurd (let here = subst (λ n. find (λ (g : Filed). g.slot == n) xs ≡ None) (eqb-true x.slot f.slot e) none in cc)
    later false e none there = there

    by : (b : Bool) → cond b (Some x) (find (is_named name) xs) ≡ Some f → (find (is_named name) xs ≡ Some f → find (λ (g : Filed). g.slot == f.slot) xs ≡ Some f) → find (λ (g : Filed). g.slot == x.slot) xs ≡ None
        → find (λ (g : Filed). g.slot == f.slot) (x ∷ xs) ≡ Some f
    by true e more none =
        let same : x ≡ f = cc in
        ap (λ b. cond b (Some x) (find (λ (g : Filed). g.slot == f.slot) xs)) (eq-eqb x.slot f.slot (ap (λ (g : Filed). g.slot) same)) ∙ e
    by false e more none = later (x.slot == f.slot) refl none (more e)

name_from_slot : (slot : ℕ) (f : Filed) (es : List Filed) → IsStrictlySortedBy filed_cmp es → find (λ (g : Filed). g.slot == slot) es ≡ Some f → find (is_named f.rec.name) es ≡ Some f
name_from_slot slot f [] s some = absurd cc
name_from_slot slot f (x ∷ xs) s some =
    by (x.slot == slot) some (name_from_slot slot f xs (sorted_tail filed_cmp filed_order x xs s)) (none_above x.rec.name xs (below_tail filed_cmp filed_order x xs s))
  where
    later : (b : Bool) → is_named f.rec.name x ≡ b → find (is_named x.rec.name) xs ≡ None → find (is_named f.rec.name) xs ≡ Some f → cond b (Some x) (find (is_named f.rec.name) xs) ≡ Some f
    later true e none there = absurd (let here = subst (λ n. find (is_named n) xs ≡ None) ((bytes_eq-Decides x.rec.name f.rec.name).0 e) none in cc)
    later false e none there = there

    by : (b : Bool) → cond b (Some x) (find (λ (g : Filed). g.slot == slot) xs) ≡ Some f → (find (λ (g : Filed). g.slot == slot) xs ≡ Some f → find (is_named f.rec.name) xs ≡ Some f) → find (is_named x.rec.name) xs ≡ None
        → find (is_named f.rec.name) (x ∷ xs) ≡ Some f
    by true e more none =
        let same : x ≡ f = cc in
        ap (λ b. cond b (Some x) (find (is_named f.rec.name) xs)) ((bytes_eq-Decides x.rec.name f.rec.name).1 (ap (λ (g : Filed). g.rec.name) same)) ∙ e
    by false e more none = later (is_named f.rec.name x) refl none (more e)

-- what a test finds passes it
found_passes : (test : Filed → Bool) (f : Filed) (es : List Filed) → find test es ≡ Some f → test f ≡ true
found_passes test f [] some = absurd cc
found_passes test f (x ∷ xs) some = by (test x) refl some (found_passes test f xs)
  where
    by : (b : Bool) → test x ≡ b → cond b (Some x) (find test xs) ≡ Some f → (find test xs ≡ Some f → test f ≡ true) → test f ≡ true
    by true e some more = let same : x ≡ f = cc in subst (λ (g : Filed). test g ≡ true) same e
    by false e some more = more some

-- the file that was found
file_of : {B : Type 0} (v : Filed → B) (y : B) (o : Option Filed) → option_map v o ≡ Some y → (f : Filed) × (o ≡ Some f) × (v f ≡ y)
file_of v y None some = absurd cc
file_of v y (Some f) some = (f, refl, cc)

-- the slot of a name has the record with that name
pub rec_at-slot_of : (c : Catalog) (name : List ℕ) (slot : ℕ) → IsCatalog c → slot_of c name ≡ Some slot → (rec : FileRecord) × (rec_at c slot ≡ Some rec) × (rec.name ≡ name)
rec_at-slot_of c name slot is some =
    let file = file_of (λ (f : Filed). f.slot) slot (find (is_named name) c.entries) some in
    let there = slot_from_name name file.0 c.entries is.apart file.1 in (
      file.0.rec,
      ap (option_map (λ (f : Filed). f.rec)) (subst (λ n. find (λ (g : Filed). g.slot == n) c.entries ≡ Some file.0) file.2 there),
      (bytes_eq-Decides file.0.rec.name name).0 (found_passes (is_named name) file.0 c.entries file.1),
    )

-- and the name of a slot's record is in that slot
pub slot_of-rec_at : (c : Catalog) (slot : ℕ) (rec : FileRecord) → IsCatalog c → rec_at c slot ≡ Some rec → slot_of c rec.name ≡ Some slot
slot_of-rec_at c slot rec is some =
    let file = file_of (λ (f : Filed). f.rec) rec (find (λ (g : Filed). g.slot == slot) c.entries) some in
    let there = name_from_slot slot file.0 c.entries (sorted_from c.entries is.rising) file.1 in
    ap (option_map (λ (f : Filed). f.slot)) (subst (λ (r : FileRecord). find (is_named r.name) c.entries ≡ Some file.0) file.2 there)
    ∙ ap (λ n. Some n) (eqb-true file.0.slot slot (found_passes (λ (g : Filed). g.slot == slot) file.0 c.entries file.1))
