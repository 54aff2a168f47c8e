-- The way to a file, step by step, is the route of the model.
use Rattle.std.proofs.Common.{◌≡◌, ◌⊎◌, ℕ, zero, suc, ◌+◌, ◌-◌, ◌<◌, ◌≤◌, ◌==◌, Bool, true, false, cond, not, ◌&&◌, Option, Some, None, List, [], ◌∷◌, ◌++◌, length, map, filter, take, drop, get_or, unwrap_or, refl, sym, ap, subst, ◌∙◌, inl, inr, arith, add-zero, append_assoc, length-append, length-take, get_or-take}
use Rattle.std.specs.Option.{option_map, option_or}
use Rattle.std.specs.List.{slice_get, find, list_any, Contains}
use Rattle.std.proofs.lemmas.Bool.{cases_lt, and_parts}
use Rattle.std.proofs.lemmas.List.{take_more, take-append-drop, map-append, drop_more, get_or_default, append-nil}
use Rattle.std.proofs.Math.ListN.{get_or-append}
use Rattle.std.proofs.Math.Seq.{get_or-append_seam}
use Rattle.std.proofs.lemmas.List.Folds.{find-append, list_all-append}
use Rattle.std.proofs.lemmas.List.Elements.{filter-append}
use Rattle.std.proofs.lemmas.Option.{slice_get_within, get_or_from_slice_get}
use Rattle.std.proofs.lemmas.Slice.Eq.{bytes_eq-Decides}
use Rattle.lis_graph.proofs.Members.{Among, among_from_contains, contains_from_among, among_from_any, any_from_among, among_filter, filter_among, among_map, map_among}
use Rattle.lis_graph.proofs.Filters.{filter_same, filter_twice, filter_fewer, any_same}
use Rattle.lis_words.specs.Words.{same_word, has_word}
use Rattle.lis_grammar.specs.Formula.{Formula}
use Rattle.lis_bits.specs.Rows.{Rows, get}
use Rattle.lis_model.specs.Table.{Entry, entails}
use Rattle.lis_model.specs.Tests.{step_of}
use Rattle.lis_model.specs.Listing.{holds, holds_all, extension, increments, is_candidate, is_increment, is_above, is_local}
use Rattle.lis_model.specs.Route.{first_increment, word_then, route_within}
use Rattle.lis_eval.specs.View.{Placed, Seen, IsView, TellsTest, table_of}
use Rattle.lis_eval.proofs.Members.{contains_at, find_is, find_first, mapped_some}
use Rattle.std.proofs.Math.Bool.{and-true, and-false}
use Rattle.lis_incr.specs.Marked.{found_files, is_top}
use Rattle.lis_incr.specs.Walking.{is_step}
use Rattle.lis_incr.specs.Ways.{word_of, words_of, AreKnown, file_here, further, Walks}
use Rattle.lis_incr.proofs.Shown.{found_is}

-- ---- the first member that passes, index by index
module _ {X : Type 0} (test : X → Bool) (xs : List X) (k : ℕ) (x : X) (none : find test (take k xs) ≡ None) (at : slice_get xs k ≡ Some x) where
  one_more : take (k + 1) xs ≡ take k xs ++ x ∷ []
  one_more = take_more xs k x (slice_get_within xs k x at) ∙ ap (λ y. take k xs ++ y ∷ []) (get_or_from_slice_get xs k x x at)

  before : find test (take (k + 1) xs) ≡ find test (x ∷ [])
  before = ap (find test) one_more ∙ (find-append test (take k xs) (x ∷ []) ∙ ap (λ o. option_or o (find test (x ∷ []))) none)

  pub found_here : test x ≡ true → find test xs ≡ Some x
  found_here passes =
      let first : find test (take (k + 1) xs) ≡ Some x = before ∙ rw passes in
      ap (find test) (sym (take-append-drop (k + 1) xs)) ∙ (find-append test (take (k + 1) xs) (drop (k + 1) xs) ∙ ap (λ o. option_or o (find test (drop (k + 1) xs))) first)

-- ---- own words suffice
module _ (v : Seen) (kept : IsView v) (files : List Entry) (f : Placed) (here : Contains v.files f) (w : List ℕ × ℕ) (there : Contains v.words w) where
  own : List ℕ → Bool
  own word = has_word f.entry.words word && is_candidate files word

  pub own_top : is_top (table_of v) (λ word. has_word f.entry.words word && is_candidate files word) w.0 ≡ (is_increment (table_of v) files w.0 && has_word f.entry.words w.0)
  own_top = by (has_word f.entry.words w.0) refl
    where
      above : has_word f.entry.words w.0 ≡ true
          → list_any (λ q. entails (table_of v) w.0 q && not (same_word q w.0) && (has_word f.entry.words q && is_candidate files q)) (table_of v).known ≡ list_any (is_above (table_of v) files w.0) (table_of v).known
      above has = any_same _ _ (table_of v).known at
        where
          had : (q : List ℕ) → Among (map (λ (x : List ℕ × ℕ). x.0) v.words) q → entails (table_of v) w.0 q ≡ true → has_word f.entry.words q ≡ true
          had q m e =
              let x = among_map (λ (x : List ℕ × ℕ). x.0) v.words q m in
              ap (has_word f.entry.words) (sym x.2) ∙ kept.closed f w x.0 here there (contains_from_among v.words x.0 x.1) has (ap (entails (table_of v) w.0) x.2 ∙ e)

          at : (q : List ℕ) → Among (map (λ (x : List ℕ × ℕ). x.0) v.words) q → (entails (table_of v) w.0 q && not (same_word q w.0) && (has_word f.entry.words q && is_candidate files q)) ≡ is_above (table_of v) files w.0 q
          at q m = choice (entails (table_of v) w.0 q) (has_word f.entry.words q) (had q m)
            where
              choice : (e h : Bool) → (e ≡ true → h ≡ true) → (e && not (same_word q w.0) && (h && is_candidate files q)) ≡ (e && not (same_word q w.0) && is_candidate files q)
              choice true true had = refl
              choice true false had = absurd (let no = had refl in cc)
              choice false h had = refl

      by : (b : Bool) → has_word f.entry.words w.0 ≡ b → is_top (table_of v) (λ word. has_word f.entry.words word && is_candidate files word) w.0 ≡ (is_increment (table_of v) files w.0 && has_word f.entry.words w.0)
      by true e = rw (above e, e) (sym (and-true (is_increment (table_of v) files w.0)))
      by false e = rw e (sym (and-false (is_increment (table_of v) files w.0)))

-- ---- the first increment
first_mapped : (inc has : List ℕ → Bool) (ws : List (List ℕ × ℕ)) → find has (filter inc (map (λ (w : List ℕ × ℕ). w.0) ws)) ≡ option_map (λ (w : List ℕ × ℕ). w.0) (find (λ (w : List ℕ × ℕ). inc w.0 && has w.0) ws)
first_mapped inc has [] = refl
first_mapped inc has (w ∷ ws) = by (inc w.0) (has w.0) refl (first_mapped inc has ws)
  where
    by : (a b : Bool) → has w.0 ≡ b → find has (filter inc (map (λ (x : List ℕ × ℕ). x.0) ws)) ≡ option_map (λ (x : List ℕ × ℕ). x.0) (find (λ (x : List ℕ × ℕ). inc x.0 && has x.0) ws)
        → find has (cond a (w.0 ∷ filter inc (map (λ (x : List ℕ × ℕ). x.0) ws)) (filter inc (map (λ (x : List ℕ × ℕ). x.0) ws)))
        ≡ option_map (λ (x : List ℕ × ℕ). x.0) (cond (a && b) (Some w) (find (λ (x : List ℕ × ℕ). inc x.0 && has x.0) ws))
    by true true e rest = rw e
    by true false e rest = rw e rest
    by false b e rest = rest

module _ (v : Seen) (kept : IsView v) (found : Rows) (place : List Formula) (tells : TellsTest v (get found 0) (holds_all place)) (e : Entry) where
  pub first_is : first_increment (table_of v) place e ≡ option_map (λ (w : List ℕ × ℕ). w.0) (find (is_step v found e) v.words)
  first_is = ap (λ (files : List Entry). find (has_word e.words) (filter (is_increment (table_of v) files) (table_of v).known)) (sym (found_is v kept found place tells))
      ∙ first_mapped (is_increment (table_of v) (found_files v found)) (has_word e.words) v.words

  pub ends : (n : ℕ) → find (is_step v found e) v.words ≡ None → route_within n (table_of v) place e ≡ []
  ends zero none = refl
  ends (suc n) none = by (is_local (extension (table_of v) place) e) (first_is ∙ ap (option_map (λ (w : List ℕ × ℕ). w.0)) none)
    where
      by : (b : Bool) → first_increment (table_of v) place e ≡ None → cond b [] (word_then (first_increment (table_of v) place e) (λ p. route_within n (table_of v) (place ++ step_of p ∷ []) e)) ≡ []
      by true first = refl
      by false first = rw first

  pub goes_on : (n : ℕ) (w : List ℕ × ℕ) → find (is_step v found e) v.words ≡ Some w → route_within (suc n) (table_of v) place e ≡ w.0 ∷ route_within n (table_of v) (place ++ step_of w.0 ∷ []) e
  goes_on n w first =
      let word = first_is ∙ ap (option_map (λ (x : List ℕ × ℕ). x.0)) first in
      let parts = and_parts (is_increment (table_of v) (found_files v found) w.0) (has_word e.words w.0) (find_is (is_step v found e) v.words w first).1 in
      let candidate = and_parts (is_candidate (found_files v found) w.0) (not (list_any (is_above (table_of v) (found_files v found) w.0) (table_of v).known)) parts.0 in
      let own = among_from_any (λ (x : List ℕ). same_word x w.0) e.words parts.1 in
      let covered : list_any (is_candidate (found_files v found)) e.words ≡ true = any_from_among (is_candidate (found_files v found)) e.words own.0 own.1 (ap (is_candidate (found_files v found)) ((bytes_eq-Decides own.0 w.0).0 own.2) ∙ candidate.0) in
      let open_way : is_local (extension (table_of v) place) e ≡ false = ap (λ (files : List Entry). is_local files e) (sym (found_is v kept found place tells)) ∙ ap not covered in
      rw (open_way, word)

  -- the files of the place with one more step
  pub tells_on : (new : Rows) (w : List ℕ × ℕ) → Contains v.words w → ((slot : ℕ) → slot < v.limits.files → get new 0 slot ≡ true → get found 0 slot ≡ true)
      → ((f : Placed) → Contains v.files f → get new 0 f.slot ≡ (get found 0 f.slot && has_word f.entry.words w.0)) → TellsTest v (get new 0) (holds_all (place ++ step_of w.0 ∷ []))
  tells_on new w there fewer told = record {
    told = λ f here. told f here
        ∙ (ap (λ b. b && has_word f.entry.words w.0) (tells.told f here)
        ∙ (ap (λ b. holds_all place f.entry && b) (sym (kept.steps f w here there) ∙ sym (and-true (holds (step_of w.0) f.entry)))
        ∙ sym (list_all-append (λ (step : Formula). holds step f.entry) place (step_of w.0 ∷ []))));
    none = λ slot lt free. by slot lt free (get new 0 slot) refl;
  }
    where
      by : (slot : ℕ) → slot < v.limits.files → find (λ (f : Placed). f.slot == slot) v.files ≡ None → (b : Bool) → get new 0 slot ≡ b → b ≡ false
      by slot lt free false e = refl
      by slot lt free true e = absurd (let set = fewer slot lt e in let clear = tells.none slot lt free in cc)

-- ---- a route is shorter than the extension
some_here : (files : List Entry) (e : Entry) → Among files e → 0 < length files
some_here [] e m = absurd m
some_here (x ∷ files) e m = omega arith

module _ (v : Seen) (kept : IsView v) where
  further_is : (place : List Formula) (w : List ℕ × ℕ) → Contains v.words w → extension (table_of v) (place ++ step_of w.0 ∷ []) ≡ filter (λ (e : Entry). has_word e.words w.0) (extension (table_of v) place)
  further_is place w there =
      filter_same (holds_all (place ++ step_of w.0 ∷ [])) (λ (e : Entry). holds_all place e && has_word e.words w.0) (table_of v).files
      (λ e m. list_all-append (λ (step : Formula). holds step e) place (step_of w.0 ∷ []) ∙ ap (λ b. holds_all place e && b) (and-true (holds (step_of w.0) e) ∙ step e m))
      ∙ sym (filter_twice (holds_all place) (λ (e : Entry). has_word e.words w.0) (table_of v).files)
    where
      step : (e : Entry) → Among (map (λ (f : Placed). f.entry) v.files) e → holds (step_of w.0) e ≡ has_word e.words w.0
      step e m = let f = among_map (λ (f : Placed). f.entry) v.files e m in subst (λ (k : Entry). holds (step_of w.0) k ≡ has_word k.words w.0) f.2 (kept.steps f.0 w (contains_from_among v.files f.0 f.1) there)

  pub shorter : (n : ℕ) (place : List Formula) (e : Entry) → Among (extension (table_of v) place) e → length (route_within n (table_of v) place e) < length (extension (table_of v) place)
  shorter zero place e m = some_here (extension (table_of v) place) e m
  shorter (suc n) place e m = by (is_local (extension (table_of v) place) e) (first_increment (table_of v) place e) refl (shorter n)
    where
      by : (b : Bool) (first : Option (List ℕ)) → first_increment (table_of v) place e ≡ first
          → ((further : List Formula) (o : Entry) → Among (extension (table_of v) further) o → length (route_within n (table_of v) further o) < length (extension (table_of v) further))
          → length (cond b [] (word_then first (λ p. route_within n (table_of v) (place ++ step_of p ∷ []) e))) < length (extension (table_of v) place)
      by true first is more = some_here (extension (table_of v) place) e m
      by false None is more = some_here (extension (table_of v) place) e m
      by false (Some p) is more =
          let found = find_is (has_word e.words) (increments (table_of v) place) p is in
          let known = among_filter (is_increment (table_of v) (extension (table_of v) place)) (table_of v).known p found.0 in
          let w = among_map (λ (x : List ℕ × ℕ). x.0) v.words p known.0 in
          let there = contains_from_among v.words w.0 w.1 in
          let files = extension (table_of v) place in
          let further : extension (table_of v) (place ++ step_of p ∷ []) ≡ filter (λ (o : Entry). has_word o.words p) files = subst (λ (q : List ℕ). extension (table_of v) (place ++ step_of q ∷ []) ≡ filter (λ (o : Entry). has_word o.words q) files) w.2 (further_is place w.0 there) in
          let inside : Among (extension (table_of v) (place ++ step_of p ∷ [])) e = subst (λ (es : List Entry). Among es e) (sym further) (filter_among (λ (o : Entry). has_word o.words p) files e m found.1) in
          let candidate = and_parts (is_candidate files p) (not (list_any (is_above (table_of v) files p) (table_of v).known)) known.1 in
          let lacks = (and_parts (list_any (λ (o : Entry). has_word o.words p) files) (list_any (λ (o : Entry). not (has_word o.words p)) files) candidate.0).1 in
          let fewer = filter_fewer (λ (o : Entry). has_word o.words p) files lacks in
          let rest = more (place ++ step_of p ∷ []) e inside in
          let same = ap length further in
          omega arith

-- ---- how many are found
module _ {X : Type 0} (test : X → Bool) (xs : List X) (k : ℕ) (x : X) (at : slice_get xs k ≡ Some x) where
  counted : length (filter test (take (k + 1) xs)) ≡ length (filter test (take k xs)) + length (filter test (x ∷ []))
  counted =
      ap (λ ys. length (filter test ys)) (take_more xs k x (slice_get_within xs k x at) ∙ ap (λ y. take k xs ++ y ∷ []) (get_or_from_slice_get xs k x x at))
      ∙ (ap length (filter-append test (take k xs) (x ∷ [])) ∙ length-append (filter test (take k xs)) (filter test (x ∷ [])))

  pub one_counted : test x ≡ true → length (filter test (take k xs)) + 1 ≡ length (filter test (take (k + 1) xs))
  one_counted passes = sym (counted ∙ ap (λ n. length (filter test (take k xs)) + n) (rw passes))

  pub none_counted : test x ≡ false → length (filter test (take k xs)) ≡ length (filter test (take (k + 1) xs))
  none_counted fails = sym (counted ∙ (ap (λ n. length (filter test (take k xs)) + n) (rw fails) ∙ add-zero (length (filter test (take k xs)))))

-- ---- indexes
pub word_at : (v : Seen) (k : ℕ) (w : List ℕ × ℕ) → slice_get v.words k ≡ Some w → word_of v k ≡ w.0
word_at v k w at = ap (λ o. unwrap_or (option_map (λ (x : List ℕ × ℕ). x.0) o) []) at

pub known_more : (v : Seen) (places : List ℕ) (k : ℕ) → AreKnown v places → k < length v.words → AreKnown v (places ++ k ∷ [])
known_more v places k known lt i below = by (cases_lt i (length places))
  where
    by : (i < length places) ⊎ (length places ≤ i) → get_or (places ++ k ∷ []) i 0 < length v.words
    by (inl before) = let same = get_or-append places (k ∷ []) 0 i before in let old = known i before in omega arith
    by (inr end) = let last : i ≡ length places = omega (arith, length-append places (k ∷ [])) in let same = get_or-append_seam places k [] 0 in rw last (omega arith)

pub steps_next : (v : Seen) (items : List ℕ) (steps step place : ℕ) (w : List ℕ × ℕ) → step < steps → steps ≤ length items → place ≡ get_or items step place → slice_get v.words place ≡ Some w
    → words_of v (drop step (take steps items)) ≡ w.0 ∷ words_of v (drop (step + 1) (take steps items))
steps_next v items steps step place w lt few is at =
    let here : step < length (take steps items) = omega (arith, length-take {A = ℕ}) in
    let first : get_or (take steps items) step 0 ≡ place = get_or-take steps items step 0 lt ∙ (get_or_default items step 0 place (omega arith) ∙ sym is) in
    ap (words_of v) (drop_more (take steps items) step 0 here) ∙ ap (λ (word : List ℕ). word ∷ words_of v (drop (step + 1) (take steps items))) (ap (word_of v) first ∙ word_at v place w at)

-- no step yet
pub walks_start : (v : Seen) (found : Rows) (most : ℕ) (place : List Formula) (e : Entry) → TellsTest v (get found 0) (holds_all place) → Walks v found (most - 0) [] place e (route_within most (table_of v) place e)
walks_start v found most place e tells = let all : most - 0 ≡ most = omega arith in record { tells = rw (append-nil place) tells; rest = rw (append-nil place, all) refl }

-- the file has the word of its first step
pub step_had : (v : Seen) (found : Rows) (e : Entry) (w : List ℕ × ℕ) → find (is_step v found e) v.words ≡ Some w → has_word e.words w.0 ≡ true
step_had v found e w first = (and_parts (is_increment (table_of v) (found_files v found) w.0) (has_word e.words w.0) (find_is (is_step v found e) v.words w first).1).1

-- one more step
pub walks_on : (v : Seen) → IsView v → (old new : Rows) (left : ℕ) (places : List ℕ) (k : ℕ) (w : List ℕ × ℕ) (place : List Formula) (e : Entry) (all : List (List ℕ)) → Walks v old (suc left) places place e all
    → slice_get v.words k ≡ Some w → find (is_step v old e) v.words ≡ Some w → ((slot : ℕ) → slot < v.limits.files → get new 0 slot ≡ true → get old 0 slot ≡ true)
    → ((f : Placed) → Contains v.files f → get new 0 f.slot ≡ (get old 0 f.slot && has_word f.entry.words w.0)) → Walks v new left (places ++ k ∷ []) place e all
walks_on v kept old new left places k w place e all walks at first fewer told = record {
  tells = subst (λ (steps : List Formula). TellsTest v (get new 0) (holds_all steps)) (sym more) (tells_on v kept old (further place (words_of v places)) walks.tells e new w (contains_at v.words k w at) fewer told);
  rest = walks.rest
      ∙ (ap (λ ws. words_of v places ++ ws) (goes_on v kept old (further place (words_of v places)) walks.tells e left w first ∙ ap (λ (steps : List Formula). w.0 ∷ route_within left (table_of v) steps e) (sym more))
      ∙ (sym (append_assoc (words_of v places) (w.0 ∷ []) (route_within left (table_of v) (further place (words_of v (places ++ k ∷ []))) e))
      ∙ ap (λ ws. ws ++ route_within left (table_of v) (further place (words_of v (places ++ k ∷ []))) e) (sym words)));
}
  where
    words : words_of v (places ++ k ∷ []) ≡ words_of v places ++ w.0 ∷ []
    words = map-append (word_of v) places (k ∷ []) ∙ ap (λ (word : List ℕ). words_of v places ++ word ∷ []) (word_at v k w at)

    more : further place (words_of v (places ++ k ∷ [])) ≡ further place (words_of v places) ++ step_of w.0 ∷ []
    more = ap (further place) words ∙ (ap (λ steps. place ++ steps) (map-append step_of (words_of v places) (w.0 ∷ [])) ∙ sym (append_assoc place (map step_of (words_of v places)) (step_of w.0 ∷ [])))

-- ---- the file that has the name
pub no_file : (v : Seen) (place : List Formula) (name : List ℕ) → find (λ (f : Placed). same_word f.entry.name name) v.files ≡ None → file_here (table_of v) place name ≡ None
no_file v place name none = by (file_here (table_of v) place name) refl
  where
    by : (o : Option Entry) → file_here (table_of v) place name ≡ o → o ≡ None
    by None is = refl
    by (Some e) is =
        let found = find_is (λ (x : Entry). same_word x.name name) (extension (table_of v) place) e is in
        let inside = among_filter (holds_all place) (table_of v).files e found.0 in
        let f = among_map (λ (g : Placed). g.entry) v.files e inside.0 in
        let first = find_first (λ (g : Placed). same_word g.entry.name name) v.files f.0 f.1 (ap (λ (x : Entry). same_word x.name name) f.2 ∙ found.1) in
        absurd (let some = first.1 in cc)

module _ (v : Seen) (kept : IsView v) (place : List Formula) (name : List ℕ) (f : Placed) (here : Contains v.files f) (named : f.entry.name ≡ name) where
  only : (e : Entry) → Among (extension (table_of v) place) e → same_word e.name name ≡ true → (e ≡ f.entry) × (holds_all place e ≡ true)
  only e m same =
      let inside = among_filter (holds_all place) (table_of v).files e m in
      let g = among_map (λ (g : Placed). g.entry) v.files e inside.0 in
      let one = kept.one_name g.0 f (contains_from_among v.files g.0 g.1) here (ap (λ (x : Entry). x.name) g.2 ∙ ((bytes_eq-Decides e.name name).0 same ∙ sym named)) in
      (sym g.2 ∙ ap (λ (x : Placed). x.entry) one, inside.1)

  pub not_here : holds_all place f.entry ≡ false → file_here (table_of v) place name ≡ None
  not_here out = by (file_here (table_of v) place name) refl
    where
      by : (o : Option Entry) → file_here (table_of v) place name ≡ o → o ≡ None
      by None is = refl
      by (Some e) is =
          let found = find_is (λ (x : Entry). same_word x.name name) (extension (table_of v) place) e is in
          let parts = only e found.0 found.1 in
          absurd (let same = ap (holds_all place) parts.0 in let holds = parts.1 in cc)

  pub among_here : holds_all place f.entry ≡ true → Among (extension (table_of v) place) f.entry
  among_here inside = filter_among (holds_all place) (table_of v).files f.entry (map_among (λ (g : Placed). g.entry) v.files f (among_from_contains v.files f here)) inside

  pub is_here : holds_all place f.entry ≡ true → file_here (table_of v) place name ≡ Some f.entry
  is_here inside =
      let first = find_first (λ (x : Entry). same_word x.name name) (extension (table_of v) place) f.entry (among_here inside) ((bytes_eq-Decides f.entry.name name).1 named) in
      first.1 ∙ ap Some (only first.0 first.2 first.3).0

pub file_named : (v : Seen) (name : List ℕ) (slot : ℕ) → Some slot ≡ option_map (λ (f : Placed). f.slot) (find (λ (f : Placed). same_word f.entry.name name) v.files) → (f : Placed) × Contains v.files f × (f.entry.name ≡ name) × (f.slot ≡ slot)
file_named v name slot e =
    let found = mapped_some (λ (f : Placed). f.slot) (find (λ (f : Placed). same_word f.entry.name name) v.files) slot e in
    let is = find_is (λ (f : Placed). same_word f.entry.name name) v.files found.0 found.1 in
    (found.0, contains_from_among v.files found.0 is.0, (bytes_eq-Decides found.0.entry.name name).0 is.1, found.2)
