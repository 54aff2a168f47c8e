-- Entries in the order of their words, each with a separate number.
use Rattle.std.proofs.Common.{◌≡◌, ◌⊎◌, ℕ, ◌==◌, Bool, true, false, not, ◌&&◌, cond, List, [], ◌∷◌, map, filter, refl, sym, ap, subst, ◌∙◌, inl, inr}
use Rattle.std.specs.declared.cmp.Ordering.{Ordering}
use Rattle.std.specs.declared.cmp.Ordering.TheVariants.{Less, Equal, Greater}
use Rattle.std.specs.Ordering.{match_ordering, ordering_reverse, is_lt}
use Rattle.std.specs.Cmp.{IsTotalOrder, tied_itself}
use Rattle.std.specs.BTreeSet.{insert_key}
use Rattle.std.specs.List.{list_any}
use Rattle.std.proofs.lemmas.Bool.{and_parts, and_from, eq-eqb, eqb-true}
use Rattle.std.proofs.lemmas.Cmp.{nat_list_cmp_total}
use Rattle.lis_graph.specs.Graph.{is_rising}
use Rattle.lis_graph.proofs.Members.{Among, among_filter, among_insert_key, among_map, map_among, all_among, all_from, among_from_any, any_from_among}
use Rattle.lis_graph.proofs.Sets.{less_from}
use Rattle.lis_words.specs.Words.{word_cmp}
use Rattle.lis_model.specs.Sets.{are_distinct}
use Rattle.lis_dict.specs.Dict.{entry_cmp}

abbrev pub DictEntry : Type 0
DictEntry = List ℕ × ℕ

pub word_order : IsTotalOrder word_cmp
word_order = nat_list_cmp_total

pub below_none : (word : List ℕ) → word_cmp word word ≡ Less → ⊥
below_none word less = let level = tied_itself word_order word in cc

pub turned : (a b : List ℕ) (r : Ordering) → word_cmp a b ≡ r → word_cmp b a ≡ ordering_reverse r
turned a b r e = word_order.antisymm b a ∙ ap ordering_reverse e

-- each word is below those after it
abbrev pub Ordered : List DictEntry → Type 0
Ordered [] = Unit {0}
Ordered (e ∷ es) = ((x : DictEntry) → Among es x → word_cmp e.0 x.0 ≡ Less) × Ordered es

-- no later entry has the number
abbrev pub Apart : List DictEntry → Type 0
Apart [] = Unit {0}
Apart (e ∷ es) = ((x : DictEntry) → Among es x → x.1 ≡ e.1 → ⊥) × Apart es

-- ---- the tests
pub ordered_from_rising : (es : List DictEntry) → is_rising word_cmp (map (λ e. e.0) es) ≡ true → Ordered es
ordered_from_rising [] h = tt
ordered_from_rising (e ∷ es) h =
    let parts = and_parts _ _ h in
    (λ x m. less_from (word_cmp e.0 x.0) (all_among (λ w. is_lt (word_cmp e.0 w)) (map (λ (y : DictEntry). y.0) es) x.0 parts.0 (map_among (λ (y : DictEntry). y.0) es x m)), ordered_from_rising es parts.1)

pub rising_from_ordered : (es : List DictEntry) → Ordered es → is_rising word_cmp (map (λ e. e.0) es) ≡ true
rising_from_ordered [] h = refl
rising_from_ordered (e ∷ es) h = and_from _ _ (all_from (λ w. is_lt (word_cmp e.0 w)) (map (λ (y : DictEntry). y.0) es) (λ w m. let x = among_map (λ (y : DictEntry). y.0) es w m in ap is_lt (ap (word_cmp e.0) (sym x.2) ∙ h.0 x.0 x.1))) (rising_from_ordered es h.1)

pub apart_from_distinct : (es : List DictEntry) → are_distinct (map (λ e. e.1) es) ≡ true → Apart es
apart_from_distinct [] h = tt
apart_from_distinct (e ∷ es) h = by (list_any (λ m. m == e.1) (map (λ (y : DictEntry). y.1) es)) refl h (apart_from_distinct es)
  where
    by : (b : Bool) → list_any (λ m. m == e.1) (map (λ (y : DictEntry). y.1) es) ≡ b → (not b && are_distinct (map (λ e. e.1) es)) ≡ true → (are_distinct (map (λ e. e.1) es) ≡ true → Apart es) → Apart (e ∷ es)
    by true is distinct more = absurd cc
    by false is distinct more = (λ x m same. let some = any_from_among (λ n. n == e.1) (map (λ (y : DictEntry). y.1) es) x.1 (map_among (λ (y : DictEntry). y.1) es x m) (eq-eqb x.1 e.1 same) in cc, more distinct)

pub distinct_from_apart : (es : List DictEntry) → Apart es → are_distinct (map (λ e. e.1) es) ≡ true
distinct_from_apart [] h = refl
distinct_from_apart (e ∷ es) h = by (list_any (λ m. m == e.1) (map (λ (y : DictEntry). y.1) es)) refl (distinct_from_apart es h.1)
  where
    by : (b : Bool) → list_any (λ m. m == e.1) (map (λ (y : DictEntry). y.1) es) ≡ b → are_distinct (map (λ e. e.1) es) ≡ true → (not b && are_distinct (map (λ e. e.1) es)) ≡ true
    by true is distinct =
        let some = among_from_any (λ m. m == e.1) (map (λ (y : DictEntry). y.1) es) is in
        let x = among_map (λ (y : DictEntry). y.1) es some.0 some.1 in
        absurd (h.0 x.0 x.1 (x.2 ∙ eqb-true some.0 e.1 some.2))
    by false is distinct = distinct

-- ---- an entry is known by its word, and by its number
pub unique_word : (es : List DictEntry) → Ordered es → (a b : DictEntry) → Among es a → Among es b → a.0 ≡ b.0 → a ≡ b
unique_word [] h a b m n same = absurd m
unique_word (e ∷ es) h a b (inl at) (inl bt) same = sym at ∙ bt
unique_word (e ∷ es) h a b (inl at) (inr bt) same =
    absurd (below_none b.0 (subst (λ w. word_cmp w b.0 ≡ Less) (ap (λ (x : DictEntry). x.0) at ∙ same) (h.0 b bt)))
unique_word (e ∷ es) h a b (inr at) (inl bt) same =
    absurd (below_none a.0 (subst (λ w. word_cmp w a.0 ≡ Less) (ap (λ (x : DictEntry). x.0) bt ∙ sym same) (h.0 a at)))
unique_word (e ∷ es) h a b (inr at) (inr bt) same = unique_word es h.1 a b at bt same

pub unique_number : (es : List DictEntry) → Apart es → (a b : DictEntry) → Among es a → Among es b → a.1 ≡ b.1 → a ≡ b
unique_number [] h a b m n same = absurd m
unique_number (e ∷ es) h a b (inl at) (inl bt) same = sym at ∙ bt
unique_number (e ∷ es) h a b (inl at) (inr bt) same = absurd (h.0 b bt (sym same ∙ sym (ap (λ (x : DictEntry). x.1) at)))
unique_number (e ∷ es) h a b (inr at) (inl bt) same = absurd (h.0 a at (same ∙ sym (ap (λ (x : DictEntry). x.1) bt)))
unique_number (e ∷ es) h a b (inr at) (inr bt) same = unique_number es h.1 a b at bt same

-- ---- one more entry
pub ordered_insert : (es : List DictEntry) (k : DictEntry) → Ordered es → Ordered (insert_key entry_cmp es k)
ordered_insert [] k h = (λ x m. absurd m, tt)
ordered_insert (e ∷ es) k h = by (word_cmp k.0 e.0) refl (ordered_insert es k h.1)
  where
    after : word_cmp k.0 e.0 ≡ Less → (x : DictEntry) → Among (e ∷ es) x → word_cmp k.0 x.0 ≡ Less
    after less x (inl same) = subst (λ (y : DictEntry). word_cmp k.0 y.0 ≡ Less) same less
    after less x (inr m) = word_order.trans k.0 e.0 x.0 less (h.0 x m)

    before : word_cmp k.0 e.0 ≡ Greater → (x : DictEntry) → (k ≡ x) ⊎ Among es x → word_cmp e.0 x.0 ≡ Less
    before greater x (inl same) = subst (λ (y : DictEntry). word_cmp e.0 y.0 ≡ Less) same (turned k.0 e.0 Greater greater)
    before greater x (inr m) = h.0 x m

    by : (r : Ordering) → word_cmp k.0 e.0 ≡ r → Ordered (insert_key entry_cmp es k) → Ordered (match_ordering r (k ∷ e ∷ es) (e ∷ es) (e ∷ insert_key entry_cmp es k))
    by Less is rest = (after is, h)
    by Equal is rest = h
    by Greater is rest = (λ x m. before is x (among_insert_key entry_cmp es k x m), rest)

pub apart_insert : (es : List DictEntry) (k : DictEntry) → Apart es → ((x : DictEntry) → Among es x → x.1 ≡ k.1 → ⊥) → Apart (insert_key entry_cmp es k)
apart_insert [] k h new = (λ x m. absurd m, tt)
apart_insert (e ∷ es) k h new = by (word_cmp k.0 e.0) (apart_insert es k h.1 (λ x m. new x (inr m)))
  where
    before : (x : DictEntry) → (k ≡ x) ⊎ Among es x → x.1 ≡ e.1 → ⊥
    before x (inl same) is = new e (inl refl) (sym is ∙ sym (ap (λ (y : DictEntry). y.1) same))
    before x (inr m) is = h.0 x m is

    by : (r : Ordering) → Apart (insert_key entry_cmp es k) → Apart (match_ordering r (k ∷ e ∷ es) (e ∷ es) (e ∷ insert_key entry_cmp es k))
    by Less rest = (new, h)
    by Equal rest = h
    by Greater rest = (λ x m. before x (among_insert_key entry_cmp es k x m), rest)

-- ---- some of the entries
pub ordered_filter : (keep : DictEntry → Bool) (es : List DictEntry) → Ordered es → Ordered (filter keep es)
ordered_filter keep [] h = tt
ordered_filter keep (e ∷ es) h = by (keep e) (ordered_filter keep es h.1)
  where
    by : (b : Bool) → Ordered (filter keep es) → Ordered (cond b (e ∷ filter keep es) (filter keep es))
    by true rest = (λ x m. h.0 x (among_filter keep es x m).0, rest)
    by false rest = rest

pub apart_filter : (keep : DictEntry → Bool) (es : List DictEntry) → Apart es → Apart (filter keep es)
apart_filter keep [] h = tt
apart_filter keep (e ∷ es) h = by (keep e) (apart_filter keep es h.1)
  where
    by : (b : Bool) → Apart (filter keep es) → Apart (cond b (e ∷ filter keep es) (filter keep es))
    by true rest = (λ x m. h.0 x (among_filter keep es x m).0, rest)
    by false rest = rest
