-- The order of names, and files in it.
use Rattle.std.proofs.Common.{◌≡◌, ℕ, ◌≤◌, Bool, true, false, ◌&&◌, List, [], ◌∷◌, map, IsTrue, refl, sym, ap, subst, ◌∙◌, arith}
use Rattle.std.specs.declared.cmp.Ordering.{Ordering}
use Rattle.std.specs.declared.cmp.Ordering.TheVariants.{Less, Equal, Greater}
use Rattle.std.specs.Ordering.{ordering_index, ordering_reverse, is_lt}
use Rattle.std.specs.Cmp.{IsTotalOrder}
use Rattle.std.specs.List.{AllByRecursion, list_all}
use Rattle.std.specs.List.Sorted.{IsStrictlySortedBy}
use Rattle.std.proofs.lemmas.Bool.{and_from}
use Rattle.std.proofs.lemmas.Cmp.{nat_list_cmp_total, tied_itself}
use Rattle.std.proofs.lemmas.Map.Lookups.{CmpEqualImpliesEq, exact_bytes}
use Rattle.std.proofs.lemmas.Slice.Eq.{bytes_eq-Decides}
use Rattle.lis_graph.specs.Graph.{is_rising}
use Rattle.lis_graph.proofs.Sets.{sorted_from_rising, below_tail, sorted_tail}
use Rattle.lis_words.specs.Words.{word_cmp, same_word}
use Rattle.lis_catalog.specs.Catalog.{Filed, filed_cmp}

pub word_order : IsTotalOrder word_cmp
word_order = nat_list_cmp_total

pub word_exact : CmpEqualImpliesEq word_cmp
word_exact = exact_bytes

pub filed_order : IsTotalOrder filed_cmp
filed_order = record {
  antisymm = λ x y. word_order.antisymm x.rec.name y.rec.name;
  trans = λ x y z. word_order.trans x.rec.name y.rec.name z.rec.name;
  congr = λ x y z. word_order.congr x.rec.name y.rec.name z.rec.name;
}

-- ---- two names
pub turned_less : (a b : List ℕ) → word_cmp a b ≡ Less → word_cmp b a ≡ Greater
turned_less a b e = word_order.antisymm b a ∙ ap ordering_reverse e

pub turned_equal : (a b : List ℕ) → word_cmp a b ≡ Equal → word_cmp b a ≡ Equal
turned_equal a b e = word_order.antisymm b a ∙ ap ordering_reverse e

pub turned_greater : (a b : List ℕ) → word_cmp a b ≡ Greater → word_cmp b a ≡ Less
turned_greater a b e = word_order.antisymm b a ∙ ap ordering_reverse e

pub lower : (a b c : List ℕ) → word_cmp a b ≡ Less → word_cmp b c ≡ Less → word_cmp a c ≡ Less
lower a b c = word_order.trans a b c

pub is_same : (name other : List ℕ) → word_cmp name other ≡ Equal → same_word other name ≡ true
is_same name other e = (bytes_eq-Decides other name).1 (sym (word_exact name other e))

pub not_same : (name other : List ℕ) → (word_cmp name other ≡ Equal → ⊥) → same_word other name ≡ false
not_same name other ne = by (same_word other name) refl
  where
    by : (b : Bool) → same_word other name ≡ b → b ≡ false
    by true e = absurd (ne (subst (λ n. word_cmp n other ≡ Equal) ((bytes_eq-Decides other name).0 e) (tied_itself word_order other)))
    by false e = refl

-- one name against the lower and against the higher of two
pub step : (a b name : List ℕ) → word_cmp a b ≡ Less → ordering_index (word_cmp a name) ≤ ordering_index (word_cmp b name)
step a b name less = by (word_cmp a name) refl
  where
    top : word_cmp name b ≡ Less → (o : Ordering) → ordering_index o ≤ 2 → ordering_index o ≤ ordering_index (word_cmp b name)
    top above o le = rw (turned_less name b above) le

    by : (o : Ordering) → word_cmp a name ≡ o → ordering_index o ≤ ordering_index (word_cmp b name)
    by Less e = omega arith
    by Equal e = top (subst (λ n. word_cmp n b ≡ Less) (word_exact a name e) less) Equal (omega arith)
    by Greater e = top (lower name a b (turned_greater a name e) less) Greater (omega arith)

-- ---- rising names are rising files
same_below : (x : Filed) (es : List Filed) → list_all (λ y. is_lt (word_cmp x.rec.name y)) (map (λ (f : Filed). f.rec.name) es) ≡ list_all (λ y. is_lt (filed_cmp x y)) es
same_below x [] = refl
same_below x (e ∷ es) = ap (λ b. is_lt (filed_cmp x e) && b) (same_below x es)

same_rising : (es : List Filed) → is_rising word_cmp (map (λ (f : Filed). f.rec.name) es) ≡ is_rising filed_cmp es
same_rising [] = refl
same_rising (e ∷ es) =
    ap (λ b. b && is_rising word_cmp (map (λ (f : Filed). f.rec.name) es)) (same_below e es)
    ∙ ap (λ b. list_all (λ y. is_lt (filed_cmp e y)) es && b) (same_rising es)

pub sorted_from : (es : List Filed) → IsTrue (is_rising word_cmp (map (λ (f : Filed). f.rec.name) es)) → IsStrictlySortedBy filed_cmp es
sorted_from es h = sorted_from_rising filed_cmp filed_order es (sym (same_rising es) ∙ h)

all_less : (x : Filed) (es : List Filed) → AllByRecursion (λ y. filed_cmp x y ≡ Less) es → list_all (λ y. is_lt (filed_cmp x y)) es ≡ true
all_less x [] h = refl
all_less x (e ∷ es) h = and_from _ _ (ap is_lt h.0) (all_less x es h.1)

rising_sorted : (es : List Filed) → IsStrictlySortedBy filed_cmp es → is_rising filed_cmp es ≡ true
rising_sorted [] h = refl
rising_sorted (e ∷ es) h = and_from _ _ (all_less e es (below_tail filed_cmp filed_order e es h)) (rising_sorted es (sorted_tail filed_cmp filed_order e es h))

pub rising_from : (es : List Filed) → IsStrictlySortedBy filed_cmp es → IsTrue (is_rising word_cmp (map (λ (f : Filed). f.rec.name) es))
rising_from es h = same_rising es ∙ rising_sorted es h
