-- The declared words by their numbers, and lists.
use Rattle.lis_kept.proofs.Common.{rules, ◌≡◌, refl, ap, ap₂, ◌∙◌, inl, inr, ℕ, true, List, [], ◌∷◌, ◌++◌, Option, Some, None, flat_map, IsStrictlySortedBy, IsStrictlySortedBy-filter, Among, among_filter, sorted_from_rising, IsDict, number_of, word_of, word_from_number, number_from_word, word_cmp, word_order, filter_among, map_among, words}
use Rattle.lis_blockmap.specs.Bitmap.{is_taken}
use Rattle.lis_dict.proofs.Laws.{among_from_number}
use Rattle.lis_kept.specs.Metadata.{Metadata}
use Rattle.lis_kept.specs.Telling.{bit_of, is_declared, declared_of}

-- ---- lists
pub flat_all : {X Y : Type 0} (f g : X → List Y) (xs : List X) → ((x : X) → Among xs x → f x ≡ g x) → flat_map f xs ≡ flat_map g xs
flat_all f g [] same = refl
flat_all f g (x ∷ xs) same = ap₂ (λ ys zs. ys ++ zs) (same x (inl refl)) (flat_all f g xs (λ z m. same z (inr m)))

-- ---- a word's bit
-- a declared word is one whose bit is set
pub declared_there : (k : Metadata) (w : List ℕ) → is_declared k w ≡ true → Among (declared_of k) w
declared_there k w is = filter_among (is_declared k) (words k.dict) w (by (number_of k.dict w) refl is) is
  where
    by : (o : Option ℕ) → number_of k.dict w ≡ o → bit_of k.declared o ≡ true → Among (words k.dict) w
    by None e bit = absurd cc
    by (Some n) e bit = map_among (λ (x : List ℕ × ℕ). x.0) k.dict.entries (w, n) (among_from_number k.dict w n e)

pub there_declared : (k : Metadata) (w : List ℕ) → Among (declared_of k) w → is_declared k w ≡ true
there_declared k w m = (among_filter (is_declared k) (words k.dict) w m).1

pub sorted_declared : (k : Metadata) → IsDict k.dict → IsStrictlySortedBy word_cmp (declared_of k)
sorted_declared k dict = IsStrictlySortedBy-filter word_cmp (is_declared k) (words k.dict) (sorted_from_rising word_cmp word_order (words k.dict) dict.rising)

-- and its number
pub declared_at : (k : Metadata) → IsDict k.dict → (w : List ℕ) → Among (declared_of k) w → (n : ℕ) × (word_of k.dict n ≡ Some w) × (is_taken k.declared n ≡ true)
declared_at k dict w m = search (rules, there_declared, word_from_number)

pub at_declared : (k : Metadata) → IsDict k.dict → (n : ℕ) (w : List ℕ) → word_of k.dict n ≡ Some w → is_taken k.declared n ≡ true → Among (declared_of k) w
at_declared k dict n w is bit = declared_there k w (ap (bit_of k.declared) (number_from_word k.dict dict w n is) ∙ bit)
