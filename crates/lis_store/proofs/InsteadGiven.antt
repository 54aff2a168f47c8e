-- The words of numbers, put into a set one after another.
use Rattle.lis_store.proofs.Common.{◌≡◌, ◌∙◌, subst, ℕ, ◌+◌, ◌<◌, ◌≤◌, Bool, true, Option, Some, None, option_to_list, List, [], length, take, get_or, sym, ap, arith, flat_map, Dict, word_of, word_cmp, with_words, insert_key_le, le-leb, get_or_default}
use Rattle.lis_store.specs.Assigning.{Takes}
use Rattle.lis_store.proofs.Assigned.{takes_more, flat_next}

abbrev told : Dict → ℕ → List (List ℕ)
told d n = option_to_list (word_of d n)

one_more : (words : List (List ℕ)) (o : Option (List ℕ)) → length (with_words words (option_to_list o)) ≤ length words + 1
one_more words None = omega arith
one_more words (Some word) = insert_key_le word_cmp words word

pub told_next : (d : Dict) (numbers : List ℕ) (i : ℕ) → i < length numbers → length numbers ≤ 16 → (mid new : List (List ℕ)) (fits : Bool)
    → Takes (flat_map (told d) (take i numbers)) [] mid true → length mid ≤ i → Takes (told d (get_or numbers i 0)) mid new fits
    → Takes (flat_map (told d) (take (i + 1) numbers)) [] new true × (length new ≤ i + 1)
told_next d numbers i lt few mid new fits before short next =
    let n = get_or numbers i 0 in
    let longer = one_more mid (word_of d n) in
    let fit : fits ≡ true = next.room ∙ le-leb (length (with_words mid (told d n))) 16 (omega (arith, longer, short, lt, few)) in
    let done : Takes (told d n) mid new true = subst (λ b. Takes (told d n) mid new b) fit next in
    let all = takes_more (flat_map (told d) (take i numbers)) (told d n) [] mid new true before done in (
      subst (λ ws. Takes ws [] new true) (sym (flat_next (told d) numbers i n lt (get_or_default numbers i 0 n lt))) all,
      omega (arith, ap length (next.words fit), longer, short),
    )
