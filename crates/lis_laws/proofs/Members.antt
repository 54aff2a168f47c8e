-- Members of lists of words, and the laws of sets of words.
use Rattle.std.proofs.Common.{◌≡◌, ◌⊎◌, ℕ, true, List, [], Decides, inl, inr}
use Rattle.std.specs.Cmp.{IsTotalOrder}
use Rattle.std.specs.List.Sorted.{IsStrictlySortedBy}
use Rattle.std.proofs.lemmas.Cmp.{nat_list_cmp_total}
use Rattle.std.proofs.lemmas.Slice.Eq.{bytes_eq-Decides}
use Rattle.std.proofs.lemmas.Map.Lookups.{CmpEqualImpliesEq, exact_bytes}
use Rattle.lis_graph.proofs.Members as members
use Rattle.lis_graph.proofs.Members.{Among}
use Rattle.lis_graph.proofs.Pairs.{pairs_exact, pairs_total}
use Rattle.lis_graph.proofs.Sets as sets
use Rattle.lis_words.specs.Words.{word_cmp, same_word, has_word}
use Rattle.lis_model.specs.Sets.{with_words, set_of}
use Rattle.lis_model.specs.State.{pair_cmp}

pub same_word_decides : (x y : List ℕ) → Decides (same_word x y) (x ≡ y)
same_word_decides x y = bytes_eq-Decides x y

pub word_exact : CmpEqualImpliesEq word_cmp
word_exact = exact_bytes

pub word_order : IsTotalOrder word_cmp
word_order = nat_list_cmp_total

pub pair_exact : CmpEqualImpliesEq pair_cmp
pair_exact = pairs_exact word_cmp word_cmp word_order word_order word_exact word_exact

pub pair_order : IsTotalOrder pair_cmp
pair_order = pairs_total word_cmp word_cmp word_order word_order word_exact word_exact

pub among_from_has_word : (words : List (List ℕ)) (word : List ℕ) → has_word words word ≡ true → Among words word
among_from_has_word = members.among_from_has same_word same_word_decides

pub has_word_from_among : (words : List (List ℕ)) (word : List ℕ) → Among words word → has_word words word ≡ true
has_word_from_among = members.has_from_among same_word same_word_decides

pub among_with_words : (words more : List (List ℕ)) (word : List ℕ) → Among (with_words words more) word → Among words word ⊎ Among more word
among_with_words = members.among_with_more word_cmp

pub with_words_old : (words more : List (List ℕ)) (word : List ℕ) → Among words word → Among (with_words words more) word
with_words_old = members.with_more_old word_cmp

pub with_words_new : (words more : List (List ℕ)) (word : List ℕ) → Among more word → Among (with_words words more) word
with_words_new = members.with_more_new word_cmp word_exact

pub among_set_of : (words : List (List ℕ)) (word : List ℕ) → Among (set_of words) word → Among words word
among_set_of words word h = by (among_with_words [] words word h)
  where
    by : Among {K = List ℕ} [] word ⊎ Among words word → Among words word
    by (inl none) = absurd none
    by (inr found) = found

pub set_of_among : (words : List (List ℕ)) (word : List ℕ) → Among words word → Among (set_of words) word
set_of_among words word h = with_words_new [] words word h

pub sorted_with_words : (words more : List (List ℕ)) → IsStrictlySortedBy word_cmp words → IsStrictlySortedBy word_cmp (with_words words more)
sorted_with_words = sets.sorted_with_more word_cmp word_order

pub sorted_set_of : (words : List (List ℕ)) → IsStrictlySortedBy word_cmp (set_of words)
sorted_set_of words = sorted_with_words [] words (sets.sorted_nil word_cmp word_order)

-- two sets with the same members are one list
pub same_words : (words more : List (List ℕ)) → IsStrictlySortedBy word_cmp words → IsStrictlySortedBy word_cmp more → ((w : List ℕ) → Among words w → Among more w) → ((w : List ℕ) → Among more w → Among words w) → words ≡ more
same_words = sets.same_sets word_cmp word_order
