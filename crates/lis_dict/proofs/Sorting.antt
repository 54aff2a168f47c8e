-- Sorted numbers are the order of a dictionary if no two of them have the same word.
use Rattle.std.proofs.Common.{◌≡◌, ℕ, ◌<◌, nat_lt, is_some, unwrap_or, Option, Some, None, List, [], length, get_or, map, IsTrue, refl, ap, ◌∙◌, arith}
use Rattle.std.proofs.lemmas.Bool.{lt-ltb}
use Rattle.std.proofs.lemmas.List.{length-map}
use Rattle.std.proofs.lemmas.List.Folds.{list_all-map}
use Rattle.std.proofs.lemmas.List.Sums.{count_by-le-length}
use Rattle.std.proofs.lemmas.Map.Lookups.{exact_bytes}
use Rattle.lis_limits.specs.declared.TheConstants.{V3_MAX_PROPS}
use Rattle.lis_graph.specs.Again.{IsFirstAgain}
use Rattle.lis_graph.specs.Inside.{IsUnsorted, RisesByName, IsLeastRepeat}
use Rattle.lis_graph.proofs.Repeats.{within, at_most_once, rise, first_again as first_name_again}
use Rattle.lis_graph.proofs.Entries.{all_pass, rising_from, keys, told as told_by_entries}
use Rattle.lis_words.specs.Words.{is_property, word_cmp}
use Rattle.lis_model.specs.Sets.{are_distinct}
use Rattle.lis_model.proofs.Distinct.{distinct_from}
use Rattle.lis_dict.specs.Dict.{IsDict, word_of}
use Rattle.lis_dict.specs.Inside.{Holders, word_in, entry_in, dict_of, IsSoundDict}
use Rattle.lis_dict.proofs.Entries.{DictEntry, word_order}

module _ (held : Holders) (order : List ℕ) (room : ℕ) (h : IsUnsorted V3_MAX_PROPS held order room) (by_word : RisesByName word_cmp (word_in held) order) where
  named : (n : ℕ) (word : List ℕ) → get_or held n None ≡ Some word → word_in held n ≡ word
  named n word is = ap (λ (o : Option (List ℕ)). unwrap_or o []) is

  pub first_again : (n : ℕ) → IsLeastRepeat (word_in held) order (length order) (Some n) → IsFirstAgain (λ (word : List ℕ). word) held n
  first_again = first_name_again word_cmp word_order (word_in held) exact_bytes order by_word (λ word. word) V3_MAX_PROPS held room h named

  module _ (none : IsLeastRepeat (word_in held) order (length order) None) (forms : (k : ℕ) → k < length order → IsTrue (is_property (word_in held (get_or order k 0)))) where
    is_dict : IsDict (dict_of (length held) held order)
    is_dict = record {
      rising = rising_from (entry_in held) word_cmp (λ (e : DictEntry). e.0) order (rise word_cmp word_order (word_in held) exact_bytes order by_word none);
      forms = list_all-map is_property (λ (e : DictEntry). e.0) (map (entry_in held) order) ∙ all_pass (entry_in held) (λ (e : DictEntry). is_property e.0) order forms;
      below = all_pass (entry_in held) (λ (e : DictEntry). nat_lt e.1 (length held)) order (λ k lt. lt-ltb (get_or order k 0) (length held) (within V3_MAX_PROPS held order room h k lt));
      apart = ap are_distinct (keys (entry_in held) (λ (e : DictEntry). e.1) (λ n. refl) order) ∙ distinct_from order (at_most_once V3_MAX_PROPS held order room h);
      few = omega (arith, length-map order (entry_in held), h.counted, count_by-le-length is_some held);
    }

    pub told : (n : ℕ) → get_or held n None ≡ word_of (dict_of (length held) held order) n
    told = told_by_entries (entry_in held) (λ (e : DictEntry). e.1) (λ n. refl) (λ (e : DictEntry). e.0) V3_MAX_PROPS held order room h named

    pub sound : IsSoundDict (length held) held order room
    sound = record {
      dict = is_dict;
      limit = h.limit;
      table = refl;
      told = told;
      counted = h.counted;
      has_room = h.has_room;
    }
