-- A path of at most eight words that files are given: what it reads as, and its words.
use Rattle.std.proofs.Common.{◌≡◌, ℕ, ◌*◌, ◌≤◌, nat_lt, true, false, Option, Some, List, [], ◌∷◌, ◌++◌, length, map, filter, codes, refl, sym, ap, ◌∙◌, inl, inr, arith}
use Rattle.std.specs.Prelude.{sum_by, option_map, unwrap_or}
use Rattle.std.specs.List.{flat_map}
use Rattle.std.proofs.lemmas.Bool.{false_from_ne_true, ltb-true}
use Rattle.std.proofs.lemmas.List.Sums.{sum_by-cons}
use Rattle.lis_graph.specs.Graph.{is_rising}
use Rattle.lis_graph.proofs.Filters.{filter_all}
use Rattle.lis_graph.proofs.Members.{Among}
use Rattle.lis_words.specs.Words.{word_cmp, same_word}
use Rattle.lis_words.proofs.Tests.{property_short, word_is_property}
use Rattle.lis_grammar.specs.Formula.{Formula}
use Rattle.lis_grammar.specs.Formula.Formula.{Has}
use Rattle.lis_grammar.specs.Grammar.Reads.{from_here}
use Rattle.lis_grammar.specs.Machine.{text_steps}
use Rattle.lis_grammar.specs.Printing.{printed_behind, printed}
use Rattle.lis_grammar.specs.Places.{tree_nodes, AreFit, IsPlace, resolved, path_words, text_words}
use Rattle.lis_grammar.specs.Places.Resolution.{NewPlace}
use Rattle.lis_grammar.proofs.Printed.{path_printed}
use Rattle.lis_grammar.proofs.Forth.{reads_complete}
use Rattle.lis_grammar.proofs.Placed.{test_from_place}
use Rattle.lis_model.specs.Sets.{set_of}
use Rattle.lis_model.specs.Places.{both_lists, all_conjuncts, place_words, is_tag}
use Rattle.lis_model.specs.Step.{tags_at}
use Rattle.lis_laws.proofs.Members.{word_order, same_word_decides}
use Rattle.lis_replay.specs.Dump.{joined_with}
use Rattle.lis_replay.proofs.Rising.{insert_all_next}
use Rattle.lis_replay.proofs.Joined.{joined_short}
use Rattle.lis_replay.proofs.Given.{IsGiven, given_tag}

-- the step of each word
abbrev pub steps_for : List (List ℕ) → List Formula
steps_for words = map (λ word. Has word) words

behind_is : (words : List (List ℕ)) → printed_behind (steps_for words) ≡ flat_map (λ word. 47 ∷ word) words
behind_is [] = refl
behind_is (word ∷ words) = ap (λ bytes. (47 ∷ word) ++ bytes) (behind_is words)

pub printed_is : (word : List ℕ) (words : List (List ℕ)) → printed (steps_for (word ∷ words)) ≡ joined_with 47 (word ∷ words)
unfolding printed
printed_is word words = ap (λ bytes. word ++ bytes) (behind_is words)

nodes_are : (words : List (List ℕ)) → sum_by tree_nodes (steps_for words) ≡ length words
nodes_are [] = refl
nodes_are (word ∷ words) = omega (arith, nodes_are words, sum_by-cons tree_nodes (Has word) (steps_for words))

steps_count : (words : List (List ℕ)) → length (steps_for words) ≡ length words
steps_count [] = refl
steps_count (word ∷ words) = omega (arith, steps_count words)

words_fit : (words : List (List ℕ)) → ((w : List ℕ) → Among words w → IsGiven w) → AreFit (steps_for words)
words_fit [] given = tt
words_fit (word ∷ words) given = ((given word (inl refl)).form, words_fit words (λ w m. given w (inr m)))

pub path_short : (words : List (List ℕ)) → ((w : List ℕ) → Among words w → IsGiven w) → length (joined_with 47 words) ≤ 61 * length words
path_short words given = joined_short 47 words (λ w m. property_short w (word_is_property w (given w m).form))

-- the words as a path: at most eight, in order
pub record IsPath (word : List ℕ) (words : List (List ℕ)) : Type 0 where
  pub given : (w : List ℕ) → Among (word ∷ words) w → IsGiven w
  pub few : length (word ∷ words) ≤ 8
  pub rising : is_rising word_cmp (word ∷ words) ≡ true

module _ (word : List ℕ) (words : List (List ℕ)) (path : IsPath word words) where
  abbrev text : List ℕ
  text = joined_with 47 (word ∷ words)

  abbrev steps : List Formula
  steps = steps_for (word ∷ words)

  pub path_reads : text_steps text ≡ Some (false, steps)
  path_reads =
      ap (λ bytes. text_steps bytes) (sym (printed_is word words))
      ∙ reads_complete (printed steps) false steps (from_here (printed steps) steps (path_printed (Has word) (steps_for words) (words_fit (word ∷ words) path.given)))

  short : length text ≤ 488
  short = omega (arith, path_short (word ∷ words) path.given, path.few)

  is_one : IsPlace steps
  is_one = record {
    nodes = omega (arith, nodes_are (word ∷ words), steps_count (word ∷ words), path.few);
    bytes = omega (arith, ap length (printed_is word words), short);
    fit = words_fit (word ∷ words) path.given;
  }

  not_stops : same_word text (codes "..") ≡ false
  unfolding text_steps
  not_stops = false_from_ne_true (same_word text (codes "..")) (λ h. none ((same_word_decides text (codes "..")).0 h))
    where
      none : text ≡ codes ".." → ⊥
      none is = let read = path_reads in let stops = ap (λ bytes. text_steps bytes) is in cc

  -- from the root it leads to its steps
  pub path_leads : resolved [] text ≡ NewPlace steps
  unfolding resolved
  path_leads =
      let small : nat_lt 1024 (length text) ≡ false = false_from_ne_true (nat_lt 1024 (length text)) (λ h. omega (arith, ltb-true _ _ h, short)) in
      rw (not_stops, small, path_reads, test_from_place steps is_one) refl

  pub path_names : text_words text ≡ word ∷ words
  unfolding text_words
  path_names = ap path_words path_reads ∙ named (word ∷ words)
    where
      named : (some : List (List ℕ)) → path_words (Some (false, steps_for some)) ≡ some
      named [] = refl
      named (w ∷ some) = ap (λ ws. w ∷ ws) (named some)

  conjuncts_are : (some : List (List ℕ)) → all_conjuncts (steps_for some) ≡ Some some
  conjuncts_are [] = refl
  conjuncts_are (w ∷ some) = ap (λ ws. both_lists (Some (w ∷ [])) ws) (conjuncts_are some)

  pub path_has : place_words steps ≡ Some (word ∷ words)
  path_has = ap (λ ws. option_map set_of ws) (conjuncts_are (word ∷ words)) ∙ ap (λ ws. Some ws) (insert_all_next word_cmp word_order [] (word ∷ words) path.rising)

  pub path_tags : tags_at steps ≡ word ∷ words
  path_tags = ap (λ (ws : Option (List (List ℕ))). unwrap_or (option_map (filter is_tag) ws) []) path_has ∙ filter_all is_tag (word ∷ words) (λ w m. given_tag w (path.given w m))
