-- What a file is refused for that would move to another place, as the calls check it.
use Rattle.lis_store.proofs.Common.{◌≡◌, refl, sym, ap, ap₂, ◌∙◌, inl, inr, ◌⊎◌, ℕ, ◌<◌, Bool, true, false, not, cond, ◌||◌, IsSome, List, [], ◌∷◌, ◌++◌, length, filter, take, get_or, ◌+◌, arith, list_any, flat_map, IsStrictlySortedBy, list_any-append, IsStrictlySortedBy-filter, Among, word_cmp, same_word, has_word, Formula, Node, nodes_of, with_words, place_words, retagged, among_with_words, with_words_new, among_set_of, sorted_with_words, leb-false, set_of, tags_at, with_words_old, set_of_among, same_words}
use Rattle.std.proofs.lemmas.List.Elements.{filter_more}
use Rattle.lis_laws.proofs.Locals.{filter_same}
use Rattle.lis_store.specs.Assigning.{node_tags, Takes}
use Rattle.lis_store.proofs.Assigned.{has_both, tags_of_nodes}

-- ---- words of nodes
pub any_of_nodes : (p : List ℕ → Bool) (f : Node → List (List ℕ)) (nodes : List Node) → list_any (λ node. list_any p (f node)) nodes ≡ list_any p (flat_map f nodes)
any_of_nodes p f [] = refl
any_of_nodes p f (node ∷ nodes) = ap (λ b. list_any p (f node) || b) (any_of_nodes p f nodes) ∙ sym (list_any-append p (f node) (flat_map f nodes))

has_tag : (place : List Formula) → IsSome (place_words place) → (word : List ℕ)
    → list_any (λ node. has_word (node_tags node) word) (nodes_of place) ≡ has_word (tags_at place) word
has_tag place some word =
    any_of_nodes (λ w. same_word w word) node_tags (nodes_of place)
    ∙ (sym (has_both [] (flat_map node_tags (nodes_of place)) word) ∙ ap (λ tags. has_word tags word) (sym (tags_of_nodes place some)))

-- ---- the words of a file that moves
pub kept_next : {X : Type 0} (p : X → Bool) (xs : List X) (i : ℕ) (x : X) → i < length xs → x ≡ get_or xs i x → (kept : List X) → kept ≡ filter p (take i xs)
    → filter p (take (i + 1) xs) ≡ kept ++ cond (p x) (x ∷ []) []
kept_next {X} p xs i x lt is kept so_far = filter_more p xs i x lt ∙ ap₂ (λ ys (y : X). ys ++ cond (p y) (y ∷ []) []) (sym so_far) (sym is)

with_set : (old more : List (List ℕ)) → IsStrictlySortedBy word_cmp old → with_words old more ≡ with_words old (set_of more)
with_set old more set =
    same_words (with_words old more) (with_words old (set_of more)) (sorted_with_words old more set) (sorted_with_words old (set_of more) set)
    (λ w m. to w (among_with_words old more w m)) (λ w m. from w (among_with_words old (set_of more) w m))
  where
    to : (w : List ℕ) → Among old w ⊎ Among more w → Among (with_words old (set_of more)) w
    to w (inl m) = with_words_old old (set_of more) w m
    to w (inr m) = with_words_new old (set_of more) w (set_of_among more w m)

    from : (w : List ℕ) → Among old w ⊎ Among (set_of more) w → Among (with_words old more) w
    from w (inl m) = with_words_old old more w m
    from w (inr m) = with_words_new old more w (among_set_of more w m)

module _ (here there : List Formula) (words kept : List (List ℕ)) (nodes : List Node) (place : IsSome (place_words here)) (other : IsSome (place_words there))
    (of_place : nodes ≡ nodes_of here) (kept_is : kept ≡ filter (λ word. not (list_any (λ node. has_word (node_tags node) word) nodes)) words)
    (set : IsStrictlySortedBy word_cmp words) where
  abbrev tags : List (List ℕ)
  tags = flat_map node_tags (nodes_of there)

  abbrev left : List (List ℕ)
  left = filter (λ word. not (has_word (tags_at here) word)) words

  kept_left : kept ≡ left
  kept_left =
      kept_is
      ∙ filter_same (λ word. not (list_any (λ node. has_word (node_tags node) word) nodes)) (λ word. not (has_word (tags_at here) word)) words
      (λ w m. ap (λ ns. not (list_any (λ node. has_word (node_tags node) w) ns)) of_place ∙ ap not (has_tag here place w))

  all_are : with_words kept tags ≡ retagged words (tags_at here) (tags_at there)
  all_are =
      ap (λ ws. with_words ws tags) kept_left
      ∙ (with_set left tags (IsStrictlySortedBy-filter word_cmp (λ word. not (has_word (tags_at here) word)) words set)
      ∙ ap (with_words left) (sym (tags_of_nodes there other)))

  pub too_many_moved : (new : List (List ℕ)) → Takes tags kept new false → 16 < length (retagged words (tags_at here) (tags_at there))
  too_many_moved new takes = omega (arith, leb-false (length (with_words kept tags)) 16 (sym takes.room), ap length all_are)

  pub moved_are : (new : List (List ℕ)) → Takes tags kept new true → new ≡ retagged words (tags_at here) (tags_at there)
  moved_are new takes = takes.words refl ∙ all_are
