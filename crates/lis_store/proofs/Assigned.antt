-- The words of a place: which of them are assigned to a new file and how they are put into a set, and the numbers of those under which a
-- word is declared.
use Rattle.lis_store.proofs.Common.{common_steps, rules, ◌≡◌, ◌⊎◌, refl, sym, ap, ap₂, ◌∙◌, subst, inl, inr, ℕ, suc, ◌+◌, ◌<◌, nat_le, Bool, true, false, cond, ◌&&◌, ◌||◌, is_some, IsSome, Option, Some, None, List, [], ◌∷◌, ◌++◌, length, take, drop, get_or, filter, slice_get, append-nil, arith, ◌≤◌, option_to_list, length-append, unwrap_or, flat_map, list_all, IsStrictlySortedBy, Ordering, Less, Equal, Greater, match_ordering, and-true, and-false, or-false, and_parts, or_cases, leb-true, take_more, IsStrictlySortedBy-filter, Among, among_filter, filter_among, among_flat_map, sorted_nil, word_cmp, same_word, has_word, is_plain_word, is_valued, head_bytes, Formula, Node, nodes_of, node_words, with_word, with_words, place_words, is_assignable, assigned_at, word_exact, word_order, same_word_decides, among_from_has_word, among_with_words, with_words_new, among_set_of, sorted_with_words, sorted_set_of, plain_not_valued, Metadata, is_declared, declared_of, take_all, Contains-get_or, among_from_contains, among_insert_key, insert_key_old, sorted_insert_key, number_of, word_of, word_from_number, words_at, all_weaker, AreSound, word_among, option_map, and_from, or_left, or_right, both_ways, leb-false, le-leb, false_from_ne_true, flat_map-append, flat_map_among, set_of, tags_at, has_word_from_among, with_words_old, set_of_among, same_words, all_among, all_from, same_tests, has_number, words_told, declared_there}
use Rattle.std.specs.List.{prefix_len, insert}
use Rattle.std.specs.Ordering.{is_gt}
use Rattle.std.proofs.lemmas.List.{take-append-drop}
use Rattle.std.proofs.lemmas.List.Folds.{list_all-append}
use Rattle.lis_grammar.specs.Formula.Formula.{Has, SizeAtLeast, SizeBelow, Negation, Both, Either}
use Rattle.lis_place.specs.declared.node.Node.TheVariants.{Not, And, Or, Word}
use Rattle.lis_place.specs.Nodes.{tree_node_list}
use Rattle.lis_model.specs.Places.{both_lists, conjuncts, all_conjuncts, is_tag}
use Rattle.lis_model.specs.Step.{is_plain_place}
use Rattle.lis_laws.proofs.Counts.{all_insert_key}
use Rattle.lis_kept.proofs.WordMore.{there_declared}
use Rattle.lis_store.proofs.Told.{words_grow}
use Rattle.lis_store.specs.Assigning.{is_conjunct, node_tags, is_held, Takes}
use Rattle.lis_content.proofs.Numbers.{distinct_more}
use Rattle.lis_store.specs.Placing.{is_plain_conjunct, declared_number, AreNumbersOf, TakesNumbers}

-- ---- the words of a place
abbrev words_if : Bool → List (List ℕ) → Option (List (List ℕ))
words_if b words = cond b (Some words) None

both_if : (a b : Bool) (x y : List (List ℕ)) → both_lists (words_if a x) (words_if b y) ≡ words_if (a && b) (x ++ y)
both_if a b x y = search (rules)

abbrev are_conjuncts : List Node → Bool
are_conjuncts nodes = list_all is_conjunct nodes

abbrev words_in : List Node → List (List ℕ)
words_in nodes = flat_map node_words nodes

parts_joined : (x y : List Node) → both_lists (words_if (are_conjuncts x) (words_in x)) (words_if (are_conjuncts y) (words_in y)) ≡ words_if (are_conjuncts (x ++ y)) (words_in (x ++ y))
parts_joined x y = search (rules, both_if, list_all-append, flat_map-append)

with_and : (x : List Node) → words_if (are_conjuncts x) (words_in x) ≡ words_if (are_conjuncts (x ++ And ∷ [])) (words_in (x ++ And ∷ []))
with_and x = search (rules, list_all-append, and-true, flat_map-append, append-nil)

with_other : (x : List Node) (node : Node) → is_conjunct node ≡ false → None ≡ words_if (are_conjuncts (x ++ node ∷ [])) (words_in (x ++ node ∷ []))
with_other x node is = search (rules, list_all-append, and-false)

tree_words : (f : Formula) → conjuncts f ≡ words_if (are_conjuncts (tree_node_list f)) (words_in (tree_node_list f))
tree_words (Has word) = refl
tree_words (SizeAtLeast n) = refl
tree_words (SizeBelow n) = refl
tree_words (Negation f) = with_other (tree_node_list f) Not refl
tree_words (Both f g) = search (rules, parts_joined, with_and, tree_words f, tree_words g)
tree_words (Either f g) = with_other (tree_node_list f ++ tree_node_list g) Or refl

steps_words : (steps : List Formula) → all_conjuncts steps ≡ words_if (are_conjuncts (nodes_of steps)) (words_in (nodes_of steps))
steps_words [] = refl
steps_words (step ∷ steps) = ap₂ both_lists (tree_words step) (steps_words steps) ∙ parts_joined (tree_node_list step) (nodes_of steps)

pub place_words_are : (place : List Formula) → place_words place ≡ option_map set_of (cond (list_all is_conjunct (nodes_of place)) (Some (flat_map node_words (nodes_of place))) None)
place_words_are place = ap (option_map set_of) (steps_words place)

pub place_has_words : (place : List Formula) → list_all is_conjunct (nodes_of place) ≡ is_some (place_words place)
place_has_words place = search (rules, steps_words)

-- ---- the words that can be assigned to its files
node_tag : (nodes : List Node) (w : List ℕ) → Among (filter is_tag (set_of (words_in nodes))) w → Among (flat_map node_tags nodes) w
node_tag nodes w m =
    let of_set = among_filter is_tag (set_of (words_in nodes)) w m in
    let of_node = among_flat_map node_words nodes w (among_set_of (words_in nodes) w of_set.0) in
    flat_map_among node_tags nodes of_node.0 w of_node.1 (filter_among is_tag (node_words of_node.0) w of_node.2 of_set.1)

tag_node : (nodes : List Node) (w : List ℕ) → Among (flat_map node_tags nodes) w → Among (filter is_tag (set_of (words_in nodes))) w
tag_node nodes w m =
    let of_node = among_flat_map node_tags nodes w m in
    let tag = among_filter is_tag (node_words of_node.0) w of_node.2 in
    filter_among is_tag (set_of (words_in nodes)) w (set_of_among (words_in nodes) w (flat_map_among node_words nodes of_node.0 w of_node.1 tag.0)) tag.1

tags_are : (nodes : List Node) → filter is_tag (set_of (words_in nodes)) ≡ set_of (flat_map node_tags nodes)
tags_are nodes = search (rules, same_words, IsStrictlySortedBy-filter, sorted_set_of, set_of_among, node_tag, tag_node, among_set_of)

pub tags_of_nodes : (place : List Formula) → IsSome (place_words place) → tags_at place ≡ set_of (flat_map node_tags (nodes_of place))
tags_of_nodes place some = search (rules, steps_words, place_has_words, tags_are)

pub assigned_is : (place : List Formula) (words : List (List ℕ)) → IsSome (place_words place) → assigned_at place words ≡ with_words (set_of (flat_map node_tags (nodes_of place))) words
assigned_is place words some = ap (λ ws. with_words ws words) (tags_of_nodes place some)

-- they are a set
pub sorted_assigned : (place : List Formula) (words : List (List ℕ)) → IsStrictlySortedBy word_cmp (assigned_at place words)
sorted_assigned place words = sorted_with_words (tags_at place) words (by (all_conjuncts place))
  where
    by : (o : Option (List (List ℕ))) → IsStrictlySortedBy word_cmp (unwrap_or (option_map (filter is_tag) (option_map set_of o)) [])
    by None = sorted_nil word_cmp word_order
    by (Some found) = IsStrictlySortedBy-filter word_cmp is_tag (set_of found) (sorted_set_of found)

-- ---- sets with more words
pub has_both : (some more : List (List ℕ)) (w : List ℕ) → has_word (with_words some more) w ≡ (has_word some w || has_word more w)
has_both some more w =
    same_tests (has_word (with_words some more) w) (has_word some w || has_word more w)
    (λ h. to (among_with_words some more w (among_from_has_word (with_words some more) w h)))
    (λ h. has_word_from_among (with_words some more) w (from (or_cases (has_word some w) (has_word more w) h)))
  where
    to : Among some w ⊎ Among more w → (has_word some w || has_word more w) ≡ true
    to (inl m) = or_left (has_word some w) (has_word more w) (has_word_from_among some w m)
    to (inr m) = or_right (has_word some w) (has_word more w) (has_word_from_among more w m)

    from : (has_word some w ≡ true) ⊎ (has_word more w ≡ true) → Among (with_words some more) w
    from (inl h) = with_words_old some more w (among_from_has_word some w h)
    from (inr h) = with_words_new some more w (among_from_has_word more w h)

-- ---- a test of all of them
pub all_with : (test : List ℕ → Bool) (some more : List (List ℕ)) → list_all test (with_words some more) ≡ (list_all test some && list_all test more)
all_with test some more =
    same_tests (list_all test (with_words some more)) (list_all test some && list_all test more)
    (λ h.
    and_from (list_all test some) (list_all test more) (all_from test some (λ w m. all_among test (with_words some more) w h (with_words_old some more w m)))
    (all_from test more (λ w m. all_among test (with_words some more) w h (with_words_new some more w m))))
    (λ h. all_from test (with_words some more) (λ w m. by w (and_parts (list_all test some) (list_all test more) h) (among_with_words some more w m)))
  where
    by : (w : List ℕ) → (list_all test some ≡ true) × (list_all test more ≡ true) → Among some w ⊎ Among more w → test w ≡ true
    by w all (inl m) = all_among test some w all.0 m
    by w all (inr m) = all_among test more w all.1 m

all_flat : (test : List ℕ → Bool) (nodes : List Node) → list_all test (flat_map node_tags nodes) ≡ list_all (λ node. list_all test (node_tags node)) nodes
all_flat test [] = refl
all_flat test (node ∷ nodes) = list_all-append test (node_tags node) (flat_map node_tags nodes) ∙ ap (λ b. list_all test (node_tags node) && b) (all_flat test nodes)

pub all_assigned : (test : List ℕ → Bool) (place : List Formula) (words : List (List ℕ)) → IsSome (place_words place)
    → list_all test (assigned_at place words) ≡ (list_all (λ node. list_all test (node_tags node)) (nodes_of place) && list_all test words)
all_assigned test place words some = search (rules, assigned_is, all_with, all_flat)

-- ---- a word at its index in a set
one_more : (n : ℕ) → 1 + n ≡ suc n
one_more n = omega arith

module _ (word : List ℕ) where
  abbrev pub place_in : List (List ℕ) → ℕ
  place_in words = prefix_len (λ held. is_gt (word_cmp word held)) words

  pub put_there : (words : List (List ℕ)) → is_held (slice_get words (place_in words)) word ≡ true → with_word words word ≡ words
  put_there [] h = absurd cc
  put_there (w ∷ words) h = search (rules, same_word_decides, word_order, one_more, put_there words)

  pub put_new : (words : List (List ℕ)) → is_held (slice_get words (place_in words)) word ≡ false → insert words (place_in words) word ≡ with_word words word
  put_new [] h = refl
  put_new (w ∷ words) h = by (word_cmp word w) refl h (put_new words)
    where
      by : (o : Ordering) → word_cmp word w ≡ o → is_held (slice_get (w ∷ words) (cond (is_gt o) (1 + place_in words) 0)) word ≡ false
          → (is_held (slice_get words (place_in words)) word ≡ false → insert words (place_in words) word ≡ with_word words word)
          → insert (w ∷ words) (cond (is_gt o) (1 + place_in words) 0) word ≡ match_ordering o (word ∷ w ∷ words) (w ∷ words) (w ∷ with_word words word)
      by Less e h more = refl
      by Equal e h more = absurd (both_ways (same_word w word) h ((same_word_decides w word).1 (sym (word_exact word w e))))
      by Greater e h more = let h' = rw (one_more (place_in words)) at h in rw (one_more (place_in words)) (ap (λ ws. w ∷ ws) (more h'))

-- ---- a set takes words one after another
pub with_words-append : (words more others : List (List ℕ)) → with_words words (more ++ others) ≡ with_words (with_words words more) others
with_words-append words [] others = refl
with_words-append words (w ∷ more) others = with_words-append (with_word words w) more others

pub takes_more : (more others old mid new : List (List ℕ)) (fits : Bool) → Takes more old mid true → Takes others mid new fits → Takes (more ++ others) old new fits
takes_more more others old mid new fits first next = grind (arith, common_steps, with_words-append)

-- if there is no room for some, there is none for all
pub takes_not : (more others old mid : List (List ℕ)) → Takes more old mid false → Takes (more ++ others) old mid false
takes_not more others old mid takes = record {
  room = sym (false_from_ne_true (nat_le (length (with_words old (more ++ others))) 16) (λ fits.
      both_ways (nat_le (length (with_words old more)) 16) (sym takes.room)
      (le-leb (length (with_words old more)) 16
      (omega (arith, leb-true (length (with_words old (more ++ others))) 16 fits, words_grow (with_words old more) others, ap length (with_words-append old more others))))));
  words = λ h. absurd cc;
}

-- ---- a loop that puts words into a set
pub flat_next : {X : Type 0} (f : X → List (List ℕ)) (xs : List X) (i : ℕ) (x : X) → i < length xs → x ≡ get_or xs i x → flat_map f (take (i + 1) xs) ≡ flat_map f (take i xs) ++ f x
flat_next {X} f xs i x lt is =
    ap (flat_map f) (take_more xs i x lt ∙ ap (λ (y : X). take i xs ++ y ∷ []) (sym is))
    ∙ (flat_map-append f (take i xs) (x ∷ []) ∙ ap (λ ws. flat_map f (take i xs) ++ ws) (append-nil (f x)))

module _ {X : Type 0} (f : X → List (List ℕ)) (xs : List X) (i : ℕ) (x : X) (lt : i < length xs) (is : x ≡ get_or xs i x) (old mid new : List (List ℕ)) where
  pub takes_stop : Takes (flat_map f (take i xs)) old mid true → Takes (f x) mid new false → Takes (flat_map f xs) old new false
  takes_stop before next =
      let stopped = subst (λ ws. Takes ws old new false) (sym (flat_next f xs i x lt is)) (takes_more (flat_map f (take i xs)) (f x) old mid new false before next) in
      let all = sym (flat_map-append f (take (i + 1) xs) (drop (i + 1) xs)) ∙ ap (flat_map f) (take-append-drop (i + 1) xs) in
      subst (λ ws. Takes ws old new false) all (takes_not (flat_map f (take (i + 1) xs)) (flat_map f (drop (i + 1) xs)) old new stopped)

pub each_alone : (words : List (List ℕ)) → flat_map (λ (w : List ℕ). w ∷ []) words ≡ words
each_alone [] = refl
each_alone (w ∷ words) = ap (λ ws. w ∷ ws) (each_alone words)

-- ---- all words that are assigned to a new file
module _ (place : List Formula) (words start mid : List (List ℕ)) (some : IsSome (place_words place)) (none : start ≡ []) where
  pub too_many : Takes (flat_map node_tags (nodes_of place)) start mid false → 16 < length (assigned_at place words)
  too_many takes =
      let tags = flat_map node_tags (nodes_of place) in
      omega (
        arith,
        leb-false (length (with_words start tags)) 16 (sym takes.room),
        ap (λ ws. length (with_words ws tags)) none,
        words_grow (set_of tags) words,
        ap length (assigned_is place words some),
      )

  pub takes_all : (given new : List (List ℕ)) (fits : Bool) → given ≡ words → Takes (flat_map node_tags (nodes_of place)) start mid true → Takes given mid new fits
      → (fits ≡ nat_le (length (assigned_at place words)) 16) × (fits ≡ true → new ≡ assigned_at place words)
  takes_all given new fits is first next =
      let tags = flat_map node_tags (nodes_of place) in
      let both = ap₂ with_words (first.words refl ∙ ap (λ ws. with_words ws tags) none) is ∙ sym (assigned_is place words some) in
      (next.room ∙ ap (λ (ws : List (List ℕ)). nat_le (length ws) 16) both, λ h. next.words h ∙ both)

-- ---- assignable words
pub has_declared : (k : Metadata) (word : List ℕ) → has_word (declared_of k) word ≡ is_declared k word
has_declared k word = search (rules, same_tests, there_declared, among_from_has_word, has_word_from_among, declared_there)

pub plain_assignable : (k : Metadata) (word : List ℕ) → is_plain_word word ≡ true → is_declared k word ≡ is_assignable (declared_of k) word
plain_assignable k word plain = search (rules, plain_not_valued, or-false, has_declared)

pub valued_assignable : (k : Metadata) (word : List ℕ) → is_plain_word word ≡ false → is_valued word ≡ true → is_declared k (head_bytes word) ≡ is_assignable (declared_of k) word
valued_assignable k word plain valued = search (rules, has_declared)

pub not_assignable : (k : Metadata) (word : List ℕ) → is_plain_word word ≡ false → is_valued word ≡ false → false ≡ is_assignable (declared_of k) word
not_assignable k word plain bare = sym (ap₂ (λ p v. (p && has_word (declared_of k) word) || (v && has_word (declared_of k) (head_bytes word))) plain bare)

-- ---- the words under which a word is declared
-- ---- plain words
module _ (nodes : List Node) where
  plain_then : list_all is_plain_conjunct nodes ≡ true → list_all is_plain_word (set_of (words_in nodes)) ≡ true
  plain_then h = all_from is_plain_word (set_of (words_in nodes)) (λ w m.
      let found = among_flat_map node_words nodes w (among_set_of (words_in nodes) w m) in
      all_among is_plain_word (node_words found.0) w (and_parts (is_conjunct found.0) (list_all is_plain_word (node_words found.0)) (all_among is_plain_conjunct nodes found.0 h found.1)).1 found.2)

  then_plain : list_all is_conjunct nodes ≡ true → list_all is_plain_word (set_of (words_in nodes)) ≡ true → list_all is_plain_conjunct nodes ≡ true
  then_plain all h = all_from is_plain_conjunct nodes (λ node m.
      and_from (is_conjunct node) (list_all is_plain_word (node_words node)) (all_among is_conjunct nodes node all m)
      (all_from is_plain_word (node_words node) (λ w of. all_among is_plain_word (set_of (words_in nodes)) w h (set_of_among (words_in nodes) w (flat_map_among node_words nodes node w m of)))))

  plain_nodes : (b : Bool) → list_all is_conjunct nodes ≡ b → list_all is_plain_conjunct nodes ≡ is_plain_place (option_map set_of (cond b (Some (words_in nodes)) None))
  plain_nodes b all = search (rules, same_tests, plain_then, then_plain, false_from_ne_true, both_ways, all_weaker, and_parts)

pub plain_place : (place : List Formula) → list_all is_plain_conjunct (nodes_of place) ≡ is_plain_place (place_words place)
plain_place place = plain_nodes (nodes_of place) (list_all is_conjunct (nodes_of place)) refl ∙ ap is_plain_place (sym (place_words_are place))

-- ---- the words of a place
words_of_nodes : (place : List Formula) → IsSome (place_words place) → words_at place ≡ set_of (words_in (nodes_of place))
words_of_nodes place some = search (rules, place_words_are, place_has_words)

-- a word of the set is there already
with_word_same : (words : List (List ℕ)) (word : List ℕ) → IsStrictlySortedBy word_cmp words → Among words word → with_word words word ≡ words
with_word_same words word sorted there = search (rules, same_words, sorted_insert_key, word_order, among_insert_key, insert_key_old)

-- ---- numbers that are added one after another
pub declared_is : (k : Metadata) (word : List ℕ) (n : ℕ) → declared_number k word ≡ Some n → (is_declared k word ≡ true) × (number_of k.dict word ≡ Some n)
declared_is k word n is = search (rules)

pub takes_no_numbers : (k : Metadata) (ns : List ℕ) → TakesNumbers k [] ns ns true
takes_no_numbers k ns = record { declared = refl; few = omega arith; numbers = λ fits words are. are }

module _ (k : Metadata) (word : List ℕ) (ns : List ℕ) where
  module _ (sound : AreSound k) (n : ℕ) (declared : is_declared k word ≡ true) (numbered : number_of k.dict word ≡ Some n) where
    named : word_of k.dict n ≡ Some word
    named = word_from_number k.dict sound.dict word n numbered

    pub takes_again : has_number ns n ≡ true → TakesNumbers k (word ∷ []) ns ns true
    takes_again has = record {
      declared = sym (ap (λ b. b && true) declared);
      few = omega arith;
      numbers = λ fits words are.
          let sorted = subst (λ ws. IsStrictlySortedBy word_cmp ws) are.told (sorted_set_of (flat_map (λ i. option_to_list (word_of k.dict i)) ns)) in
          let there = subst (λ ws. Among ws word) are.told (word_among k sound ns n word named has) in
          subst (λ ws. AreNumbersOf k ws ns) (sym (with_word_same words word sorted there)) are;
    }

    told_more : words_told k.dict (ns ++ n ∷ []) ≡ with_word (words_told k.dict ns) word
    told_more = search (rules, flat_map-append, named, with_words-append)

    pub takes_new : has_number ns n ≡ false → (more : List ℕ) → more ≡ ns ++ n ∷ [] → TakesNumbers k (word ∷ []) ns more true
    takes_new new more is = search (rules, length-append, all_insert_key, distinct_more, named, list_all-append, and_from, told_more)

-- ---- the word of a node
pub no_word : (node : Node) → ((word : List ℕ) → node ≡ Word word → ⊥) → node_words node ≡ []
no_word node none = search (rules)

few_words : (node : Node) → length (node_words node) ≤ 1
few_words node = search (rules)

-- ---- a loop over nodes
-- the numbers of the words of these nodes
abbrev pub AreNumbersIn : Metadata → List Node → List ℕ → Type 0
AreNumbersIn k nodes numbers = AreNumbersOf k (set_of (flat_map node_words nodes)) numbers

pub among_item : (nodes : List Node) (i : ℕ) (node : Node) → i < length nodes → node ≡ get_or nodes i node → Among nodes node
among_item nodes i node lt is = subst (λ n. Among nodes n) (sym is) (among_from_contains nodes (get_or nodes i node) (Contains-get_or nodes i node lt))

pub numbers_next : (k : Metadata) (nodes : List Node) (i : ℕ) (node : Node) → i < length nodes → node ≡ get_or nodes i node → (old new : List ℕ) (fits : Bool) → fits ≡ true → length old ≤ i
    → AreNumbersIn k (take i nodes) old → TakesNumbers k (node_words node) old new fits → (length new ≤ i + 1) × AreNumbersIn k (take (i + 1) nodes) new
numbers_next k nodes i node lt is old new fits fit few are takes = grind (arith, common_steps, with_words-append, flat_next, few_words)

pub numbers_all : (k : Metadata) (place : List Formula) (nodes : List Node) (i : ℕ) (numbers : List ℕ) → IsSome (place_words place) → nodes ≡ nodes_of place → length nodes ≤ i
    → AreNumbersIn k (take i nodes) numbers → AreNumbersOf k (words_at place) numbers
numbers_all k place nodes i numbers some is end are = search (rules, take_all, words_of_nodes)

-- if the word of a node is not declared
pub not_all_declared : (k : Metadata) (place : List Formula) (nodes : List Node) (node : Node) (old new : List ℕ) (fits : Bool) → IsSome (place_words place) → nodes ≡ nodes_of place → Among nodes node
    → fits ≡ false → TakesNumbers k (node_words node) old new fits → list_all (is_declared k) (words_at place) ≡ false
not_all_declared k place nodes node old new fits some is m not_fit takes =
    false_from_ne_true (list_all (is_declared k) (words_at place)) (λ all.
    both_ways (list_all (is_declared k) (node_words node)) (sym takes.declared ∙ not_fit)
    (all_from (is_declared k) (node_words node) (λ w of.
    all_among (is_declared k) (words_at place) w all
    (subst (λ ws. Among ws w) (sym (words_of_nodes place some))
    (set_of_among (words_in (nodes_of place)) w (flat_map_among node_words (nodes_of place) node w (subst (λ ns. Among ns node) is m) of))))))
