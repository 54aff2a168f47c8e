-- The words of a place are those of its nodes.
use Rattle.std.proofs.Common.{◌≡◌, ℕ, Bool, true, false, cond, ◌&&◌, Option, Some, None, option_map, List, [], ◌∷◌, ◌++◌, refl, ap, sym, ◌∙◌, append-nil}
use Rattle.std.specs.List.{list_all, flat_map}
use Rattle.std.proofs.lemmas.List.Folds.{list_all-append}
use Rattle.lis_grammar.specs.Formula.{Formula}
use Rattle.lis_grammar.specs.Formula.Formula.{Has, SizeAtLeast, SizeBelow, Negation, Both, Either}
use Rattle.lis_place.specs.declared.node.Node.{Node}
use Rattle.lis_place.specs.declared.node.Node.TheVariants.{Not, And, Or}
use Rattle.lis_place.specs.Nodes.{tree_node_list, nodes_of, node_words}
use Rattle.lis_model.specs.Sets.{set_of}
use Rattle.lis_model.specs.Places.{both_lists, conjuncts, all_conjuncts, place_words}
use Rattle.lis_table.specs.Tags.{is_conjunct}

-- the words of nodes that are all conjuncts
abbrev words_if : List Node → Option (List (List ℕ))
words_if nodes = cond (list_all is_conjunct nodes) (Some (flat_map node_words nodes)) None

flat_map-append : (xs ys : List Node) → flat_map node_words (xs ++ ys) ≡ flat_map node_words xs ++ flat_map node_words ys
flat_map-append [] ys = refl
flat_map-append (x ∷ xs) ys = ap (λ ws. node_words x ++ ws) (flat_map-append xs ys) ∙ assoc (node_words x) (flat_map node_words xs) (flat_map node_words ys)
  where
    assoc : (us vs ws : List (List ℕ)) → us ++ (vs ++ ws) ≡ (us ++ vs) ++ ws
    assoc [] vs ws = refl
    assoc (u ∷ us) vs ws = ap (λ xs. u ∷ xs) (assoc us vs ws)

both_conds : (a b : Bool) (left right : List (List ℕ))
    → both_lists (cond a (Some left) None) (cond b (Some right) None) ≡ cond (a && b) (Some (left ++ right)) None
both_conds true true left right = refl
both_conds true false left right = refl
both_conds false b left right = refl

words_of_both : (xs ys : List Node) → both_lists (words_if xs) (words_if ys) ≡ words_if (xs ++ ys)
words_of_both xs ys =
    both_conds (list_all is_conjunct xs) (list_all is_conjunct ys) (flat_map node_words xs) (flat_map node_words ys)
    ∙ ap (λ b. cond b (Some (flat_map node_words xs ++ flat_map node_words ys)) None) (sym (list_all-append is_conjunct xs ys))
    ∙ ap (λ ws. cond (list_all is_conjunct (xs ++ ys)) (Some ws) None) (sym (flat_map-append xs ys))

and_true : (b : Bool) → (b && true) ≡ b
and_true true = refl
and_true false = refl

and_false : (b : Bool) → (b && false) ≡ false
and_false true = refl
and_false false = refl

-- a further node that is a conjunct without words changes nothing; any other node makes it no place of words
with_and : (xs : List Node) → words_if xs ≡ words_if (xs ++ And ∷ [])
with_and xs =
    sym (ap (λ b. cond b (Some (flat_map node_words (xs ++ And ∷ []))) None) (list_all-append is_conjunct xs (And ∷ []) ∙ and_true (list_all is_conjunct xs))
    ∙ ap (λ ws. cond (list_all is_conjunct xs) (Some ws) None) (flat_map-append xs (And ∷ []) ∙ append-nil (flat_map node_words xs)))

with_other : (xs : List Node) (node : Node) → is_conjunct node ≡ false → None ≡ words_if (xs ++ node ∷ [])
with_other xs node other =
    sym (ap (λ b. cond b (Some (flat_map node_words (xs ++ node ∷ []))) None)
    (list_all-append is_conjunct xs (node ∷ []) ∙ ap (λ b. list_all is_conjunct xs && (b && true)) other ∙ and_false (list_all is_conjunct xs)))

words_of_tree : (f : Formula) → conjuncts f ≡ words_if (tree_node_list f)
words_of_tree (Has word) = refl
words_of_tree (SizeAtLeast n) = refl
words_of_tree (SizeBelow n) = refl
words_of_tree (Negation f) = with_other (tree_node_list f) Not refl
words_of_tree (Both f g) =
    ap (λ ws. both_lists ws (conjuncts g)) (words_of_tree f) ∙ ap (both_lists (words_if (tree_node_list f))) (words_of_tree g)
    ∙ words_of_both (tree_node_list f) (tree_node_list g) ∙ with_and (tree_node_list f ++ tree_node_list g)
words_of_tree (Either f g) = with_other (tree_node_list f ++ tree_node_list g) Or refl

words_of_steps : (steps : List Formula) → all_conjuncts steps ≡ words_if (nodes_of steps)
words_of_steps [] = refl
words_of_steps (step ∷ steps) =
    ap (λ ws. both_lists ws (all_conjuncts steps)) (words_of_tree step) ∙ ap (both_lists (words_if (tree_node_list step))) (words_of_steps steps)
    ∙ words_of_both (tree_node_list step) (nodes_of steps)

pub place_of_others : (place : List Formula) (nodes : List Node) → nodes ≡ nodes_of place → list_all is_conjunct nodes ≡ false → place_words place ≡ None
place_of_others place nodes is others =
    ap (option_map set_of) (words_of_steps place ∙ ap words_if (sym is) ∙ ap (λ b. cond b (Some (flat_map node_words nodes)) None) others)

pub place_of_words : (place : List Formula) (nodes : List Node) (words : List (List ℕ)) → nodes ≡ nodes_of place → list_all is_conjunct nodes ≡ true
    → words ≡ set_of (flat_map node_words nodes) → place_words place ≡ Some words
place_of_words place nodes words is all set =
    ap (option_map set_of) (words_of_steps place ∙ ap words_if (sym is) ∙ ap (λ b. cond b (Some (flat_map node_words nodes)) None) all) ∙ ap Some (sym set)
