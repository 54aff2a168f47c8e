-- What nodes in order make on a stack: the trees that they spell, or whatever is computed from these.
use Rattle.std.proofs.Common.{◌≡◌, ℕ, List, [], ◌∷◌, ◌++◌, map, reverse, refl, ap, sym, ◌∙◌, append_assoc, append-nil}
use Rattle.std.specs.List.{flat_map, fold}
use Rattle.std.proofs.lemmas.List.{reverse-append, reverse-reverse, map-id}
use Rattle.std.proofs.lemmas.List.Sums.{fold-append}
use Rattle.lis_grammar.specs.Formula.{Formula, formula_words, steps_words}
use Rattle.lis_grammar.specs.Formula.Formula.{Has, SizeAtLeast, SizeBelow, Negation, Both, Either}
use Rattle.lis_place.specs.declared.node.Node.{Node}
use Rattle.lis_place.specs.declared.node.Node.TheVariants.{Word, AtLeast, Below, Not, And, Or}
use Rattle.lis_place.specs.Nodes.{tree_node_list, nodes_of, node_words, with_node, steps_of}

-- a value of each tree, and how a node changes a stack of them, the last value first
pub record IsMeaning {V : Type 0} (value : Formula → V) (on : List V → Node → List V) : Type 0 where
  pub has : (word : List ℕ) (stack : List V) → on stack (Word word) ≡ value (Has word) ∷ stack
  pub at_least : (n : ℕ) (stack : List V) → on stack (AtLeast n) ≡ value (SizeAtLeast n) ∷ stack
  pub below : (n : ℕ) (stack : List V) → on stack (Below n) ≡ value (SizeBelow n) ∷ stack
  pub negation : (f : Formula) (stack : List V) → on (value f ∷ stack) Not ≡ value (Negation f) ∷ stack
  pub both : (f g : Formula) (stack : List V) → on (value g ∷ value f ∷ stack) And ≡ value (Both f g) ∷ stack
  pub either : (f g : Formula) (stack : List V) → on (value g ∷ value f ∷ stack) Or ≡ value (Either f g) ∷ stack

two_values : {V : Type 0} (value : Formula → V) (on : List V → Node → List V) → IsMeaning value on → (f g : Formula) (stack : List V)
    → fold on stack (tree_node_list f) ≡ value f ∷ stack → ((more : List V) → fold on more (tree_node_list g) ≡ value g ∷ more)
    → fold on stack (tree_node_list f ++ tree_node_list g) ≡ value g ∷ value f ∷ stack
two_values value on m f g stack left right =
    fold-append on stack (tree_node_list f) (tree_node_list g) ∙ (ap (λ xs. fold on xs (tree_node_list g)) left ∙ right (value f ∷ stack))

-- the nodes of a tree put its value on the stack
pub tree_value : {V : Type 0} (value : Formula → V) (on : List V → Node → List V) → IsMeaning value on → (f : Formula) (stack : List V)
    → fold on stack (tree_node_list f) ≡ value f ∷ stack
tree_value value on m (Has word) stack = m.has word stack
tree_value value on m (SizeAtLeast n) stack = m.at_least n stack
tree_value value on m (SizeBelow n) stack = m.below n stack
tree_value value on m (Negation f) stack =
    fold-append on stack (tree_node_list f) (Not ∷ []) ∙ (ap (λ xs. on xs Not) (tree_value value on m f stack) ∙ m.negation f stack)
tree_value value on m (Both f g) stack =
    fold-append on stack (tree_node_list f ++ tree_node_list g) (And ∷ []) ∙ (ap (λ xs. on xs And) (two_values value on m f g stack (tree_value value on m f stack) (tree_value value on m g)) ∙ m.both f g stack)
tree_value value on m (Either f g) stack =
    fold-append on stack (tree_node_list f ++ tree_node_list g) (Or ∷ []) ∙ (ap (λ xs. on xs Or) (two_values value on m f g stack (tree_value value on m f stack) (tree_value value on m g)) ∙ m.either f g stack)

reverse-cons : {V : Type 0} (x : V) (xs ys : List V) → reverse xs ++ x ∷ ys ≡ reverse (x ∷ xs) ++ ys
reverse-cons x xs ys = sym (ap (λ zs. zs ++ ys) (reverse-append (x ∷ []) xs) ∙ append_assoc (reverse xs) (x ∷ []) ys)

-- the nodes of the steps put the values of the steps on it, the last step first
pub steps_values : {V : Type 0} (value : Formula → V) (on : List V → Node → List V) → IsMeaning value on → (steps : List Formula) (stack : List V)
    → fold on stack (nodes_of steps) ≡ reverse (map value steps) ++ stack
steps_values value on m [] stack = refl
steps_values value on m (f ∷ steps) stack =
    fold-append on stack (tree_node_list f) (nodes_of steps)
    ∙ (ap (λ xs. fold on xs (nodes_of steps)) (tree_value value on m f stack) ∙ (steps_values value on m steps (value f ∷ stack) ∙ reverse-cons (value f) (map value steps) stack))

-- the trees themselves
pub trees : IsMeaning (λ f. f) with_node
trees = record {
  has = λ word stack. refl;
  at_least = λ n stack. refl;
  below = λ n stack. refl;
  negation = λ f stack. refl;
  both = λ f g stack. refl;
  either = λ f g stack. refl;
}

pub steps_of-nodes_of : (steps : List Formula) → steps_of (nodes_of steps) ≡ steps
steps_of-nodes_of steps =
    ap reverse (steps_values (λ f. f) with_node trees steps [] ∙ append-nil (reverse (map (λ (f : Formula). f) steps)))
    ∙ (reverse-reverse (map (λ (f : Formula). f) steps) ∙ map-id steps)

pub nodes_of-append : (fs gs : List Formula) → nodes_of (fs ++ gs) ≡ nodes_of fs ++ nodes_of gs
nodes_of-append [] gs = refl
nodes_of-append (f ∷ fs) gs =
    ap (λ xs. tree_node_list f ++ xs) (nodes_of-append fs gs) ∙ sym (append_assoc (tree_node_list f) (nodes_of fs) (nodes_of gs))

-- two places with the same nodes have the same steps
pub same_steps : (fs gs : List Formula) → nodes_of fs ≡ nodes_of gs → fs ≡ gs
same_steps fs gs e = sym (steps_of-nodes_of fs) ∙ (ap steps_of e ∙ steps_of-nodes_of gs)

-- the words of the nodes are the words of the steps

flat_map-append : {A B : Type 0} (f : A → List B) (xs ys : List A) → flat_map f (xs ++ ys) ≡ flat_map f xs ++ flat_map f ys
flat_map-append f [] ys = refl
flat_map-append f (x ∷ xs) ys = ap (λ zs. f x ++ zs) (flat_map-append f xs ys) ∙ sym (append_assoc (f x) (flat_map f xs) (flat_map f ys))

joint_words : (f g : Formula) → flat_map node_words (tree_node_list f) ≡ formula_words f → flat_map node_words (tree_node_list g) ≡ formula_words g
    → flat_map node_words (tree_node_list f ++ tree_node_list g) ≡ formula_words f ++ formula_words g
joint_words f g left right =
    flat_map-append node_words (tree_node_list f) (tree_node_list g)
    ∙ (ap (λ xs. xs ++ flat_map node_words (tree_node_list g)) left ∙ ap (λ xs. formula_words f ++ xs) right)

tree_words : (f : Formula) → flat_map node_words (tree_node_list f) ≡ formula_words f
tree_words (Has word) = refl
tree_words (SizeAtLeast n) = refl
tree_words (SizeBelow n) = refl
tree_words (Negation f) = flat_map-append node_words (tree_node_list f) (Not ∷ []) ∙ (append-nil _ ∙ tree_words f)
tree_words (Both f g) =
    flat_map-append node_words (tree_node_list f ++ tree_node_list g) (And ∷ []) ∙ (append-nil _ ∙ joint_words f g (tree_words f) (tree_words g))
tree_words (Either f g) =
    flat_map-append node_words (tree_node_list f ++ tree_node_list g) (Or ∷ []) ∙ (append-nil _ ∙ joint_words f g (tree_words f) (tree_words g))

pub words_of_nodes : (steps : List Formula) → flat_map node_words (nodes_of steps) ≡ steps_words steps
words_of_nodes [] = refl
words_of_nodes (f ∷ steps) =
    flat_map-append node_words (tree_node_list f) (nodes_of steps)
    ∙ (ap (λ xs. xs ++ flat_map node_words (nodes_of steps)) (tree_words f) ∙ ap (λ xs. formula_words f ++ xs) (words_of_nodes steps))
