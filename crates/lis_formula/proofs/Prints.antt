-- The texts of all steps, put together, are the printed place.
use Rattle.std.proofs.Common.{◌≡◌, ℕ, ◌+◌, ◌-◌, ◌<◌, ◌≤◌, ◌==◌, true, false, List, [], ◌∷◌, ◌++◌, length, map, reverse, refl, ap, sym, ◌∙◌, arith, append_assoc, append-nil, length-append, fold}
use Rattle.std.proofs.lemmas.Bool.{eqb-true, false≢true}
use Rattle.std.proofs.lemmas.List.{reverse-append, length-reverse, length-map}
use Rattle.std.proofs.lemmas.List.Sums.{sum_by-append, sum_by-cons}
use Rattle.lis_grammar.specs.Formula.{Formula}
use Rattle.lis_grammar.specs.Formula.Formula.{Has, SizeAtLeast, SizeBelow, Negation, Both, Either}
use Rattle.lis_grammar.specs.Printing.{printed_tree, printed}
use Rattle.lis_grammar.specs.Places.{IsPlace}
use Rattle.lis_place.specs.declared.node.Node.{Node}
use Rattle.lis_place.specs.declared.node.Node.TheVariants.{Not, And, Or}
use Rattle.lis_place.specs.Nodes.{tree_node_list, nodes_of}
use Rattle.lis_place.proofs.Trees.{IsMeaning, steps_values}
use Rattle.lis_place.proofs.Tallies.{joint_bytes, tree_bytes, within_bytes}
use Rattle.lis_formula.specs.Pieces.{stacked_text}
use Rattle.lis_formula.specs.Printer.{node_bytes, all_bytes, with_text, chained, slashed}

-- the printer's stack has the printed trees
pub prints : IsMeaning printed_tree with_text
prints = record {
  has = λ word stack. refl;
  at_least = λ n stack. refl;
  below = λ n stack. refl;
  negation = λ f stack. refl;
  both = λ f g stack. refl;
  either = λ f g stack. refl;
}

pub steps_printed : (steps : List Formula) → fold with_text [] (nodes_of steps) ≡ reverse (map printed_tree steps)
steps_printed steps = steps_values printed_tree with_text prints steps [] ∙ append-nil (reverse (map printed_tree steps))

-- their bytes

two_trees : (f g : Formula) (sign : Node) → node_bytes sign ≡ 3 → all_bytes (tree_node_list f) ≡ length (printed_tree f) → all_bytes (tree_node_list g) ≡ length (printed_tree g)
    → all_bytes ((tree_node_list f ++ tree_node_list g) ++ sign ∷ []) ≡ length (printed_tree f) + length (printed_tree g) + 3
two_trees f g sign e left right =
    omega (arith, e, left, right, sum_by-append node_bytes (tree_node_list f ++ tree_node_list g) (sign ∷ []), sum_by-append node_bytes (tree_node_list f) (tree_node_list g))

tree_all_bytes : (f : Formula) → all_bytes (tree_node_list f) ≡ length (printed_tree f)
tree_all_bytes (Has word) = omega arith
tree_all_bytes (SizeAtLeast n) = omega arith
tree_all_bytes (SizeBelow n) = omega arith
tree_all_bytes (Negation f) = omega (arith, tree_all_bytes f, sum_by-append node_bytes (tree_node_list f) (Not ∷ []))
tree_all_bytes (Both f g) = two_trees f g And refl (tree_all_bytes f) (tree_all_bytes g) ∙ sym (joint_bytes (printed_tree f) (printed_tree g) 47)
tree_all_bytes (Either f g) = two_trees f g Or refl (tree_all_bytes f) (tree_all_bytes g) ∙ sym (joint_bytes (printed_tree f) (printed_tree g) 124)

steps_all_bytes : (steps : List Formula) → all_bytes (nodes_of steps) ≡ tree_bytes steps
steps_all_bytes [] = refl
steps_all_bytes (f ∷ steps) =
    omega (arith, tree_all_bytes f, steps_all_bytes steps, sum_by-append node_bytes (tree_node_list f) (nodes_of steps), sum_by-cons (λ g. length (printed_tree g)) f steps)

pub bytes_fit : (steps : List Formula) → IsPlace steps → all_bytes (nodes_of steps) ≤ 1024
bytes_fit steps p = let bytes = within_bytes steps p.bytes in omega (arith, bytes, steps_all_bytes steps)

stack_bytes : (fs : List Formula) → length (stacked_text (reverse (map printed_tree fs))) ≡ tree_bytes fs
stack_bytes [] = refl
stack_bytes (f ∷ fs) =
    let first = reverse-append (printed_tree f ∷ []) (map printed_tree fs) in
    let whole = ap (λ stack. length (stacked_text stack)) first in
    let parts = ap length (joined-append (reverse (map printed_tree fs)) (printed_tree f ∷ [])) in
    omega (arith, stack_bytes fs, whole, parts, length-append (printed_tree f) (stacked_text (reverse (map printed_tree fs))), sum_by-cons (λ g. length (printed_tree g)) f fs)
  where
    joined-append : (xs ys : List (List ℕ)) → stacked_text (xs ++ ys) ≡ stacked_text ys ++ stacked_text xs
    joined-append [] ys = sym (append-nil (stacked_text ys))
    joined-append (x ∷ xs) ys = ap (λ zs. zs ++ x) (joined-append xs ys) ∙ append_assoc (stacked_text ys) (stacked_text xs) x

pub slashes_fit : (stack : List (List ℕ)) (steps : List Formula) → stack ≡ reverse (map printed_tree steps) → IsPlace steps → length (stacked_text stack) + (length stack - 1) ≤ 1024
slashes_fit stack steps e p =
    let bytes = within_bytes steps p.bytes in
    let whole = ap (λ xs. length (stacked_text xs)) e in
    let count = ap length e in
    omega (arith, bytes, whole, count, stack_bytes steps, length-reverse (map printed_tree steps), length-map steps printed_tree)

-- the slashes between them

chained_text : List (List ℕ) → List ℕ
chained_text [] = []
chained_text (text ∷ stack) = chained stack text

chained-append : (xs ys : List (List ℕ)) (text : List ℕ) → chained (xs ++ ys) text ≡ chained ys (chained xs text)
chained-append [] ys text = refl
chained-append (x ∷ xs) ys text = chained-append xs ys (x ++ 47 ∷ text)

chained_more : (stack : List (List ℕ)) (first : List ℕ) → 0 < length stack → chained_text (stack ++ first ∷ []) ≡ first ++ 47 ∷ chained_text stack
unfolding chained_text
chained_more [] first some = absurd (omega arith)
chained_more (text ∷ stack) first some = chained-append stack (first ∷ []) text

chained_steps : (f : Formula) (fs : List Formula) → chained_text (reverse (map printed_tree (f ∷ fs))) ≡ printed (f ∷ fs)
unfolding chained_text printed
chained_steps f [] = sym (append-nil (printed_tree f))
chained_steps f (g ∷ fs) =
    let stack = reverse (map printed_tree (g ∷ fs)) in
    let some : 0 < length stack = omega (arith, length-reverse (map printed_tree (g ∷ fs))) in
    ap chained_text (reverse-append (printed_tree f ∷ []) (map printed_tree (g ∷ fs)))
    ∙ (chained_more stack (printed_tree f) some ∙ ap (λ xs. printed_tree f ++ 47 ∷ xs) (chained_steps g fs))

slashed_text : (stack : List (List ℕ)) → stacked_text (slashed stack) ≡ chained_text stack
unfolding chained_text
slashed_text [] = refl
slashed_text (text ∷ stack) = refl

pub place_printed : (stack : List (List ℕ)) (steps : List Formula) → 0 < length steps → stack ≡ reverse (map printed_tree steps) → stacked_text (slashed stack) ≡ printed steps
place_printed stack [] some e = absurd (omega arith)
place_printed stack (f ∷ fs) some e = slashed_text stack ∙ (ap chained_text e ∙ chained_steps f fs)

-- one more slash

-- the root

pub root_printed : (steps : List Formula) → (length steps == 0) ≡ true → 47 ∷ [] ≡ printed steps
unfolding printed
root_printed [] h = refl
root_printed (f ∷ fs) h = absurd (omega (arith, eqb-true (length (f ∷ fs)) 0 h))

pub some_steps : (steps : List Formula) → (length steps == 0) ≡ false → 0 < length steps
some_steps [] h = absurd (false≢true (sym h))
some_steps (f ∷ fs) h = omega arith
