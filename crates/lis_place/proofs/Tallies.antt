-- The test on nodes says exactly that they are those of a place.
use Rattle.std.proofs.Common.{◌≡◌, ℕ, ◌+◌, ◌-◌, ◌<◌, ◌≤◌, ◌^◌, suc, Bool, true, false, cond, Option, Some, None, option_and_then, List, [], ◌∷◌, ◌++◌, length, reverse, refl, ap, sym, ◌∙◌, arith, append_assoc, append-nil, length-append, nat_lt, nat_le, sum_by}
use Rattle.std.specs.List.{fold}
use Rattle.std.specs.Fmt.{decimal}
use Rattle.std.proofs.lemmas.Bool.{leb-true, le-leb, ltb-true, lt-ltb, and_parts, and_from, false≢true}
use Rattle.std.proofs.lemmas.List.{reverse-append, length-reverse}
use Rattle.std.proofs.lemmas.List.Sums.{sum_by-cons}
use Rattle.lis_words.specs.Words.{is_word}
use Rattle.lis_grammar.specs.Formula.{Formula}
use Rattle.lis_grammar.specs.Formula.Formula.{Has, SizeAtLeast, SizeBelow, Negation, Both, Either}
use Rattle.lis_grammar.specs.Printing.{printed_tree, printed_behind, printed}
use Rattle.lis_grammar.specs.Places.{tree_nodes, IsFit, AreFit, IsPlace}
use Rattle.lis_grammar.proofs.Fits.{AreFit-append}
use Rattle.lis_place.specs.declared.node.Node.{Node}
use Rattle.lis_place.specs.declared.node.Node.TheVariants.{Word, AtLeast, Below, Not, And, Or}
use Rattle.lis_place.specs.declared.limits.Tally.{Tally}
use Rattle.lis_place.specs.Nodes.{tree_node_list, nodes_of, with_node, steps_of}
use Rattle.lis_place.specs.Limits.{with_operand, with_test, with_mark, with_joint, tally_with, tally_after, no_tally, is_within, are_place}
use Rattle.lis_place.proofs.Trees.{nodes_of-append}
use Rattle.lis_grammar.specs.Codes.{negated, combined}

-- from steps to the tally of their nodes

abbrev added : Tally → ℕ → ℕ → Tally
added t trees bytes = record { trees = t.trees + trees; bytes = t.bytes + bytes }

same_tally : (s t : Tally) → s.trees ≡ t.trees → s.bytes ≡ t.bytes → s ≡ t
same_tally s t e f = λ i. record { trees = e i; bytes = f i }

abbrev after : Option Tally → List Node → Option Tally
after o nodes = option_and_then (λ t. tally_after t nodes) o

tally_test : (t : Tally) (sign n : ℕ) → n < 10 ^ 12 → with_test t sign n ≡ Some (added t 1 (sign + length (decimal n)))
tally_test t sign n small = rw (lt-ltb n (10 ^ 12) small) refl

tally_mark : (t : Tally) (bytes : ℕ) → with_mark (added t 1 bytes) ≡ Some (added t 1 (suc bytes))
tally_mark t bytes = rw (le-leb 1 (t.trees + 1) (omega arith)) (ap (λ u. Some u) (same_tally _ _ refl (omega arith)))

tally_joint : (t : Tally) (left right bytes : ℕ) → bytes ≡ left + right + 3 → with_joint (added (added t 1 left) 1 right) ≡ Some (added t 1 bytes)
tally_joint t left right bytes e = rw (le-leb 2 (t.trees + 1 + 1) (omega arith)) (ap (λ u. Some u) (same_tally _ _ (omega arith) (omega arith)))

pub joint_bytes : (left right : List ℕ) (sign : ℕ) → length (40 ∷ ((left ++ sign ∷ right) ++ 41 ∷ [])) ≡ length left + length right + 3
joint_bytes left right sign = omega (arith, length-append (left ++ sign ∷ right) (41 ∷ []), length-append left (sign ∷ right))

tally_tree : (f : Formula) (t : Tally) (nodes : List Node) → IsFit f → tally_after t (tree_node_list f ++ nodes) ≡ tally_after (added t 1 (length (printed_tree f))) nodes
tally_tree (Has word) t nodes fit = rw fit refl
tally_tree (SizeAtLeast n) t nodes fit = ap (λ o. after o nodes) (tally_test t 6 n fit ∙ ap (λ k. Some (added t 1 k)) (sign_bytes (length (decimal n))))
  where
    sign_bytes : (k : ℕ) → 6 + k ≡ suc (suc (suc (suc (suc (suc k)))))
    sign_bytes k = omega arith
tally_tree (SizeBelow n) t nodes fit = ap (λ o. after o nodes) (tally_test t 5 n fit ∙ ap (λ k. Some (added t 1 k)) (sign_bytes (length (decimal n))))
  where
    sign_bytes : (k : ℕ) → 5 + k ≡ suc (suc (suc (suc (suc k))))
    sign_bytes k = omega arith
tally_tree (Negation f) t nodes fit =
    ap (λ xs. tally_after t xs) (append_assoc (tree_node_list f) (Not ∷ []) nodes)
    ∙ (tally_tree f t (Not ∷ nodes) fit ∙ ap (λ o. after o nodes) (tally_mark t (length (printed_tree f))))
tally_tree (Both f g) t nodes fit =
    ap (λ xs. tally_after t xs) (append_assoc (tree_node_list f ++ tree_node_list g) (And ∷ []) nodes ∙ append_assoc (tree_node_list f) (tree_node_list g) (And ∷ nodes))
    ∙ (tally_tree f t (tree_node_list g ++ And ∷ nodes) fit.0
    ∙ (tally_tree g (added t 1 (length (printed_tree f))) (And ∷ nodes) fit.1
    ∙ ap (λ o. after o nodes) (tally_joint t (length (printed_tree f)) (length (printed_tree g)) _ (joint_bytes (printed_tree f) (printed_tree g) 47))))
tally_tree (Either f g) t nodes fit =
    ap (λ xs. tally_after t xs) (append_assoc (tree_node_list f ++ tree_node_list g) (Or ∷ []) nodes ∙ append_assoc (tree_node_list f) (tree_node_list g) (Or ∷ nodes))
    ∙ (tally_tree f t (tree_node_list g ++ Or ∷ nodes) fit.0
    ∙ (tally_tree g (added t 1 (length (printed_tree f))) (Or ∷ nodes) fit.1
    ∙ ap (λ o. after o nodes) (tally_joint t (length (printed_tree f)) (length (printed_tree g)) _ (joint_bytes (printed_tree f) (printed_tree g) 124))))

-- how many bytes the steps print to, without the slashes between them
abbrev pub tree_bytes : List Formula → ℕ
tree_bytes steps = sum_by (λ f. length (printed_tree f)) steps

tree_bytes-cons : (f : Formula) (steps : List Formula) → tree_bytes (f ∷ steps) ≡ length (printed_tree f) + tree_bytes steps
tree_bytes-cons f steps = sum_by-cons (λ f. length (printed_tree f)) f steps

pub tally_of_steps : (steps : List Formula) (t : Tally) → AreFit steps → tally_after t (nodes_of steps) ≡ Some (added t (length steps) (tree_bytes steps))
tally_of_steps [] t fit = ap (λ u. Some u) (same_tally _ _ (omega arith) (omega arith))
tally_of_steps (f ∷ steps) t fit =
    tally_tree f t (nodes_of steps) fit.0
    ∙ (tally_of_steps steps (added t 1 (length (printed_tree f))) fit.1 ∙ ap (λ u. Some u) (same_tally _ _ (omega arith) (omega (arith, tree_bytes-cons f steps))))

-- from nodes to the trees that they make

abbrev stack_nodes : List Formula → List Node
stack_nodes [] = []
stack_nodes (f ∷ stack) = stack_nodes stack ++ tree_node_list f

reverse-cons : (f : Formula) (stack : List Formula) → reverse (f ∷ stack) ≡ reverse stack ++ f ∷ []
reverse-cons f stack = reverse-append (f ∷ []) stack

nodes_of-reverse : (stack : List Formula) → nodes_of (reverse stack) ≡ stack_nodes stack
nodes_of-reverse [] = refl
nodes_of-reverse (f ∷ stack) =
    ap nodes_of (reverse-cons f stack)
    ∙ (nodes_of-append (reverse stack) (f ∷ []) ∙ (ap (λ xs. nodes_of (reverse stack) ++ xs) (append-nil (tree_node_list f)) ∙ ap (λ xs. xs ++ tree_node_list f) (nodes_of-reverse stack)))

AreFit-reverse : (stack : List Formula) → AreFit stack → AreFit (reverse stack)
AreFit-reverse [] fit = tt
AreFit-reverse (f ∷ stack) fit = rw (reverse-cons f stack) (AreFit-append (reverse stack) (f ∷ []) (AreFit-reverse stack fit.1) (fit.0, tt))

-- the stack has the trees that the tally counts, and is all of the nodes
record Makes (front : List Node) (stack : List Formula) (t : Tally) : Type 0 where
  spelled : stack_nodes stack ≡ front
  trees : length stack ≡ t.trees
  all_fit : AreFit stack

some_same : (s t : Tally) → Some s ≡ Some t → s ≡ t
some_same s t h = cc

operand_makes : (front : List Node) (stack : List Formula) (t u : Tally) (f : Formula) (node : Node) (bytes : ℕ)
    → Makes front stack t → IsFit f → tree_node_list f ≡ node ∷ [] → with_operand t bytes ≡ Some u → Makes (front ++ node ∷ []) (f ∷ stack) u
operand_makes front stack t u f node bytes m fit e h =
    let trees = ap (λ (s : Tally). s.trees) (some_same _ u h) in
    record {
      spelled = ap (λ xs. stack_nodes stack ++ xs) e ∙ ap (λ xs. xs ++ node ∷ []) m.spelled;
      trees = omega (arith, m.trees, trees);
      all_fit = (fit, m.all_fit);
    }

test_makes : (front : List Node) (stack : List Formula) (t u : Tally) (f : Formula) (node : Node) (sign n : ℕ)
    → Makes front stack t → (n < 10 ^ 12 → IsFit f) → tree_node_list f ≡ node ∷ [] → with_test t sign n ≡ Some u → Makes (front ++ node ∷ []) (f ∷ stack) u
test_makes front stack t u f node sign n m fit e h = by (nat_lt n (10 ^ 12)) refl h
  where
    by : (q : Bool) → nat_lt n (10 ^ 12) ≡ q → cond q (with_operand t (sign + length (decimal n))) None ≡ Some u → Makes (front ++ node ∷ []) (f ∷ stack) u
    by true small h = operand_makes front stack t u f node (sign + length (decimal n)) m (fit (ltb-true _ _ small)) e h
    by false small h = absurd (cc)

mark_makes : (front : List Node) (stack : List Formula) (t u : Tally) → Makes front stack t → with_mark t ≡ Some u → Makes (front ++ Not ∷ []) (negated stack) u
mark_makes front stack t u m h = by (nat_le 1 t.trees) refl h
  where
    marked : (stack : List Formula) → Makes front stack t → 1 ≤ t.trees → Makes (front ++ Not ∷ []) (negated stack) t
    marked [] m some = absurd (omega (arith, m.trees))
    marked (f ∷ stack) m some = record {
      spelled = sym (append_assoc (stack_nodes stack) (tree_node_list f) (Not ∷ [])) ∙ ap (λ xs. xs ++ Not ∷ []) m.spelled;
      trees = m.trees;
      all_fit = m.all_fit;
    }

    by : (q : Bool) → nat_le 1 t.trees ≡ q → cond q (Some (record { trees = t.trees; bytes = t.bytes + 1 })) None ≡ Some u → Makes (front ++ Not ∷ []) (negated stack) u
    by true some h =
        let now = marked stack m (leb-true _ _ some) in
        let trees = ap (λ (s : Tally). s.trees) (some_same _ u h) in
        record { spelled = now.spelled; trees = omega (arith, now.trees, trees); all_fit = now.all_fit }
    by false some h = absurd (cc)

regroup : (stack left right : List Node) (node : Node) → stack ++ ((left ++ right) ++ node ∷ []) ≡ ((stack ++ left) ++ right) ++ node ∷ []
regroup stack left right node = simp append_assoc

joint_makes : (front : List Node) (stack : List Formula) (t u : Tally) (join : Formula → Formula → Formula) (node : Node)
    → ((f g : Formula) → tree_node_list (join f g) ≡ (tree_node_list f ++ tree_node_list g) ++ node ∷ []) → ((f g : Formula) → IsFit f → IsFit g → IsFit (join f g))
    → Makes front stack t → with_joint t ≡ Some u → Makes (front ++ node ∷ []) (combined join stack) u
joint_makes front stack t u join node spells fits m h = by (nat_le 2 t.trees) refl h
  where
    joins : (stack : List Formula) → Makes front stack t → 2 ≤ t.trees → (u : Tally) → t.trees - 1 ≡ u.trees → Makes (front ++ node ∷ []) (combined join stack) u
    joins [] m some u e = absurd (omega (arith, m.trees))
    joins (g ∷ []) m some u e = absurd (omega (arith, m.trees))
    joins (g ∷ f ∷ stack) m some u e = record {
      spelled = ap (λ xs. stack_nodes stack ++ xs) (spells f g) ∙ (regroup (stack_nodes stack) (tree_node_list f) (tree_node_list g) node ∙ ap (λ xs. xs ++ node ∷ []) m.spelled);
      trees = omega (arith, m.trees);
      all_fit = (fits f g m.all_fit.1.0 m.all_fit.0, m.all_fit.1.1);
    }

    by : (q : Bool) → nat_le 2 t.trees ≡ q → cond q (Some (record { trees = t.trees - 1; bytes = t.bytes + 3 })) None ≡ Some u → Makes (front ++ node ∷ []) (combined join stack) u
    by true some h = joins stack m (leb-true _ _ some) u (ap (λ (s : Tally). s.trees) (some_same _ u h))
    by false some h = absurd (cc)

node_makes : (front : List Node) (stack : List Formula) (t u : Tally) (node : Node) → Makes front stack t → tally_with t node ≡ Some u
    → Makes (front ++ node ∷ []) (with_node stack node) u
node_makes front stack t u (Word word) m h = by (is_word word) refl h
  where
    by : (q : Bool) → is_word word ≡ q → cond q (with_operand t (length word)) None ≡ Some u → Makes (front ++ Word word ∷ []) (Has word ∷ stack) u
    by true e h = operand_makes front stack t u (Has word) (Word word) (length word) m e refl h
    by false e h = absurd (cc)
node_makes front stack t u (AtLeast n) m h = test_makes front stack t u (SizeAtLeast n) (AtLeast n) 6 n m (λ small. small) refl h
node_makes front stack t u (Below n) m h = test_makes front stack t u (SizeBelow n) (Below n) 5 n m (λ small. small) refl h
node_makes front stack t u Not m h = mark_makes front stack t u m h
node_makes front stack t u And m h = joint_makes front stack t u Both And (λ f g. refl) (λ f g x y. (x, y)) m h
node_makes front stack t u Or m h = joint_makes front stack t u Either Or (λ f g. refl) (λ f g x y. (x, y)) m h

nodes_make : (nodes front : List Node) (stack : List Formula) (t u : Tally) → Makes front stack t → tally_after t nodes ≡ Some u
    → Makes (front ++ nodes) (fold with_node stack nodes) u
nodes_make [] front stack t u m h =
    rw (append-nil front, sym (some_same t u h)) m
nodes_make (node ∷ nodes) front stack t u m h = by (tally_with t node) refl h (λ v. nodes_make nodes (front ++ node ∷ []) (with_node stack node) v u)
  where
    by : (o : Option Tally) → tally_with t node ≡ o → after o nodes ≡ Some u
        → ((v : Tally) → Makes (front ++ node ∷ []) (with_node stack node) v → tally_after v nodes ≡ Some u → Makes ((front ++ node ∷ []) ++ nodes) (fold with_node (with_node stack node) nodes) u)
        → Makes (front ++ node ∷ nodes) (fold with_node (with_node stack node) nodes) u
    by None e h again = absurd (cc)
    by (Some v) e h again = rw (sym (append_assoc front (node ∷ []) nodes)) (again v (node_makes front stack t v node m e) h)

-- the sizes of a place, on its nodes

tree_node_count : (f : Formula) → length (tree_node_list f) ≡ tree_nodes f
tree_node_count (Has word) = refl
tree_node_count (SizeAtLeast n) = refl
tree_node_count (SizeBelow n) = refl
tree_node_count (Negation f) = omega (arith, tree_node_count f, length-append (tree_node_list f) (Not ∷ []))
tree_node_count (Both f g) =
    omega (arith, tree_node_count f, tree_node_count g, length-append (tree_node_list f ++ tree_node_list g) (And ∷ []), length-append (tree_node_list f) (tree_node_list g))
tree_node_count (Either f g) =
    omega (arith, tree_node_count f, tree_node_count g, length-append (tree_node_list f ++ tree_node_list g) (Or ∷ []), length-append (tree_node_list f) (tree_node_list g))

pub node_count : (steps : List Formula) → length (nodes_of steps) ≡ sum_by tree_nodes steps
node_count [] = refl
node_count (f ∷ steps) = omega (arith, sum_by-cons tree_nodes f steps, tree_node_count f, node_count steps, length-append (tree_node_list f) (nodes_of steps))

behind_bytes : (steps : List Formula) → length (printed_behind steps) ≡ tree_bytes steps + length steps
behind_bytes [] = omega arith
behind_bytes (f ∷ steps) = omega (arith, tree_bytes-cons f steps, behind_bytes steps, length-append (47 ∷ printed_tree f) (printed_behind steps))

pub printed_bytes : (f : Formula) (steps : List Formula) → length (printed (f ∷ steps)) ≡ tree_bytes (f ∷ steps) + length steps
unfolding printed
printed_bytes f steps = omega (arith, tree_bytes-cons f steps, behind_bytes steps, length-append (printed_tree f) (printed_behind steps))

root_bytes : length (printed []) ≡ 1
unfolding printed
root_bytes = refl

bytes_within : (steps : List Formula) → tree_bytes steps + (length steps - 1) ≤ 1024 → length (printed steps) ≤ 1024
bytes_within [] h = omega (arith, root_bytes)
bytes_within (f ∷ steps) h = omega (arith, printed_bytes f steps)

pub within_bytes : (steps : List Formula) → length (printed steps) ≤ 1024 → tree_bytes steps + (length steps - 1) ≤ 1024
within_bytes [] h = omega arith
within_bytes (f ∷ steps) h = omega (arith, printed_bytes f steps)

-- what the test says

pub record IsPlaced (nodes : List Node) : Type 0 where
  pub spelled : nodes_of (steps_of nodes) ≡ nodes
  pub place : IsPlace (steps_of nodes)

placed_with : (nodes : List Node) (t : Tally) → tally_after no_tally nodes ≡ Some t → is_within (length nodes) (Some t) ≡ true → IsPlaced nodes
placed_with nodes t e h =
    let m = nodes_make nodes [] [] no_tally t (record { spelled = refl; trees = refl; all_fit = tt }) e in
    let stack = fold with_node [] nodes in
    let spelled : nodes_of (steps_of nodes) ≡ nodes = nodes_of-reverse stack ∙ m.spelled in
    let all_fit = AreFit-reverse stack m.all_fit in
    let trees : length (steps_of nodes) ≡ t.trees = length-reverse stack ∙ m.trees in
    let again : tally_after no_tally nodes ≡ Some (added no_tally (length (steps_of nodes)) (tree_bytes (steps_of nodes))) =
    ap (λ xs. tally_after no_tally xs) (sym spelled) ∙ tally_of_steps (steps_of nodes) no_tally all_fit in
    let bytes = ap (λ (s : Tally). s.bytes) (some_same _ t (sym again ∙ e)) in
    let limits = and_parts (nat_le (length nodes + (t.trees - 1)) 64) (nat_le (t.bytes + (t.trees - 1)) 1024) h in
    let few = leb-true _ _ limits.0 in
    let short = leb-true _ _ limits.1 in
    let count = node_count (steps_of nodes) in
    let same = ap length spelled in
    record {
      spelled = spelled;
      place = record {
        nodes = omega (arith, few, count, same, trees);
        bytes = bytes_within (steps_of nodes) (omega (arith, short, bytes, trees));
        fit = all_fit;
      };
    }

pub placed_back : (nodes : List Node) → are_place nodes ≡ true → IsPlaced nodes
placed_back nodes h = at_count (nat_le (length nodes) 64) h
  where
    at_tally : (o : Option Tally) → tally_after no_tally nodes ≡ o → is_within (length nodes) o ≡ true → IsPlaced nodes
    at_tally None e h = absurd (false≢true h)
    at_tally (Some t) e h = placed_with nodes t e h

    at_count : (q : Bool) → cond q (is_within (length nodes) (tally_after no_tally nodes)) false ≡ true → IsPlaced nodes
    at_count true h = at_tally (tally_after no_tally nodes) refl h
    at_count false h = absurd (false≢true h)

pub placed_forth : (steps : List Formula) → IsPlace steps → are_place (nodes_of steps) ≡ true
placed_forth steps p =
    let count = node_count steps in
    let few : length (nodes_of steps) ≤ 64 = omega (arith, count, p.nodes) in
    let bytes = within_bytes steps p.bytes in
    let more : length (nodes_of steps) + (0 + length steps - 1) ≤ 64 = omega (arith, count, p.nodes) in
    let short : 0 + tree_bytes steps + (0 + length steps - 1) ≤ 1024 = omega (arith, bytes) in
    rw (le-leb _ _ few, tally_of_steps steps no_tally p.fit) (and_from _ _ (le-leb _ _ more) (le-leb _ _ short))
