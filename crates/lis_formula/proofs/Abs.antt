-- The reader's walk is the machine of the grammar, with signs and the first 64 nodes instead of trees.
use Rattle.std.proofs.Common.{◌≡◌, ℕ, ◌<◌, ◌≤◌, Bool, true, false, cond, ◌==◌, inl, inr, nat_lt, Option, Some, None, List, [], ◌∷◌, ◌++◌, length, take, refl, ap, sym, ◌∙◌, arith, append_assoc, append-nil, length-append, codes}
use Rattle.std.specs.Prelude.{option_map, option_and_then}
use Rattle.std.proofs.lemmas.Bool.{lt-ltb, le-ltb, eq-eqb, ne_eqb, cases_lt}
use Rattle.std.proofs.lemmas.List.{take-append-le, take_all, length-take-le}
use Rattle.lis_words.specs.Words.{is_word, is_count, count_of}
use Rattle.lis_grammar.specs.Formula.{Formula}
use Rattle.lis_grammar.specs.Formula.Formula.{Has, SizeAtLeast, SizeBelow, Negation}
use Rattle.lis_grammar.specs.Machine.{Pending, Done, Machine, and_then, after_sign, counted, operand, is_operand_front, is_joint, complete, completed, settled, close_bar, close_slash, after_bar, after_slash, after_paren, joint, within, step, closed, ended}
use Rattle.lis_grammar.specs.Machine.Pending.{Bang, Open, BarAfter, SlashAfter}
use Rattle.lis_grammar.specs.Machine.Done.{done}
use Rattle.lis_grammar.specs.Machine.Machine.{Wants, Within, Complete}
use Rattle.lis_place.specs.declared.node.Node.{Node}
use Rattle.lis_place.specs.declared.node.Node.TheVariants.{Word, AtLeast, Below, Not, And, Or}
use Rattle.lis_place.specs.Nodes.{tree_node_list, nodes_of}
use Rattle.lis_place.proofs.Trees.{nodes_of-append}
use Rattle.lis_formula.specs.declared.signs.Sign.{Sign}
use Rattle.lis_formula.specs.declared.signs.Sign.TheVariants.{Mark, Paren, Bar, Slash}
use Rattle.lis_formula.specs.declared.reader.Nodes.{Nodes}
use Rattle.lis_formula.specs.declared.reader.Held.{Held}
use Rattle.lis_formula.specs.Operands.{counted_number, test_node, operand_node}
use Rattle.lis_formula.specs.Walk.{first_64, noted, noted_in, with_sign, marked_on, marked, closed_bar, closed_slash, slashed, unwrapped, Walk, walk_joint, settled_in, walk_settled, walk_within, walk_step, all_kept, walk_end}
use Rattle.lis_formula.specs.Walk.Walk.{Begins, Inside, Ended}
use Rattle.std.specs.Option.{option_or}

abbrev pub kinds : List Pending → List Sign
kinds [] = []
kinds (Bang ∷ ops) = Mark ∷ kinds ops
kinds (Open ∷ ops) = Paren ∷ kinds ops
kinds (BarAfter f ∷ ops) = Bar ∷ kinds ops
kinds (SlashAfter f ∷ ops) = Slash ∷ kinds ops

-- the nodes of the left operands that wait
abbrev pub waiting : List Pending → List Node
waiting [] = []
waiting (Bang ∷ ops) = waiting ops
waiting (Open ∷ ops) = waiting ops
waiting (BarAfter f ∷ ops) = waiting ops ++ tree_node_list f
waiting (SlashAfter f ∷ ops) = waiting ops ++ tree_node_list f

abbrev pub base : List Pending → List Formula → List Node
base ops steps = nodes_of steps ++ waiting ops

abbrev pub held_at : List Pending → List Node → Held
held_at ops nodes = record { signs = kinds ops; kept = first_64 nodes }

abbrev pub abs_done : Done → Held
abs_done (done ops steps f) = held_at ops (base ops steps ++ tree_node_list f)

abbrev pub abs : Machine → Walk
abs (Wants ops steps) = Begins (held_at ops (base ops steps))
abs (Within ops steps text) = Inside (held_at ops (base ops steps)) text
abs (Complete d) = Ended (abs_done d)

-- one more node

nodes_from : List Node → Bool → Nodes
nodes_from items over = record { nodes = record { items = items }; over = over }

same_kept : (xs ys : List Node) (s t : Bool) → xs ≡ ys → s ≡ t → nodes_from xs s ≡ nodes_from ys t
same_kept xs ys s t e f = cc

noted_full : (nodes : List Node) (node : Node) → 64 ≤ length nodes → noted (first_64 nodes) node ≡ first_64 (nodes ++ node ∷ [])
unfolding nodes_from
noted_full nodes node full =
    let longer = length-append nodes (node ∷ []) in
    rw (eq-eqb (length (take 64 nodes)) 64 (length-take-le 64 nodes full))
    (same_kept (take 64 nodes) (take 64 (nodes ++ node ∷ [])) true (nat_lt 64 (length (nodes ++ node ∷ [])))
    (sym (take-append-le 64 nodes (node ∷ []) full)) (sym (lt-ltb 64 (length (nodes ++ node ∷ [])) (omega (arith, longer)))))

noted_room : (nodes : List Node) (node : Node) → length nodes < 64 → noted (first_64 nodes) node ≡ first_64 (nodes ++ node ∷ [])
unfolding nodes_from
noted_room nodes node room =
    let all : take 64 nodes ≡ nodes = take_all 64 nodes (omega arith) in
    let longer = length-append nodes (node ∷ []) in
    let count : length (take 64 nodes) ≡ 64 → ⊥ = λ e. omega (arith, e, ap length all) in
    rw (ne_eqb (length (take 64 nodes)) 64 count)
    (same_kept (take 64 nodes ++ node ∷ []) (take 64 (nodes ++ node ∷ [])) (nat_lt 64 (length nodes)) (nat_lt 64 (length (nodes ++ node ∷ [])))
    (ap (λ xs. xs ++ node ∷ []) all ∙ sym (take_all 64 (nodes ++ node ∷ []) (omega (arith, longer))))
    (le-ltb 64 (length nodes) (omega arith) ∙ sym (le-ltb 64 (length (nodes ++ node ∷ [])) (omega (arith, longer)))))

noted_first : (nodes : List Node) (node : Node) → noted (first_64 nodes) node ≡ first_64 (nodes ++ node ∷ [])
noted_first nodes node = elim (cases_lt (length nodes) 64) [ inl room ↦ noted_room nodes node room | inr full ↦ noted_full nodes node full ]

-- an operand that has ended

marks_apply : (ops : List Pending) (steps : List Formula) (f : Formula) → marked_on (kinds ops) (first_64 (base ops steps ++ tree_node_list f)) ≡ abs_done (complete ops steps f)
marks_apply [] steps f = refl
marks_apply (Bang ∷ ops) steps f =
    ap (marked_on (kinds ops)) (noted_first (base ops steps ++ tree_node_list f) Not ∙ ap first_64 (append_assoc (base ops steps) (tree_node_list f) (Not ∷ [])))
    ∙ marks_apply ops steps (Negation f)
marks_apply (Open ∷ ops) steps f = refl
marks_apply (BarAfter g ∷ ops) steps f = refl
marks_apply (SlashAfter g ∷ ops) steps f = refl

regroup : (steps wait left right : List Node) (node : Node) → ((steps ++ (wait ++ left)) ++ right) ++ node ∷ [] ≡ (steps ++ wait) ++ ((left ++ right) ++ node ∷ [])
regroup steps wait left right node = simp append_assoc

joint_noted : (ops : List Pending) (steps : List Formula) (f g : Formula) (node : Node)
    → noted (first_64 ((nodes_of steps ++ (waiting ops ++ tree_node_list g)) ++ tree_node_list f)) node ≡ first_64 (base ops steps ++ ((tree_node_list g ++ tree_node_list f) ++ node ∷ []))
joint_noted ops steps f g node =
    noted_first ((nodes_of steps ++ (waiting ops ++ tree_node_list g)) ++ tree_node_list f) node
    ∙ ap first_64 (regroup (nodes_of steps) (waiting ops) (tree_node_list g) (tree_node_list f) node)

held_of : List Sign → Nodes → Held
held_of signs kept = record { signs = signs; kept = kept }

bar_closes : (d : Done) → closed_bar (abs_done d) ≡ abs_done (close_bar d)
unfolding held_of
bar_closes (done [] steps f) = refl
bar_closes (done (Bang ∷ ops) steps f) = refl
bar_closes (done (Open ∷ ops) steps f) = refl
bar_closes (done (BarAfter g ∷ ops) steps f) = ap (held_of (kinds ops)) (joint_noted ops steps f g Or)
bar_closes (done (SlashAfter g ∷ ops) steps f) = refl

slash_closes : (d : Done) → closed_slash (abs_done d) ≡ abs_done (close_slash d)
unfolding held_of
slash_closes (done [] steps f) = refl
slash_closes (done (Bang ∷ ops) steps f) = refl
slash_closes (done (Open ∷ ops) steps f) = refl
slash_closes (done (BarAfter g ∷ ops) steps f) = refl
slash_closes (done (SlashAfter g ∷ ops) steps f) = ap (held_of (kinds ops)) (joint_noted ops steps f g And)

both_close : (d : Done) → closed_slash (closed_bar (abs_done d)) ≡ abs_done (close_slash (close_bar d))
both_close d = ap closed_slash (bar_closes d) ∙ slash_closes (close_bar d)

step_nodes : (steps : List Formula) (f : Formula) → (nodes_of steps ++ []) ++ tree_node_list f ≡ nodes_of (steps ++ f ∷ []) ++ []
step_nodes steps f =
    ap (λ xs. xs ++ tree_node_list f) (append-nil (nodes_of steps))
    ∙ (ap (λ xs. nodes_of steps ++ xs) (sym (append-nil (tree_node_list f))) ∙ (sym (nodes_of-append steps (f ∷ [])) ∙ sym (append-nil (nodes_of (steps ++ f ∷ [])))))

-- the sign after it

bar_waits : (d : Done) → Begins (with_sign Bar (abs_done d)) ≡ abs (after_bar d)
unfolding held_of
bar_waits (done ops steps f) = ap (λ xs. Begins (held_of (Bar ∷ kinds ops) (first_64 xs))) (append_assoc (nodes_of steps) (waiting ops) (tree_node_list f))

slash_waits : (d : Done) → Begins (slashed (abs_done d)) ≡ abs (after_slash d)
unfolding held_of
slash_waits (done [] steps f) = ap (λ xs. Begins (held_of [] (first_64 xs))) (step_nodes steps f)
slash_waits (done (Bang ∷ ops) steps f) = ap (λ xs. Begins (held_of (Slash ∷ Mark ∷ kinds ops) (first_64 xs))) (append_assoc (nodes_of steps) (waiting ops) (tree_node_list f))
slash_waits (done (Open ∷ ops) steps f) = ap (λ xs. Begins (held_of (Slash ∷ Paren ∷ kinds ops) (first_64 xs))) (append_assoc (nodes_of steps) (waiting ops) (tree_node_list f))
slash_waits (done (BarAfter g ∷ ops) steps f) =
    ap (λ xs. Begins (held_of (Slash ∷ Bar ∷ kinds ops) (first_64 xs))) (append_assoc (nodes_of steps) (waiting ops ++ tree_node_list g) (tree_node_list f))
slash_waits (done (SlashAfter g ∷ ops) steps f) =
    ap (λ xs. Begins (held_of (Slash ∷ Slash ∷ kinds ops) (first_64 xs))) (append_assoc (nodes_of steps) (waiting ops ++ tree_node_list g) (tree_node_list f))

paren_unwraps : (d : Done) → unwrapped (abs_done d) ≡ option_map abs (after_paren d)
paren_unwraps (done [] steps f) = refl
paren_unwraps (done (Bang ∷ ops) steps f) = refl
paren_unwraps (done (Open ∷ ops) steps f) = ap (λ held. Some (Ended held)) (marks_apply ops steps f)
paren_unwraps (done (BarAfter g ∷ ops) steps f) = refl
paren_unwraps (done (SlashAfter g ∷ ops) steps f) = refl

abs_joint : (b : ℕ) (d : Done) → walk_joint b (abs_done d) ≡ option_map abs (joint b d)
abs_joint b d = at_bar (b == 124)
  where
    at_paren : (t : Bool) → cond t (unwrapped (closed_slash (closed_bar (abs_done d)))) None ≡ option_map abs (cond t (after_paren (close_slash (close_bar d))) None)
    at_paren true = ap unwrapped (both_close d) ∙ paren_unwraps (close_slash (close_bar d))
    at_paren false = refl

    at_slash : (t : Bool)
        → cond t (Some (Begins (slashed (closed_slash (closed_bar (abs_done d)))))) (cond (b == 41) (unwrapped (closed_slash (closed_bar (abs_done d)))) None)
        ≡ option_map abs (cond t (Some (after_slash (close_slash (close_bar d)))) (cond (b == 41) (after_paren (close_slash (close_bar d))) None))
    at_slash true = ap (λ held. Some (Begins (slashed held))) (both_close d) ∙ ap (λ w. Some w) (slash_waits (close_slash (close_bar d)))
    at_slash false = at_paren (b == 41)

    at_bar : (t : Bool)
        → cond t (Some (Begins (with_sign Bar (closed_bar (abs_done d))))) (cond (b == 47) (Some (Begins (slashed (closed_slash (closed_bar (abs_done d)))))) (cond (b == 41) (unwrapped (closed_slash (closed_bar (abs_done d)))) None))
        ≡ option_map abs (cond t (Some (after_bar (close_bar d))) (cond (b == 47) (Some (after_slash (close_slash (close_bar d)))) (cond (b == 41) (after_paren (close_slash (close_bar d))) None)))
    at_bar true = ap (λ held. Some (Begins (with_sign Bar held))) (bar_closes d) ∙ ap (λ w. Some w) (bar_waits (close_bar d))
    at_bar false = at_slash (b == 47)

-- words and tests

abbrev Leaf : Option Node → Option Formula → Type 0
Leaf None None = Unit {0}
Leaf None (Some f) = ⊥
Leaf (Some node) None = ⊥
Leaf (Some node) (Some f) = tree_node_list f ≡ node ∷ []

leaf_or_else : (a c : Option Node) (b d : Option Formula) → Leaf a b → Leaf c d → Leaf (option_or a c) (option_or b d)
leaf_or_else None c None d h k = k
leaf_or_else None c (Some f) d h k = absurd h
leaf_or_else (Some node) c None d h k = absurd h
leaf_or_else (Some node) c (Some f) d h k = h

leaf_counted : (test : ℕ → Node) (tree : ℕ → Formula) → ((n : ℕ) → tree_node_list (tree n) ≡ test n ∷ []) → (found : Option (List ℕ))
    → Leaf (option_map test (counted_number found)) (counted tree found)
leaf_counted test tree spells None = tt
leaf_counted test tree spells (Some digits) = by (is_count digits)
  where
    by : (t : Bool) → Leaf (option_map test (cond t (Some (count_of digits)) None)) (cond t (Some (tree (count_of digits))) None)
    by true = spells (count_of digits)
    by false = tt

leaf : (text : List ℕ) → Leaf (operand_node text) (operand text)
leaf text = by (is_word text)
  where
    tests : Leaf (test_node text) (option_or (counted SizeAtLeast (after_sign (codes "size>=") text)) (counted SizeBelow (after_sign (codes "size<") text)))
    tests = leaf_or_else
        (option_map AtLeast (counted_number (after_sign (codes "size>=") text))) (option_map Below (counted_number (after_sign (codes "size<") text)))
        (counted SizeAtLeast (after_sign (codes "size>=") text)) (counted SizeBelow (after_sign (codes "size<") text))
        (leaf_counted AtLeast SizeAtLeast (λ n. refl) (after_sign (codes "size>=") text)) (leaf_counted Below SizeBelow (λ n. refl) (after_sign (codes "size<") text))

    by : (t : Bool)
        → Leaf (cond t (Some (Word text)) (test_node text)) (cond t (Some (Has text)) (option_or (counted SizeAtLeast (after_sign (codes "size>=") text)) (counted SizeBelow (after_sign (codes "size<") text))))
    by true = refl
    by false = tests

abs_settled_in : (ops : List Pending) (steps : List Formula) (text : List ℕ) → settled_in (held_at ops (base ops steps)) text ≡ option_map abs_done (completed ops steps (operand text))
abs_settled_in ops steps text = by (operand_node text) (operand text) (leaf text)
  where
    by : (o : Option Node) (p : Option Formula) → Leaf o p
        → option_map (λ node. marked (noted_in (held_at ops (base ops steps)) node)) o ≡ option_map abs_done (completed ops steps p)
    by None None h = refl
    by None (Some f) h = absurd h
    by (Some node) None h = absurd h
    by (Some node) (Some f) h =
        ap (λ kept. Some (marked_on (kinds ops) kept)) (noted_first (base ops steps) node ∙ ap (λ xs. first_64 (base ops steps ++ xs)) (sym h))
        ∙ ap (λ held. Some held) (marks_apply ops steps f)

abs_within : (ops : List Pending) (steps : List Formula) (text : List ℕ) → walk_within (held_at ops (base ops steps)) text ≡ option_map abs (within ops steps text)
abs_within ops steps text = by (is_operand_front text)
  where
    by : (t : Bool) → cond t (Some (Inside (held_at ops (base ops steps)) text)) None ≡ option_map abs (cond t (Some (Within ops steps text)) None)
    by true = refl
    by false = refl

-- one byte

pub abs_step : (s : Machine) (b : ℕ) → walk_step (abs s) b ≡ option_map abs (step s b)
abs_step (Wants ops steps) b = at_mark (b == 33)
  where
    at_open : (t : Bool) → cond t (Some (Begins (with_sign Paren (held_at ops (base ops steps))))) (walk_within (held_at ops (base ops steps)) (b ∷ []))
        ≡ option_map abs (cond t (Some (Wants (Open ∷ ops) steps)) (within ops steps (b ∷ [])))
    at_open true = refl
    at_open false = abs_within ops steps (b ∷ [])

    at_mark : (t : Bool)
        → cond t (Some (Begins (with_sign Mark (held_at ops (base ops steps))))) (cond (b == 40) (Some (Begins (with_sign Paren (held_at ops (base ops steps))))) (walk_within (held_at ops (base ops steps)) (b ∷ [])))
        ≡ option_map abs (cond t (Some (Wants (Bang ∷ ops) steps)) (cond (b == 40) (Some (Wants (Open ∷ ops) steps)) (within ops steps (b ∷ []))))
    at_mark true = refl
    at_mark false = at_open (b == 40)
abs_step (Within ops steps text) b = by (is_joint b)
  where
    joins : (o : Option Done) → option_and_then (walk_joint b) (option_map abs_done o) ≡ option_map abs (and_then o (joint b))
    joins None = refl
    joins (Some d) = abs_joint b d

    by : (t : Bool)
        → cond t (option_and_then (walk_joint b) (settled_in (held_at ops (base ops steps)) text)) (walk_within (held_at ops (base ops steps)) (text ++ b ∷ []))
        ≡ option_map abs (cond t (and_then (completed ops steps (operand text)) (joint b)) (within ops steps (text ++ b ∷ [])))
    by true = ap (option_and_then (walk_joint b)) (abs_settled_in ops steps text) ∙ joins (completed ops steps (operand text))
    by false = abs_within ops steps (text ++ b ∷ [])
abs_step (Complete d) b = abs_joint b d

-- the end

abbrev pub kept_steps : Option (List Formula) → Option Nodes
kept_steps found = option_map (λ steps. first_64 (nodes_of steps)) found

abs_ended : (d : Done) → all_kept (abs_done d) ≡ kept_steps (ended d)
abs_ended (done [] steps f) = ap (λ xs. Some (first_64 xs)) (step_nodes steps f ∙ append-nil (nodes_of (steps ++ f ∷ [])))
abs_ended (done (Bang ∷ ops) steps f) = refl
abs_ended (done (Open ∷ ops) steps f) = refl
abs_ended (done (BarAfter g ∷ ops) steps f) = refl
abs_ended (done (SlashAfter g ∷ ops) steps f) = refl

abs_settled : (s : Machine) → walk_settled (abs s) ≡ option_map abs_done (settled s)
abs_settled (Wants ops steps) = refl
abs_settled (Within ops steps text) = abs_settled_in ops steps text
abs_settled (Complete d) = refl

pub abs_end : (s : Machine) → walk_end (abs s) ≡ kept_steps (and_then (closed s) ended)
abs_end s = ap (option_and_then (λ held. all_kept (closed_slash (closed_bar held)))) (abs_settled s) ∙ by (settled s)
  where
    by : (o : Option Done) → option_and_then (λ held. all_kept (closed_slash (closed_bar held))) (option_map abs_done o)
        ≡ kept_steps (and_then (and_then o (λ d. Some (close_slash (close_bar d)))) ended)
    by None = refl
    by (Some d) = ap all_kept (both_close d) ∙ abs_ended (close_slash (close_bar d))
