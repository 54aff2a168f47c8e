-- How far a reader has come in a text.
use Rattle.std.proofs.Common.{◌≡◌, ℕ, ◌+◌, ◌<◌, ◌≤◌, suc, Option, Some, None, List, [], ◌∷◌, ◌++◌, length, take, drop, get_or, refl, ap, sym, subst, ◌∙◌, arith, append-nil}
use Rattle.std.specs.Prelude.{option_map}
use Rattle.std.proofs.lemmas.List.{take-append-drop, drop_more, take_more, length-take-le, take_all}
use Rattle.lis_grammar.specs.Formula.{Formula}
use Rattle.lis_grammar.specs.Machine.{Machine, and_then, step, run, closed, ended, path_steps, lived, lived_on}
use Rattle.lis_grammar.specs.Machine.Machine.{Wants}
use Rattle.lis_grammar.proofs.Forth.{run-append}
use Rattle.lis_formula.specs.declared.reader.Nodes.{Nodes}
use Rattle.lis_formula.specs.Walk.{no_nodes, Walk, walk_step, walk_end}
use Rattle.lis_formula.specs.Walk.Walk.{Begins}
use Rattle.lis_formula.specs.Paths.{IsPath, IsNoPath}
use Rattle.lis_formula.proofs.Abs.{abs, abs_step, kept_steps, abs_end}

-- the machine reads the text, and the reader is in the machine's state
pub record Reaches (text : List ℕ) (w : Walk) : Type 0 where
  pub s : Machine
  pub runs : run (Wants [] []) text ≡ Some s
  pub stands : w ≡ abs s

pub reach_start : (w : Walk) → w ≡ Begins (record { signs = []; kept = no_nodes }) → Reaches [] w
reach_start w e = record { s = Wants [] []; runs = refl; stands = e }

run_more : (text : List ℕ) (s : Machine) (b : ℕ) → run (Wants [] []) text ≡ Some s → run (Wants [] []) (text ++ b ∷ []) ≡ and_then (step s b) (λ t. Some t)
run_more text s b h = run-append (Wants [] []) text (b ∷ []) ∙ ap (λ o. and_then o (λ t. run t (b ∷ []))) h

pub reach_more : (text : List ℕ) (b : ℕ) (w v : Walk) → Reaches text w → walk_step w b ≡ Some v → Reaches (text ++ b ∷ []) v
reach_more text b w v r h = by (step s b) refl (sym (abs_step s b) ∙ (ap (λ x. walk_step x b) (sym r.stands) ∙ h))
  where
    s : Machine
    s = r.s

    by : (o : Option Machine) → step s b ≡ o → option_map abs o ≡ Some v → Reaches (text ++ b ∷ []) v
    by None e h = absurd (cc)
    by (Some t) e h = record { s = t; runs = run_more text s b r.runs ∙ ap (λ o. and_then o (λ u. Some u)) e; stands = cc }

-- the reader stops at a byte

lived-append : (s : Machine) (xs ys : List ℕ) (t : Machine) → run s xs ≡ Some t → lived s (xs ++ ys) ≡ length xs + lived t ys
lived-append s [] ys t h = let same : s ≡ t = cc in ap (λ u. lived u ys) same ∙ plus (lived t ys)
  where
    plus : (n : ℕ) → n ≡ 0 + n
    plus n = omega arith
lived-append s (b ∷ xs) ys t h = by (step s b) h (λ u. lived-append u xs ys t)
  where
    by : (o : Option Machine) → and_then o (λ u. run u xs) ≡ Some t → ((u : Machine) → run u xs ≡ Some t → lived u (xs ++ ys) ≡ length xs + lived t ys)
        → lived_on o (λ u. lived u (xs ++ ys)) ≡ suc (length xs) + lived t ys
    by None h more = absurd (cc)
    by (Some u) h more = omega (arith, more u h)

stopped : (text front rest : List ℕ) (s : Machine) (b : ℕ) → text ≡ front ++ b ∷ rest → run (Wants [] []) front ≡ Some s → step s b ≡ None → IsNoPath text (length front)
stopped text front rest s b e h stops =
    let runs : run (Wants [] []) text ≡ None =
    ap (run (Wants [] [])) e ∙ (run-append (Wants [] []) front (b ∷ rest) ∙ (ap (λ o. and_then o (λ t. run t (b ∷ rest))) h ∙ ap (λ o. and_then o (λ t. run t rest)) stops)) in
    let counts = ap (lived (Wants [] [])) e ∙ (lived-append (Wants [] []) front (b ∷ rest) s h ∙ ap (λ o. length front + lived_on o (λ t. lived t rest)) stops) in
    (ap (λ o. and_then (and_then o closed) ended) runs, omega (arith, counts))

no_step : (s : Machine) (b : ℕ) → walk_step (abs s) b ≡ None → step s b ≡ None
no_step s b h = by (step s b) (sym (abs_step s b) ∙ h)
  where
    by : (o : Option Machine) → option_map abs o ≡ None → o ≡ None
    by None h = refl
    by (Some t) h = absurd (cc)

pub reach_stop : (text : List ℕ) (i : ℕ) (w : Walk) → i < length text → Reaches (take i text) w → walk_step w (get_or text i 0) ≡ None → IsNoPath text i
reach_stop text i w inside r h =
    let whole : text ≡ take i text ++ get_or text i 0 ∷ drop (i + 1) text =
    sym (take-append-drop i text) ∙ ap (λ xs. take i text ++ xs) (drop_more text i 0 inside) in
    let stops = no_step r.s (get_or text i 0) (ap (λ x. walk_step x (get_or text i 0)) (sym r.stands) ∙ h) in
    let answer = stopped text (take i text) (drop (i + 1) text) r.s (get_or text i 0) whole r.runs stops in
    let count = length-take-le i text (omega arith) in
    (answer.0, sym count ∙ answer.1)

pub reach_next : (text : List ℕ) (i : ℕ) (w v : Walk) → i < length text → Reaches (take i text) w → walk_step w (get_or text i 0) ≡ Some v → Reaches (take (i + 1) text) v
reach_next text i w v inside r h = rw (take_more text i 0 inside) (reach_more (take i text) (get_or text i 0) w v r h)

-- the reader comes to the end

path_at : (text : List ℕ) (s : Machine) → run (Wants [] []) text ≡ Some s → path_steps text ≡ and_then (closed s) ended
path_at text s h = ap (λ o. and_then (and_then o closed) ended) h

lived_all : (text : List ℕ) (s : Machine) → run (Wants [] []) text ≡ Some s → length text ≡ lived (Wants [] []) text
lived_all text s h =
    let counts = lived-append (Wants [] []) text [] s h in
    let same = ap (lived (Wants [] [])) (append-nil text) in
    omega (arith, counts, same)

-- the loop over the bytes has come to its end
pub reach_all : (text : List ℕ) (i : ℕ) (w : Walk) → length text ≤ i → Reaches (take i text) w → Reaches text w
reach_all text i w all r = subst (λ xs. Reaches xs w) (take_all i text all) r

pub reach_end : (text : List ℕ) (w : Walk) (kept : Nodes) → Reaches text w → walk_end w ≡ Some kept → IsPath text kept
reach_end text w kept r h = by (and_then (closed r.s) ended) refl (sym (abs_end r.s) ∙ (ap walk_end (sym r.stands) ∙ h))
  where
    by : (o : Option (List Formula)) → and_then (closed r.s) ended ≡ o → kept_steps o ≡ Some kept → IsPath text kept
    by None e h = absurd (cc)
    by (Some steps) e h = (steps, path_at text r.s r.runs ∙ e, cc)

pub reach_no_end : (text : List ℕ) (w : Walk) → Reaches text w → walk_end w ≡ None → IsNoPath text (length text)
reach_no_end text w r h = by (and_then (closed r.s) ended) refl (sym (abs_end r.s) ∙ (ap walk_end (sym r.stands) ∙ h))
  where
    by : (o : Option (List Formula)) → and_then (closed r.s) ended ≡ o → kept_steps o ≡ None → IsNoPath text (length text)
    by None e h = (path_at text r.s r.runs ∙ e, lived_all text r.s r.runs)
    by (Some steps) e h = absurd (cc)
