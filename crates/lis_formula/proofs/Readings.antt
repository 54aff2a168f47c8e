-- From what was kept of a path to the result for the whole text.
use Rattle.std.proofs.Common.{◌≡◌, ℕ, ◌+◌, ◌<◌, ◌≤◌, suc, Bool, true, false, not, ◌==◌, inl, inr, Some, None, List, [], ◌∷◌, length, refl, ap, sym, subst, ◌∙◌, arith}
use Rattle.std.specs.Prelude.{Result, Ok, Err, IfOk}
use Rattle.std.proofs.lemmas.Bool.{false≢true, ltb-true, ltb-false}
use Rattle.std.proofs.lemmas.List.{take_all}
use Rattle.lis_grammar.specs.Formula.{Formula}
use Rattle.lis_grammar.specs.Grammar.{Reads, IsBrokenAt}
use Rattle.lis_grammar.specs.Machine.{path_steps, with_root, text_steps, lived, broken_at}
use Rattle.lis_grammar.specs.Machine.Machine.{Wants}
use Rattle.lis_grammar.specs.Places.{IsPlace}
use Rattle.lis_grammar.proofs.Forth.{reads_complete}
use Rattle.lis_grammar.proofs.Back.{reads_sound}
use Rattle.lis_grammar.proofs.Fronts.{breaks}
use Rattle.lis_grammar.proofs.Placed.{no_place, test_fails}
use Rattle.lis_place.specs.declared.place.Path.{Path}
use Rattle.lis_place.specs.Nodes.{nodes_of}
use Rattle.lis_place.proofs.Trees.{same_steps}
use Rattle.lis_place.proofs.Tallies.{node_count}
use Rattle.lis_formula.specs.declared.fault.FormulaFault.{FormulaFault}
use Rattle.lis_formula.specs.declared.fault.FormulaFault.TheVariants.{TooLarge, Syntax}
use Rattle.lis_formula.specs.declared.reader.Nodes.{Nodes}
use Rattle.lis_formula.specs.Walk.{first_64}
use Rattle.lis_formula.specs.Paths.{IsPath, IsNoPath, IsWhole, begins_here}
use Rattle.lis_formula.specs.Answers.{ReadsTo, Computes}

-- what was kept

few_nodes : (steps : List Formula) → IsPlace steps → length (nodes_of steps) ≤ 64
few_nodes steps p = let count = node_count steps in omega (arith, count, p.nodes)

pub over_place : (kept : Nodes) → kept.over ≡ true → (steps : List Formula) → kept ≡ first_64 (nodes_of steps) → IsPlace steps → ⊥
over_place kept over steps e p =
    let many = ltb-true 64 (length (nodes_of steps)) (sym (ap (λ (k : Nodes). k.over) e) ∙ over) in
    omega (arith, few_nodes steps p)

pub no_place_kept : (kept : Nodes) → ((steps : List Formula) → IsPlace steps → kept.nodes.items ≡ nodes_of steps → ⊥)
    → (steps : List Formula) → kept ≡ first_64 (nodes_of steps) → IsPlace steps → ⊥
no_place_kept kept none steps e p = none steps p (ap (λ (k : Nodes). k.nodes.items) e ∙ take_all 64 (nodes_of steps) (few_nodes steps p))

pub whole_kept : (kept : Nodes) (place : List Formula) → kept.over ≡ false → kept.nodes.items ≡ nodes_of place → (steps : List Formula) → kept ≡ first_64 (nodes_of steps) → place ≡ steps
whole_kept kept place over same steps e =
    let few = ltb-false 64 (length (nodes_of steps)) (sym (ap (λ (k : Nodes). k.over) e) ∙ over) in
    same_steps place steps (sym same ∙ (ap (λ (k : Nodes). k.nodes.items) e ∙ take_all 64 (nodes_of steps) few))

-- a path within a text

computes_whole : (text : List ℕ) (rooted : Bool) (steps : List Formula) (kept : Nodes) (result : Result Path FormulaFault)
    → text_steps text ≡ with_root rooted (Some steps) → kept ≡ first_64 (nodes_of steps) → IsWhole rooted kept result → Computes text result
computes_whole text rooted steps kept (Ok path) h e w = h ∙ same path rooted steps w.0 (w.2 steps e)
  where
    same : (path : Path) (rooted : Bool) (steps : List Formula) → path.rooted ≡ rooted → path.place ≡ steps → with_root rooted (Some steps) ≡ with_root path.rooted (Some path.place)
    same path rooted steps r p = rw (sym r, sym p) refl
computes_whole text rooted steps kept (Err TooLarge) h e w = inr ((rooted, steps), h, no_place steps (w steps e))
computes_whole text rooted steps kept (Err (Syntax k)) h e w = absurd w

not_slash : (b : ℕ) (text : List ℕ) → begins_here (b ∷ text) ≡ true → (b == 47) ≡ false
not_slash b text h = by (b == 47) h
  where
    by : (t : Bool) → not t ≡ true → t ≡ false
    by true h = sym h
    by false h = refl

here_steps : (text : List ℕ) → begins_here text ≡ true → text_steps text ≡ with_root false (path_steps text)
unfolding text_steps
here_steps [] h = absurd (false≢true h)
here_steps (b ∷ text) h = rw (not_slash b text h) refl

here_broken : (text : List ℕ) → begins_here text ≡ true → broken_at text ≡ lived (Wants [] []) text
unfolding broken_at
here_broken [] h = absurd (false≢true h)
here_broken (b ∷ text) h = rw (not_slash b text h) refl

pub here_reads : (text : List ℕ) (kept : Nodes) (result : Result Path FormulaFault) → begins_here text ≡ true → IsPath text kept → IsWhole false kept result → Computes text result
here_reads text kept result here p w = computes_whole text false p.0 kept result (here_steps text here ∙ ap (with_root false) p.1) p.2 w

pub here_breaks : (text : List ℕ) (k : ℕ) → begins_here text ≡ true → IsNoPath text k → Computes text (Err (Syntax k))
here_breaks text k here p = (here_steps text here ∙ ap (with_root false) p.0, p.1 ∙ sym (here_broken text here))

rooted_steps : (path : List ℕ) → 0 < length path → text_steps (47 ∷ path) ≡ with_root true (path_steps path)
unfolding text_steps
rooted_steps [] h = absurd (omega arith)
rooted_steps (b ∷ path) h = refl

rooted_broken : (path : List ℕ) → broken_at (47 ∷ path) ≡ suc (lived (Wants [] []) path)
unfolding broken_at
rooted_broken path = refl

pub root_reads : (path : List ℕ) (kept : Nodes) (result : Result Path FormulaFault) → 0 < length path → IsPath path kept → IsWhole true kept result → Computes (47 ∷ path) result
root_reads path kept result some p w = computes_whole (47 ∷ path) true p.0 kept result (rooted_steps path some ∙ ap (with_root true) p.1) p.2 w

pub root_breaks : (path : List ℕ) (k : ℕ) → 0 < length path → IsNoPath path k → Computes (47 ∷ path) (Err (Syntax (k + 1)))
root_breaks path k some p =
    let broken = rooted_broken path in
    let taken = p.1 in
    (rooted_steps path some ∙ ap (with_root true) p.0, omega (arith, broken, taken))

pub root_alone : (path : List ℕ) → length path ≡ 0 → text_steps (47 ∷ path) ≡ with_root true (Some [])
unfolding text_steps
root_alone [] h = refl
root_alone (b ∷ path) h = absurd (omega arith)

pub nothing_read : (text : List ℕ) → length text < 1 → Computes text (Err (Syntax 0))
unfolding text_steps broken_at
nothing_read [] h = (refl, refl)
nothing_read (b ∷ text) h = absurd (omega arith)

-- the results

no_formula : (text : List ℕ) → text_steps text ≡ None → (rooted : Bool) (steps : List Formula) → Reads text rooted steps → ⊥
no_formula text h rooted steps r = none (sym h ∙ reads_complete text rooted steps r)
  where
    none : None ≡ with_root rooted (Some steps) → ⊥
    none e = cc

pub answers : (text : List ℕ) (result : Result Path FormulaFault) → length text ≤ 1024 → Computes text result → IfOk result (λ path. IsPlace path.place) → ReadsTo text result
answers text (Ok path) short h p = (short, reads_sound text path.rooted path.place h, p)
answers text (Err TooLarge) short h p = elim h [
  | inl long ↦ inl long
  | inr found ↦
      let path = found.0 in
      inr (record { rooted = path.0; steps = path.1; reads = reads_sound text path.0 path.1 found.1; beyond = test_fails path.1 found.2 })
]
answers text (Err (Syntax k)) short h p = (short, no_formula text h.0, subst (λ n. IsBrokenAt text n) (sym h.1) (breaks text))

pub some_bytes : (text : List ℕ) → (length text == 0) ≡ false → 0 < length text
some_bytes [] h = absurd (false≢true (sym h))
some_bytes (b ∷ text) h = omega arith
