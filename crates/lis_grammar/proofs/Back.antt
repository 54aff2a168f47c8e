-- From the machine to the grammar: the form of the text that the machine has read, by what is pending and by the machine's state.
use Rattle.std.proofs.Common.{◌≡◌, ℕ, Bool, true, false, cond, ◌==◌, ◌⊎◌, inl, inr, Option, Some, None, List, [], ◌∷◌, ◌++◌, refl, ap, sym, ◌∙◌, append_assoc, append-nil}
use Rattle.std.proofs.lemmas.Bool.{eqb-true, false≢true}
use Rattle.lis_grammar.specs.Formula.{Formula}
use Rattle.lis_grammar.specs.Formula.Formula.{Negation, Both}
use Rattle.lis_grammar.specs.Grammar.{conjunction, Path, Alt, Neg, Reads}
use Rattle.lis_grammar.specs.Grammar.Path.{alt, slash}
use Rattle.lis_grammar.specs.Grammar.Alt.{neg, bar}
use Rattle.lis_grammar.specs.Grammar.Neg.{bang, parens}
use Rattle.lis_grammar.specs.Grammar.Reads.{root, from_here, from_root}
use Rattle.lis_grammar.specs.Machine.{Pending, Done, Machine, and_then, operand, is_operand_front, complete, completed, settled, close_bar, close_slash, after_bar, after_slash, after_paren, joint, is_joint, within, step, run, closed, ended, path_steps, with_root, root_steps, text_steps}
use Rattle.lis_grammar.specs.Machine.Pending.{Bang, Open, BarAfter, SlashAfter}
use Rattle.lis_grammar.specs.Machine.Done.{done}
use Rattle.lis_grammar.specs.Machine.Machine.{Wants, Within, Complete}
use Rattle.lis_grammar.proofs.Operands.{operand_neg}
use Rattle.lis_grammar.proofs.Forth.{conjunction-append}

-- what may follow a list of pendings as their operand

abbrev pub takes_neg : List Pending → Bool
takes_neg [] = true
takes_neg (Bang ∷ ops) = false
takes_neg (Open ∷ ops) = true
takes_neg (BarAfter f ∷ ops) = true
takes_neg (SlashAfter f ∷ ops) = true

abbrev pub takes_alt : List Pending → Bool
takes_alt [] = true
takes_alt (Bang ∷ ops) = false
takes_alt (Open ∷ ops) = true
takes_alt (BarAfter f ∷ ops) = false
takes_alt (SlashAfter f ∷ ops) = true

abbrev pub takes_path : List Pending → Bool
takes_path [] = false
takes_path (Bang ∷ ops) = false
takes_path (Open ∷ ops) = true
takes_path (BarAfter f ∷ ops) = false
takes_path (SlashAfter f ∷ ops) = false

-- the text so far, if an operand must begin
abbrev pub Wanted : List Pending → List Formula → List ℕ → Type 0
Wanted [] steps text = ((steps ≡ []) × (text ≡ [])) ⊎ ((path : List ℕ) × (text ≡ path ++ 47 ∷ []) × Path path steps)
Wanted (Bang ∷ ops) steps text = (front : List ℕ) × (text ≡ front ++ 33 ∷ []) × Wanted ops steps front
Wanted (Open ∷ ops) steps text = (front : List ℕ) × (text ≡ front ++ 40 ∷ []) × Wanted ops steps front
Wanted (BarAfter f ∷ ops) steps text =
    (front : List ℕ) × (left : List ℕ) × (text ≡ front ++ (left ++ 124 ∷ [])) × Alt left f × (takes_alt ops ≡ true) × Wanted ops steps front
Wanted (SlashAfter f ∷ ops) steps text =
    (front : List ℕ) × (left : List ℕ) × (fs : List Formula) × (text ≡ front ++ (left ++ 47 ∷ [])) × Path left fs × (f ≡ conjunction fs) × (takes_path ops ≡ true) × Wanted ops steps front

-- the text so far, if an operand has ended
pub record Negs (ops : List Pending) (steps : List Formula) (f : Formula) (text : List ℕ) : Type 0 where
  pub before : List ℕ
  pub last : List ℕ
  pub whole : text ≡ before ++ last
  pub reads : Neg last f
  pub takes : takes_neg ops ≡ true
  pub wanted : Wanted ops steps before

-- the same once the bar before it is closed
pub record Alts (ops : List Pending) (steps : List Formula) (f : Formula) (text : List ℕ) : Type 0 where
  pub before : List ℕ
  pub last : List ℕ
  pub whole : text ≡ before ++ last
  pub reads : Alt last f
  pub takes : takes_alt ops ≡ true
  pub wanted : Wanted ops steps before

pub record Paths (ops : List Pending) (steps : List Formula) (f : Formula) (text : List ℕ) : Type 0 where
  pub before : List ℕ
  pub last : List ℕ
  pub fs : List Formula
  pub whole : text ≡ before ++ last
  pub reads : Path last fs
  pub tree : f ≡ conjunction fs
  pub wanted : Wanted ops steps before

abbrev pub Completed : Done → List ℕ → Type 0
Completed (done ops steps f) text = Negs ops steps f text

abbrev AltCompleted : Done → List ℕ → Type 0
AltCompleted (done ops steps f) text = Alts ops steps f text

-- the same once the slash is closed too: the outermost path, or a path in parentheses
abbrev PathCompleted : Done → List ℕ → Type 0
PathCompleted (done [] steps f) text = Path text (steps ++ f ∷ [])
PathCompleted (done (Bang ∷ ops) steps f) text = ⊥
PathCompleted (done (Open ∷ ops) steps f) text = Paths (Open ∷ ops) steps f text
PathCompleted (done (BarAfter g ∷ ops) steps f) text = ⊥
PathCompleted (done (SlashAfter g ∷ ops) steps f) text = ⊥

abbrev pub Stands : Machine → List ℕ → Type 0
Stands (Wants ops steps) text = Wanted ops steps text
Stands (Within ops steps inside) text =
    (front : List ℕ) × (text ≡ front ++ inside) × Wanted ops steps front × (is_operand_front inside ≡ true)
Stands (Complete d) text = Completed d text

-- exclamation marks apply
completes : (ops : List Pending) (steps : List Formula) (f : Formula) (before last text : List ℕ)
    → text ≡ before ++ last → Neg last f → Wanted ops steps before → Completed (complete ops steps f) text
completes [] steps f before last text e n w = record { before = before; last = last; whole = e; reads = n; takes = refl; wanted = w }
completes (Bang ∷ ops) steps f before last text e n w =
    completes ops steps (Negation f) w.0 (33 ∷ last) text (e ∙ (ap (λ xs. xs ++ last) w.1 ∙ append_assoc w.0 (33 ∷ []) last)) (bang last f n) w.2
completes (Open ∷ ops) steps f before last text e n w = record { before = before; last = last; whole = e; reads = n; takes = refl; wanted = w }
completes (BarAfter g ∷ ops) steps f before last text e n w = record { before = before; last = last; whole = e; reads = n; takes = refl; wanted = w }
completes (SlashAfter g ∷ ops) steps f before last text e n w = record { before = before; last = last; whole = e; reads = n; takes = refl; wanted = w }

alone : (ops : List Pending) (steps : List Formula) (f : Formula) (text : List ℕ) → takes_alt ops ≡ true → Negs ops steps f text → Alts ops steps f text
alone ops steps f text t n = record { before = n.before; last = n.last; whole = n.whole; reads = neg n.last f n.reads; takes = t; wanted = n.wanted }

pub regroup : (front left last : List ℕ) (b : ℕ) → (front ++ (left ++ b ∷ [])) ++ last ≡ front ++ (left ++ b ∷ last)
regroup front left last b = simp append_assoc

close_bar_back : (d : Done) (text : List ℕ) → Completed d text → AltCompleted (close_bar d) text
close_bar_back (done [] steps f) text n = alone [] steps f text refl n
close_bar_back (done (Bang ∷ ops) steps f) text n = absurd (false≢true n.takes)
close_bar_back (done (Open ∷ ops) steps f) text n = alone (Open ∷ ops) steps f text refl n
close_bar_back (done (BarAfter g ∷ ops) steps f) text n =
    let w = n.wanted in
    record {
      before = w.0;
      last = w.1 ++ 124 ∷ n.last;
      whole = n.whole ∙ (ap (λ xs. xs ++ n.last) w.2 ∙ regroup w.0 w.1 n.last 124);
      reads = bar w.1 n.last g f w.3 n.reads;
      takes = w.4;
      wanted = w.5;
    }
close_bar_back (done (SlashAfter g ∷ ops) steps f) text n = alone (SlashAfter g ∷ ops) steps f text refl n

outermost : (steps : List Formula) (f : Formula) (text before last : List ℕ) → text ≡ before ++ last → Alt last f → Wanted [] steps before → Path text (steps ++ f ∷ [])
outermost steps f text before last e a w = elim w [
  | inl none ↦
      rw (e, none.0, none.1) (alt last f a)
  | inr some ↦
      rw (e ∙ (ap (λ xs. xs ++ last) some.1 ∙ append_assoc some.0 (47 ∷ []) last)) (slash some.0 last steps f some.2 a)
]

in_slash : (g f : Formula) (ops : List Pending) (steps : List Formula) (text : List ℕ) → takes_path ops ≡ true → Paths ops steps (Both g f) text
    → PathCompleted (done ops steps (Both g f)) text
in_slash g f [] steps text t p = absurd (false≢true t)
in_slash g f (Bang ∷ ops) steps text t p = absurd (false≢true t)
in_slash g f (Open ∷ ops) steps text t p = p
in_slash g f (BarAfter h ∷ ops) steps text t p = absurd (false≢true t)
in_slash g f (SlashAfter h ∷ ops) steps text t p = absurd (false≢true t)

close_slash_back : (d : Done) (text : List ℕ) → AltCompleted d text → PathCompleted (close_slash d) text
close_slash_back (done [] steps f) text a = outermost steps f text a.before a.last a.whole a.reads a.wanted
close_slash_back (done (Bang ∷ ops) steps f) text a = absurd (false≢true a.takes)
close_slash_back (done (Open ∷ ops) steps f) text a =
    record { before = a.before; last = a.last; fs = f ∷ []; whole = a.whole; reads = alt a.last f a.reads; tree = refl; wanted = a.wanted }
close_slash_back (done (BarAfter g ∷ ops) steps f) text a = absurd (false≢true a.takes)
close_slash_back (done (SlashAfter g ∷ ops) steps f) text a =
    let w = a.wanted in
    in_slash g f ops steps text w.6 (record {
      before = w.0;
      last = w.1 ++ 47 ∷ a.last;
      fs = w.2 ++ f ∷ [];
      whole = a.whole ∙ (ap (λ xs. xs ++ a.last) w.3 ∙ regroup w.0 w.1 a.last 47);
      reads = slash w.1 a.last w.2 f w.4 a.reads;
      tree = ap (λ h. Both h f) w.5 ∙ sym (conjunction-append w.1 w.2 f w.4);
      wanted = w.7;
    })

after_bar_back : (d : Done) (text : List ℕ) → AltCompleted d text → Stands (after_bar d) (text ++ 124 ∷ [])
after_bar_back (done ops steps f) text a =
    (a.before, a.last, ap (λ xs. xs ++ 124 ∷ []) a.whole ∙ append_assoc a.before a.last (124 ∷ []), a.reads, a.takes, a.wanted)

after_slash_back : (d : Done) (text : List ℕ) → PathCompleted d text → Stands (after_slash d) (text ++ 47 ∷ [])
after_slash_back (done [] steps f) text p = inr (text, refl, p)
after_slash_back (done (Bang ∷ ops) steps f) text p = absurd p
after_slash_back (done (Open ∷ ops) steps f) text p =
    (p.before, p.last, p.fs, ap (λ xs. xs ++ 47 ∷ []) p.whole ∙ append_assoc p.before p.last (47 ∷ []), p.reads, p.tree, refl, p.wanted)
after_slash_back (done (BarAfter g ∷ ops) steps f) text p = absurd p
after_slash_back (done (SlashAfter g ∷ ops) steps f) text p = absurd p

some_same : {A : Type 0} (a b : A) → Some a ≡ Some b → a ≡ b
some_same a b h = cc

in_parens : (front last : List ℕ) → ((front ++ 40 ∷ []) ++ last) ++ 41 ∷ [] ≡ front ++ (40 ∷ (last ++ 41 ∷ []))
in_parens front last = simp append_assoc

after_paren_back : (d : Done) (text : List ℕ) (s : Machine) → PathCompleted d text → after_paren d ≡ Some s → Stands s (text ++ 41 ∷ [])
after_paren_back (done [] steps f) text s p e = absurd (cc)
after_paren_back (done (Bang ∷ ops) steps f) text s p e = absurd p
after_paren_back (done (Open ∷ ops) steps f) text s p e =
    let w = p.wanted in
    let whole : text ++ 41 ∷ [] ≡ w.0 ++ (40 ∷ (p.last ++ 41 ∷ [])) = ap (λ xs. xs ++ 41 ∷ []) (p.whole ∙ ap (λ xs. xs ++ p.last) w.1) ∙ in_parens w.0 p.last in
    rw (sym (some_same _ s e), p.tree) (completes ops steps (conjunction p.fs) w.0 (40 ∷ (p.last ++ 41 ∷ [])) (text ++ 41 ∷ []) whole (parens p.last p.fs p.reads) w.2)
after_paren_back (done (BarAfter g ∷ ops) steps f) text s p e = absurd p
after_paren_back (done (SlashAfter g ∷ ops) steps f) text s p e = absurd p

joint_back : (b : ℕ) (d : Done) (text : List ℕ) (s : Machine) → Completed d text → joint b d ≡ Some s → Stands s (text ++ b ∷ [])
joint_back b d text s c e = at_bar (b == 124) refl e
  where
    alts : AltCompleted (close_bar d) text
    alts = close_bar_back d text c

    paths : PathCompleted (close_slash (close_bar d)) text
    paths = close_slash_back (close_bar d) text alts

    at_paren : (t : Bool) → (b == 41) ≡ t → cond t (after_paren (close_slash (close_bar d))) None ≡ Some s → Stands s (text ++ b ∷ [])
    at_paren true h e = rw (eqb-true b 41 h) (after_paren_back (close_slash (close_bar d)) text s paths e)
    at_paren false h e = absurd (cc)

    at_slash : (t : Bool) → (b == 47) ≡ t → cond t (Some (after_slash (close_slash (close_bar d)))) (cond (b == 41) (after_paren (close_slash (close_bar d))) None) ≡ Some s
        → Stands s (text ++ b ∷ [])
    at_slash true h e = rw (eqb-true b 47 h, sym (some_same _ s e)) (after_slash_back (close_slash (close_bar d)) text paths)
    at_slash false h e = at_paren (b == 41) refl e

    at_bar : (t : Bool) → (b == 124) ≡ t
        → cond t (Some (after_bar (close_bar d))) (cond (b == 47) (Some (after_slash (close_slash (close_bar d)))) (cond (b == 41) (after_paren (close_slash (close_bar d))) None)) ≡ Some s
        → Stands s (text ++ b ∷ [])
    at_bar true h e = rw (eqb-true b 124 h, sym (some_same _ s e)) (after_bar_back (close_bar d) text alts)
    at_bar false h e = at_slash (b == 47) refl e

within_back : (ops : List Pending) (steps : List Formula) (front inside text : List ℕ) (s : Machine)
    → text ≡ front ++ inside → Wanted ops steps front → within ops steps inside ≡ Some s → Stands s text
within_back ops steps front inside text s e w h = by (is_operand_front inside) refl h
  where
    by : (t : Bool) → is_operand_front inside ≡ t → cond t (Some (Within ops steps inside)) None ≡ Some s → Stands s text
    by true f h = rw (sym (some_same _ s h)) (front, e, w, f)
    by false f h = absurd (cc)

operand_back : (ops : List Pending) (steps : List Formula) (front inside text : List ℕ) (d : Done)
    → text ≡ front ++ inside → Wanted ops steps front → completed ops steps (operand inside) ≡ Some d → Completed d text
operand_back ops steps front inside text d e w h = by (operand inside) refl h
  where
    by : (o : Option Formula) → operand inside ≡ o → completed ops steps o ≡ Some d → Completed d text
    by None f h = absurd (cc)
    by (Some g) f h = rw (sym (some_same _ d h)) (completes ops steps g front inside text e (operand_neg inside g f) w)

pub settled_back : (s : Machine) (text : List ℕ) (d : Done) → Stands s text → settled s ≡ Some d → Completed d text
settled_back (Wants ops steps) text d st h = absurd (cc)
settled_back (Within ops steps inside) text d st h = operand_back ops steps st.0 inside text d st.1 st.2 h
settled_back (Complete c) text d st h = rw (sym (some_same c d h)) st

step_back : (s : Machine) (text : List ℕ) (b : ℕ) (t : Machine) → Stands s text → step s b ≡ Some t → Stands t (text ++ b ∷ [])
step_back (Wants ops steps) text b t st h = at_bang (b == 33) refl h
  where
    at_open : (q : Bool) → (b == 40) ≡ q → cond q (Some (Wants (Open ∷ ops) steps)) (within ops steps (b ∷ [])) ≡ Some t → Stands t (text ++ b ∷ [])
    at_open true e h = rw (eqb-true b 40 e, sym (some_same _ t h)) (text, refl, st)
    at_open false e h = within_back ops steps text (b ∷ []) (text ++ b ∷ []) t refl st h

    at_bang : (q : Bool) → (b == 33) ≡ q → cond q (Some (Wants (Bang ∷ ops) steps)) (cond (b == 40) (Some (Wants (Open ∷ ops) steps)) (within ops steps (b ∷ []))) ≡ Some t
        → Stands t (text ++ b ∷ [])
    at_bang true e h = rw (eqb-true b 33 e, sym (some_same _ t h)) (text, refl, st)
    at_bang false e h = at_open (b == 40) refl h
step_back (Within ops steps inside) text b t st h = by (is_joint b) h
  where
    behind : (o : Option Done) → completed ops steps (operand inside) ≡ o → and_then o (joint b) ≡ Some t → Stands t (text ++ b ∷ [])
    behind None e h = absurd (cc)
    behind (Some d) e h = joint_back b d text t (operand_back ops steps st.0 inside text d st.1 st.2 e) h

    by : (q : Bool) → cond q (and_then (completed ops steps (operand inside)) (joint b)) (within ops steps (inside ++ b ∷ [])) ≡ Some t → Stands t (text ++ b ∷ [])
    by true h = behind (completed ops steps (operand inside)) refl h
    by false h =
        within_back ops steps st.0 (inside ++ b ∷ []) (text ++ b ∷ []) t (ap (λ xs. xs ++ b ∷ []) st.1 ∙ append_assoc st.0 inside (b ∷ [])) st.2 h
step_back (Complete d) text b t st h = joint_back b d text t st h

pub run_back : (s : Machine) (text more : List ℕ) (t : Machine) → Stands s text → run s more ≡ Some t → Stands t (text ++ more)
run_back s text [] t st h = rw (append-nil text, sym (some_same s t h)) st
run_back s text (b ∷ more) t st h = by (step s b) refl h (λ u text st h. run_back u text more t st h)
  where
    by : (o : Option Machine) → step s b ≡ o → and_then o (λ u. run u more) ≡ Some t
        → ((u : Machine) (text : List ℕ) → Stands u text → run u more ≡ Some t → Stands t (text ++ more))
        → Stands t (text ++ b ∷ more)
    by None e h again = absurd (cc)
    by (Some u) e h again = rw (sym (append_assoc text (b ∷ []) more)) (again u (text ++ b ∷ []) (step_back s text b u st e) h)

-- the whole text

pub start_stands : Stands (Wants [] []) []
start_stands = inl (refl, refl)

ended_back : (d : Done) (text : List ℕ) (fs : List Formula) → PathCompleted d text → ended d ≡ Some fs → Path text fs
ended_back (done [] steps f) text fs p h = rw (sym (some_same _ fs h)) p
ended_back (done (op ∷ ops) steps f) text fs p h = absurd (cc)

closed_back : (s : Machine) (text : List ℕ) (d : Done) → Stands s text → closed s ≡ Some d → PathCompleted d text
closed_back s text d st h = by (settled s) refl h
  where
    by : (o : Option Done) → settled s ≡ o → and_then o (λ e. Some (close_slash (close_bar e))) ≡ Some d → PathCompleted d text
    by None e h = absurd (cc)
    by (Some c) e h = rw (sym (some_same _ d h)) (close_slash_back (close_bar c) text (close_bar_back c text (settled_back s text c st e)))

pub path_sound : (text : List ℕ) (fs : List Formula) → path_steps text ≡ Some fs → Path text fs
path_sound text fs h = at_run (run (Wants [] []) text) refl h
  where
    at_closed : (s : Machine) → Stands s text → (o : Option Done) → closed s ≡ o → and_then o ended ≡ Some fs → Path text fs
    at_closed s st None e h = absurd (cc)
    at_closed s st (Some d) e h = ended_back d text fs (closed_back s text d st e) h

    at_run : (o : Option Machine) → run (Wants [] []) text ≡ o → and_then (and_then o closed) ended ≡ Some fs → Path text fs
    at_run None e h = absurd (cc)
    at_run (Some s) e h = at_closed s (run_back (Wants [] []) [] text s start_stands e) (closed s) refl h

pair_of_some : (rooted also : Bool) (o : Option (List Formula)) (fs : List Formula) → with_root also o ≡ with_root rooted (Some fs) → (also ≡ rooted) × (o ≡ Some fs)
pair_of_some rooted also None fs h = absurd (cc)
pair_of_some rooted also (Some gs) fs h =
    let e = some_same (also, gs) (rooted, fs) h in
    (ap (λ (p : Bool × List Formula). p.0) e, ap (λ (p : Bool × List Formula). Some p.1) e)

root_sound : (text : List ℕ) (fs : List Formula) → root_steps text ≡ Some fs → Reads (47 ∷ text) true fs
root_sound [] fs h = rw (sym (some_same [] fs h)) root
root_sound (b ∷ text) fs h = from_root (b ∷ text) fs (path_sound (b ∷ text) fs h)

pub reads_sound : (text : List ℕ) (rooted : Bool) (fs : List Formula) → text_steps text ≡ with_root rooted (Some fs) → Reads text rooted fs
unfolding text_steps
reads_sound [] rooted fs h = absurd (cc)
reads_sound (b ∷ text) rooted fs h = by (b == 47) refl h
  where
    by : (t : Bool) → (b == 47) ≡ t → cond t (with_root true (root_steps text)) (with_root false (path_steps (b ∷ text))) ≡ with_root rooted (Some fs) → Reads (b ∷ text) rooted fs
    by true e h = let parts = pair_of_some rooted true (root_steps text) fs h in rw (eqb-true b 47 e, sym parts.0) (root_sound text fs parts.1)
    by false e h =
        let parts = pair_of_some rooted false (path_steps (b ∷ text)) fs h in rw (sym parts.0) (from_here (b ∷ text) fs (path_sound (b ∷ text) fs parts.1))
