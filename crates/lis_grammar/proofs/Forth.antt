-- From the grammar to the machine: the machine takes each text of the grammar, and computes its steps.
use Rattle.std.proofs.Common.{◌≡◌, ℕ, Bool, true, false, ◌==◌, Option, Some, None, List, [], ◌∷◌, ◌++◌, refl, ap, sym, ◌∙◌, codes}
use Rattle.std.specs.List.{fold}
use Rattle.std.proofs.lemmas.Bool.{eqb-true, cond-true}
use Rattle.lis_words.specs.Words.{count_of}
use Rattle.lis_grammar.specs.Formula.{Formula}
use Rattle.lis_grammar.specs.Formula.Formula.{Has, SizeAtLeast, SizeBelow, Both}
use Rattle.lis_grammar.specs.Grammar.{conjunction, Path, Alt, Neg, Reads}
use Rattle.lis_grammar.specs.Grammar.Path.{alt, slash}
use Rattle.lis_grammar.specs.Grammar.Alt.{neg, bar}
use Rattle.lis_grammar.specs.Grammar.Neg.{bang, parens, word, at_least, below}
use Rattle.lis_grammar.specs.Grammar.Reads.{root, from_here, from_root}
use Rattle.lis_grammar.specs.Machine.{Pending, Done, Machine, and_then, operand, is_operand_front, complete, completed, settled, close_bar, close_slash, after_bar, after_slash, after_paren, joint, is_joint, step, run, closed, ended, path_steps, with_root, text_steps}
use Rattle.lis_grammar.specs.Machine.Pending.{Bang, Open, BarAfter, SlashAfter}
use Rattle.lis_grammar.specs.Machine.Done.{done}
use Rattle.lis_grammar.specs.Machine.Machine.{Wants, Within, Complete}
use Rattle.lis_grammar.proofs.Operands.{front_runs, operand_word, operand_at_least, operand_below, word_front, at_least_front, below_front}

pub run-append : (s : Machine) (a b : List ℕ) → run s (a ++ b) ≡ and_then (run s a) (λ t. run t b)
run-append s [] b = refl
run-append s (c ∷ a) b = by (step s c) (λ t. run-append t a b)
  where
    by : (o : Option Machine) → ((t : Machine) → run t (a ++ b) ≡ and_then (run t a) (λ u. run u b))
        → and_then o (λ t. run t (a ++ b)) ≡ and_then (and_then o (λ t. run t a)) (λ t. run t b)
    by None more = refl
    by (Some t) more = more t

-- after an operand that has ended, a sign leads where `joint` says

step_joint : (s : Machine) (b : ℕ) (d : Done) → is_joint b ≡ true → settled s ≡ Some d → step s b ≡ joint b d
step_joint (Wants ops steps) b d j h = absurd (cc)
step_joint (Within ops steps text) b d j h = cond-true (is_joint b) _ _ j ∙ ap (λ o. and_then o (joint b)) h
step_joint (Complete e) b d j h = ap (joint b) (same e d h)
  where
    same : (e d : Done) → Some e ≡ Some d → e ≡ d
    same e d h = cc

pub joined : (s : Machine) (text : List ℕ) (b : ℕ) (more : List ℕ) (d : Done) → is_joint b ≡ true → and_then (run s text) settled ≡ Some d
    → run s (text ++ b ∷ more) ≡ and_then (joint b d) (λ t. run t more)
joined s text b more d j h = run-append s text (b ∷ more) ∙ by (run s text) h
  where
    by : (o : Option Machine) → and_then o settled ≡ Some d → and_then o (λ t. run t (b ∷ more)) ≡ and_then (joint b d) (λ t. run t more)
    by None h = absurd (cc)
    by (Some t) h = ap (λ o. and_then o (λ u. run u more)) (step_joint t b d j h)

-- a word or a test is read whole

pub operand_runs : (ops : List Pending) (steps : List Formula) (text : List ℕ) (f : Formula) → operand text ≡ Some f → is_operand_front text ≡ true
    → and_then (run (Wants ops steps) text) settled ≡ Some (complete ops steps f)
operand_runs ops steps [] f e h = absurd (cc)
operand_runs ops steps (b ∷ text) f e h = ap (λ o. and_then o settled) (front_runs ops steps b text h) ∙ ap (completed ops steps) e

-- a path has a step

fold_more : (f : Formula) (fs : List Formula) (g : Formula) → fold Both f (fs ++ g ∷ []) ≡ Both (fold Both f fs) g
fold_more f [] g = refl
fold_more f (h ∷ fs) g = fold_more (Both f h) fs g

pub conjunction-append : (text : List ℕ) (fs : List Formula) (g : Formula) → Path text fs → conjunction (fs ++ g ∷ []) ≡ Both (conjunction fs) g
conjunction-append _ _ g (alt text f a) = refl
conjunction-append _ _ g (slash text more fs f p a) = some fs f g
  where
    some : (fs : List Formula) (f g : Formula) → conjunction ((fs ++ f ∷ []) ++ g ∷ []) ≡ Both (conjunction (fs ++ f ∷ [])) g
    some [] f g = refl
    some (h ∷ fs) f g = fold_more h (fs ++ f ∷ []) g

-- the texts of the grammar, for whatever is pending before them

pub record Ends (s : Machine) (text : List ℕ) (close : Done → Done) (end : Done) : Type 0 where
  pub d : Done
  pub runs : and_then (run s text) settled ≡ Some d
  pub closes : close d ≡ end

after_joint : (s : Machine) (text : List ℕ) (b : ℕ) (more : List ℕ) (t : Machine) (d : Done) → is_joint b ≡ true → and_then (run s text) settled ≡ Some d → joint b d ≡ Some t
    → run s (text ++ b ∷ more) ≡ run t more
after_joint s text b more t d j h e = joined s text b more d j h ∙ ap (λ o. and_then o (λ u. run u more)) e

mutual
  pub neg_runs : (text : List ℕ) (f : Formula) → Neg text f → (ops : List Pending) (steps : List Formula)
      → and_then (run (Wants ops steps) text) settled ≡ Some (complete ops steps f)
  neg_runs _ _ (bang text f n) ops steps = neg_runs text f n (Bang ∷ ops) steps
  neg_runs _ _ (parens text fs p) ops steps =
      let e = path_runs text fs p ops steps in
      ap (λ o. and_then o settled) (after_joint (Wants (Open ∷ ops) steps) text 41 [] (Complete (complete ops steps (conjunction fs))) e.d refl e.runs (ap after_paren e.closes))
  neg_runs _ _ (word text w) ops steps = operand_runs ops steps text (Has text) (operand_word text w) (word_front text w)
  neg_runs _ _ (at_least digits c) ops steps =
      operand_runs ops steps (codes "size>=" ++ digits) (SizeAtLeast (count_of digits)) (operand_at_least digits c) (at_least_front digits c)
  neg_runs _ _ (below digits c) ops steps =
      operand_runs ops steps (codes "size<" ++ digits) (SizeBelow (count_of digits)) (operand_below digits c) (below_front digits c)

  pub alt_runs : (text : List ℕ) (f : Formula) → Alt text f → (ops : List Pending) (steps : List Formula)
      → ((g : Formula) → close_bar (complete ops steps g) ≡ done ops steps g) → Ends (Wants ops steps) text close_bar (done ops steps f)
  alt_runs _ _ (neg text f n) ops steps opened = record { d = complete ops steps f; runs = neg_runs text f n ops steps; closes = opened f }
  alt_runs _ _ (bar text more f g a n) ops steps opened =
      let e = alt_runs text f a ops steps opened in
      record {
        d = done (BarAfter f ∷ ops) steps g;
        runs = ap (λ o. and_then o settled) (after_joint (Wants ops steps) text 124 more (Wants (BarAfter f ∷ ops) steps) e.d refl e.runs (ap (λ d. Some (after_bar d)) e.closes))
            ∙ neg_runs more g n (BarAfter f ∷ ops) steps;
        closes = refl;
      }

  pub path_runs : (text : List ℕ) (fs : List Formula) → Path text fs → (ops : List Pending) (steps : List Formula)
      → Ends (Wants (Open ∷ ops) steps) text (λ d. close_slash (close_bar d)) (done (Open ∷ ops) steps (conjunction fs))
  path_runs _ _ (alt text f a) ops steps =
      let e = alt_runs text f a (Open ∷ ops) steps (λ g. refl) in
      record { d = e.d; runs = e.runs; closes = ap close_slash e.closes }
  path_runs _ _ (slash text more fs f p a) ops steps =
      let e = path_runs text fs p ops steps in
      let g = alt_runs more f a (SlashAfter (conjunction fs) ∷ Open ∷ ops) steps (λ g. refl) in
      record {
        d = g.d;
        runs = ap (λ o. and_then o settled) (after_joint (Wants (Open ∷ ops) steps) text 47 more (Wants (SlashAfter (conjunction fs) ∷ Open ∷ ops) steps) e.d refl e.runs (ap (λ d. Some (after_slash d)) e.closes))
            ∙ g.runs;
        closes = ap close_slash g.closes ∙ ap (λ h. done (Open ∷ ops) steps h) (sym (conjunction-append text fs f p));
      }

-- the outermost path

record EndsSteps (text : List ℕ) (fs : List Formula) : Type 0 where
  before : List Formula
  last : Formula
  all : before ++ last ∷ [] ≡ fs
  ends : Ends (Wants [] []) text (λ d. close_slash (close_bar d)) (done [] before last)

steps_run : (text : List ℕ) (fs : List Formula) → Path text fs → EndsSteps text fs
steps_run _ _ (alt text f a) =
    let e = alt_runs text f a [] [] (λ g. refl) in
    record { before = []; last = f; all = refl; ends = record { d = e.d; runs = e.runs; closes = ap close_slash e.closes } }
steps_run _ _ (slash text more fs f p a) =
    let e = steps_run text fs p in
    let g = alt_runs more f a [] fs (λ g. refl) in
    let first = e.ends in
    record {
      before = fs;
      last = f;
      all = refl;
      ends = record {
        d = g.d;
        runs = ap (λ o. and_then o settled) (after_joint (Wants [] []) text 47 more (Wants [] fs) first.d refl first.runs (ap (λ d. Some (after_slash d)) first.closes ∙ ap (λ xs. Some (Wants [] xs)) e.all))
            ∙ g.runs;
        closes = ap close_slash g.closes;
      };
    }

closed_at : (o : Option Machine) (d : Done) → and_then o settled ≡ Some d → and_then o closed ≡ Some (close_slash (close_bar d))
closed_at None d h = absurd (cc)
closed_at (Some s) d h = ap (λ o. and_then o (λ e. Some (close_slash (close_bar e)))) h

pub path_complete : (text : List ℕ) (fs : List Formula) → Path text fs → path_steps text ≡ Some fs
path_complete text fs p =
    let e = steps_run text fs p in
    let end = e.ends in
    ap (λ o. and_then o ended) (closed_at (run (Wants [] []) text) end.d end.runs) ∙ (ap ended end.closes ∙ ap (λ xs. Some xs) e.all)

-- whole texts

no_slash : (b : ℕ) (text : List ℕ) (fs : List Formula) → path_steps (b ∷ text) ≡ Some fs → (b == 47) ≡ false
no_slash b text fs h = by (b == 47) refl
  where
    at_slash : path_steps (47 ∷ text) ≡ Some fs → ⊥
    at_slash h = cc

    by : (t : Bool) → (b == 47) ≡ t → t ≡ false
    by true e = absurd (at_slash (ap (λ c. path_steps (c ∷ text)) (sym (eqb-true b 47 e)) ∙ h))
    by false e = refl

here_complete : (text : List ℕ) (fs : List Formula) → path_steps text ≡ Some fs → text_steps text ≡ with_root false (Some fs)
unfolding text_steps
here_complete [] fs h = absurd (cc)
here_complete (b ∷ text) fs h = rw (no_slash b text fs h) (ap (with_root false) h)

root_complete : (text : List ℕ) (fs : List Formula) → path_steps text ≡ Some fs → text_steps (47 ∷ text) ≡ with_root true (Some fs)
unfolding text_steps
root_complete [] fs h = absurd (cc)
root_complete (b ∷ text) fs h = ap (with_root true) h

pub reads_complete : (text : List ℕ) (rooted : Bool) (fs : List Formula) → Reads text rooted fs → text_steps text ≡ with_root rooted (Some fs)
unfolding text_steps
reads_complete _ _ _ root = refl
reads_complete _ _ _ (from_here text fs p) = here_complete text fs (path_complete text fs p)
reads_complete _ _ _ (from_root text fs p) = root_complete text fs (path_complete text fs p)

some_pair : (a b : Bool × List Formula) → Some a ≡ Some b → (a.0 ≡ b.0) × (a.1 ≡ b.1)
some_pair a b h = let e : a ≡ b = cc in (ap (λ p. p.0) e, ap (λ p. p.1) e)

-- a text has at most one reading
pub one_reading : (text : List ℕ) (rooted also : Bool) (fs gs : List Formula) → Reads text rooted fs → Reads text also gs → (rooted ≡ also) × (fs ≡ gs)
one_reading text rooted also fs gs r s =
    some_pair (rooted, fs) (also, gs) (sym (reads_complete text rooted fs r) ∙ reads_complete text also gs s)
