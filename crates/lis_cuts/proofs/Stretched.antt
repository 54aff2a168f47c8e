-- How many lines of a content were passed, and the pieces that they make.
use Rattle.std.proofs.Common.{◌≡◌, ◌⊎◌, ℕ, ◌+◌, ◌-◌, Bool, true, false, not, cond, Some, None, List, [], ◌∷◌, ◌++◌, length, take, refl, sym, ap, subst, ◌∙◌, arith, append_assoc, append-nil, length-append, inl, inr}
use Rattle.std.specs.List.{list_all}
use Rattle.std.proofs.lemmas.Bool.{and_parts, and_from, not-true, not_from_false}
use Rattle.std.proofs.lemmas.List.{take_at}
use Rattle.std.proofs.lemmas.List.Folds.{list_all-append}
use Rattle.lis_grammar.specs.Formula.{Formula}
use Rattle.lis_views.specs.Lines.{Lines, before, lines_of}
use Rattle.lis_views.specs.Truth.{line_holds}
use Rattle.lis_views.specs.Views.{Piece, hidden_before, pieces_by, pieces}
use Rattle.lis_views.specs.Views.Piece.{Shown}
use Rattle.lis_views.proofs.Cutting.{lines, line_cut}
use Rattle.lis_cuts.specs.Cuts.{IsFirst, IsClosed}
use Rattle.lis_cuts.specs.Stretches.{run_piece, shown_piece}
use Rattle.lis_cuts.proofs.Cut.{closed_cut, feed_closed, open_text, first_texts}

-- ---- pieces after hidden texts
module _ (test : List ℕ → Bool) where
  all_hidden : List (List ℕ) → List Piece → List Piece
  all_hidden [] parts = parts
  all_hidden (text ∷ texts) parts = hidden_before text (all_hidden texts parts)

  hidden_first : (texts more : List (List ℕ)) → list_all (λ text. not (test text)) texts ≡ true → pieces_by test (texts ++ more) ≡ all_hidden texts (pieces_by test more)
  unfolding all_hidden
  hidden_first [] more fails = refl
  hidden_first (text ∷ texts) more fails =
      let parts = and_parts (not (test text)) (list_all (λ t. not (test t)) texts) fails in
      ap (λ t. cond t (Shown text ∷ pieces_by test (texts ++ more)) (hidden_before text (pieces_by test (texts ++ more)))) (not-true (test text) parts.0)
      ∙ ap (hidden_before text) (hidden_first texts more parts.1)

  hidden_shown : (texts : List (List ℕ)) (shown : List ℕ) (parts : List Piece) → all_hidden texts (Shown shown ∷ parts) ≡ run_piece texts ++ Shown shown ∷ parts
  unfolding all_hidden
  hidden_shown [] shown parts = refl
  hidden_shown (text ∷ []) shown parts = refl
  hidden_shown (text ∷ next ∷ texts) shown parts = ap (hidden_before text) (hidden_shown (next ∷ texts) shown parts)

  hidden_last : (texts : List (List ℕ)) → all_hidden texts [] ≡ run_piece texts ++ []
  unfolding all_hidden
  hidden_last [] = refl
  hidden_last (text ∷ []) = refl
  hidden_last (text ∷ next ∷ texts) = ap (hidden_before text) (hidden_last (next ∷ texts))

  pub run_then : (texts more : List (List ℕ)) (shown : List ℕ) → list_all (λ text. not (test text)) texts ≡ true → test shown ≡ true
      → pieces_by test (texts ++ shown ∷ more) ≡ run_piece texts ++ (Shown shown ∷ pieces_by test more)
  run_then texts more shown fails holds =
      hidden_first texts (shown ∷ more) fails
      ∙ ap (λ t. all_hidden texts (cond t (Shown shown ∷ pieces_by test more) (hidden_before shown (pieces_by test more)))) holds
      ∙ hidden_shown texts shown (pieces_by test more)

  pub run_last : (texts : List (List ℕ)) → list_all (λ text. not (test text)) texts ≡ true → pieces_by test texts ≡ run_piece texts ++ []
  run_last texts fails = ap (pieces_by test) (sym (append-nil texts)) ∙ hidden_first texts [] fails ∙ hidden_last texts

-- ---- lines that were passed
-- The bytes before the rest are whole lines of which the formula does not hold.
pub record Passed (place : List Formula) (bytes rest : List ℕ) (hidden : ℕ) : Type 0 where
  pub run : List ℕ
  pub whole : run ++ rest ≡ bytes
  pub closed : (rest ≡ []) ⊎ IsClosed run
  pub count : hidden ≡ length (lines_of run).texts
  pub fails : list_all (λ text. not (line_holds place text)) (lines_of run).texts ≡ true

some_first : (bytes text rest : List ℕ) → IsFirst bytes text rest → bytes ≡ [] → ⊥
some_first bytes text rest first none =
    elim first.whole [
      | inl e ↦ omega (arith, ap length (sym none ∙ e), length-append text (10 ∷ rest))
      | inr e ↦ omega (arith, ap length (sym none ∙ e.0), e.2)
    ]

pub closed_here : (place : List Formula) (bytes rest text more : List ℕ) (hidden : ℕ) → (p : Passed place bytes rest hidden) → IsFirst rest text more → IsClosed p.run
closed_here place bytes rest text more hidden p first = elim p.closed [ inl none ↦ absurd (some_first rest text more first none) | inr closed ↦ closed ]

-- one more line after a closed prefix
more_passed : (place : List Formula) (bytes rest text more part : List ℕ) (hidden : ℕ) → (p : Passed place bytes rest hidden) → IsClosed p.run
    → line_holds place text ≡ false → (lines_of part).texts ≡ text ∷ [] → part ++ more ≡ rest → (more ≡ []) ⊎ IsClosed part → Passed place bytes more (hidden + 1)
more_passed place bytes rest text more part hidden p closed fails one whole ends =
    let cut = closed_cut p.run part closed in
    let texts : (lines_of (p.run ++ part)).texts ≡ (lines_of p.run).texts ++ text ∷ [] = ap (λ (c : Lines). c.texts) cut ∙ ap (λ ts. (lines_of p.run).texts ++ ts) one in
    record {
      run = p.run ++ part;
      whole = append_assoc p.run part more ∙ ap (λ xs. p.run ++ xs) whole ∙ p.whole;
      closed = elim ends [ inl none ↦ inl none | inr e ↦ inr (ap (λ (c : Lines). c.is_open) cut ∙ e) ];
      count = omega (arith, p.count, ap length texts, length-append (lines_of p.run).texts (text ∷ []));
      fails = ap (list_all (λ t. not (line_holds place t))) texts
          ∙ list_all-append (λ t. not (line_holds place t)) (lines_of p.run).texts (text ∷ [])
          ∙ and_from _ _ p.fails (and_from (not (line_holds place text)) true (not_from_false _ fails) refl);
    }

pub passed_more : (place : List Formula) (bytes rest text more : List ℕ) (hidden : ℕ) → Passed place bytes rest hidden → IsFirst rest text more
    → line_holds place text ≡ false → Passed place bytes more (hidden + 1)
passed_more place bytes rest text more hidden p first fails =
    let closed = closed_here place bytes rest text more hidden p first in
    elim first.whole [
      | inl e ↦ more_passed place bytes rest text more (text ++ 10 ∷ []) hidden p closed fails
          (ap (λ (c : Lines). c.texts) (line_cut text [] first.no_feed)) (append_assoc text (10 ∷ []) more ∙ sym e) (inr (feed_closed text))
      | inr e ↦ more_passed place bytes rest text more text hidden p closed fails
          (ap (λ (c : Lines). c.texts) (open_text text first.no_feed e.2)) (ap (λ xs. text ++ xs) e.1 ∙ append-nil text ∙ sym e.0) (inl e.1)
    ]

-- ---- the run that was passed, as it is cut off
pub run_is : (place : List Formula) (bytes rest : List ℕ) (hidden : ℕ) → (p : Passed place bytes rest hidden) → take (length bytes - length rest) bytes ≡ p.run
run_is place bytes rest hidden p =
    let long : length p.run + length rest ≡ length bytes = omega (arith, ap length p.whole, length-append p.run rest) in
    ap (take (length bytes - length rest)) (sym p.whole) ∙ take_at p.run rest (length bytes - length rest) (omega arith)

pub shown_behind : (place : List Formula) (bytes rest text more run : List ℕ) (hidden : ℕ) → (p : Passed place bytes rest hidden) → IsFirst rest text more
    → line_holds place text ≡ true → run ≡ p.run
    → pieces bytes place ≡ run_piece (lines_of run).texts ++ (shown_piece (Some text) ++ pieces more place)
shown_behind place bytes rest text more run hidden p first holds is =
    ap (λ xs. pieces_by (line_holds place) (lines_of xs).texts) (sym p.whole)
    ∙ ap (λ (c : Lines). pieces_by (line_holds place) c.texts) (closed_cut p.run rest (closed_here place bytes rest text more hidden p first))
    ∙ ap (λ ts. pieces_by (line_holds place) ((lines_of p.run).texts ++ ts)) (first_texts rest text more first)
    ∙ run_then (line_holds place) (lines_of p.run).texts (lines_of more).texts text p.fails holds
    ∙ ap (λ xs. run_piece (lines_of xs).texts ++ (Shown text ∷ pieces more place)) (sym is)

at_end : (place : List Formula) (bytes rest : List ℕ) (hidden : ℕ) → (p : Passed place bytes rest hidden) → rest ≡ [] → p.run ≡ bytes
at_end place bytes rest hidden p none = sym (append-nil p.run) ∙ ap (λ xs. p.run ++ xs) (sym none) ∙ p.whole

pub all_passed : (place : List Formula) (bytes rest : List ℕ) (hidden : ℕ) → (p : Passed place bytes rest hidden) → rest ≡ []
    → pieces bytes place ≡ run_piece (lines_of bytes).texts ++ (shown_piece None ++ pieces [] place)
all_passed place bytes rest hidden p none =
    run_last (line_holds place) (lines_of bytes).texts
    (subst (λ xs. list_all (λ text. not (line_holds place text)) (lines_of xs).texts ≡ true) (at_end place bytes rest hidden p none) p.fails)
