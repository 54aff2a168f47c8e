-- A formula parts each content in exactly one way.
use Rattle.std.proofs.Common.{◌≡◌, ℕ, Bool, true, false, cond, List, [], ◌∷◌, ◌++◌, flat_map, refl, sym, ap, ◌∙◌, arith}
use Rattle.std.specs.List.{AllByRecursion}
use Rattle.std.proofs.lemmas.Bool.{false_from_ne_true}
use Rattle.lis_grammar.specs.Formula.{Formula}
use Rattle.lis_views.specs.Truth.{line_holds, LineHolds}
use Rattle.lis_views.specs.Views.{Piece, texts_in, IsOfKind, are_apart, IsParted, hidden_before, pieces_by}
use Rattle.lis_views.specs.Views.Piece.{Shown, Hidden}
use Rattle.lis_views.proofs.Pieces.{pieces_texts}

apart_before : (text : List ℕ) (parts : List Piece) → are_apart parts ≡ true → are_apart (hidden_before text parts) ≡ true
apart_before text [] h = refl
apart_before text (Shown next ∷ parts) h = h
apart_before text (Hidden run ∷ []) h = refl
apart_before text (Hidden run ∷ Shown next ∷ parts) h = h
apart_before text (Hidden run ∷ Hidden next ∷ parts) h = h

apart_by : (test : List ℕ → Bool) (texts : List (List ℕ)) → are_apart (pieces_by test texts) ≡ true
apart_by test [] = refl
apart_by test (text ∷ texts) = by (test text) (apart_by test texts)
  where
    by : (t : Bool) → are_apart (pieces_by test texts) ≡ true → are_apart (cond t (Shown text ∷ pieces_by test texts) (hidden_before text (pieces_by test texts))) ≡ true
    by true rest = rest
    by false rest = apart_before text (pieces_by test texts) rest

-- the first piece is no run
abbrev begins_shown : List Piece → Bool
begins_shown [] = true
begins_shown (Shown text ∷ parts) = true
begins_shown (Hidden run ∷ parts) = false

apart_behind : (run : List (List ℕ)) (parts : List Piece) → are_apart (Hidden run ∷ parts) ≡ true → (begins_shown parts ≡ true) × (are_apart parts ≡ true)
apart_behind run [] h = (refl, refl)
apart_behind run (Shown text ∷ parts) h = (refl, h)
apart_behind run (Hidden next ∷ parts) h = absurd cc

run_before : (text : List ℕ) (parts : List Piece) → begins_shown parts ≡ true → hidden_before text parts ≡ Hidden (text ∷ []) ∷ parts
run_before text [] h = refl
run_before text (Shown next ∷ parts) h = refl
run_before text (Hidden run ∷ parts) h = absurd cc

module _ (place : List Formula) where
  kinds_before : (text : List ℕ) → (LineHolds place text → ⊥) → (parts : List Piece) → AllByRecursion (IsOfKind place) parts → AllByRecursion (IsOfKind place) (hidden_before text parts)
  kinds_before text fails [] kinds = ((omega arith, (fails, tt)), tt)
  kinds_before text fails (Shown next ∷ parts) kinds = ((omega arith, (fails, tt)), kinds)
  kinds_before text fails (Hidden run ∷ parts) kinds = ((omega arith, (fails, kinds.0.1)), kinds.1)

  kinds_by : (texts : List (List ℕ)) → AllByRecursion (IsOfKind place) (pieces_by (line_holds place) texts)
  kinds_by [] = tt
  kinds_by (text ∷ texts) = by (line_holds place text) refl (kinds_by texts)
    where
      by : (t : Bool) → line_holds place text ≡ t → AllByRecursion (IsOfKind place) (pieces_by (line_holds place) texts)
          → AllByRecursion (IsOfKind place) (cond t (Shown text ∷ pieces_by (line_holds place) texts) (hidden_before text (pieces_by (line_holds place) texts)))
      by true e rest = (e, rest)
      by false e rest = kinds_before text (λ holds. absurd cc) (pieces_by (line_holds place) texts) rest

  pub parted : (texts : List (List ℕ)) → IsParted place texts (pieces_by (line_holds place) texts)
  parted texts = record {
    whole = pieces_texts (line_holds place) texts;
    kinds = kinds_by texts;
    apart = apart_by (line_holds place) texts;
  }

  -- ---- and no other pieces are
  run_cut : (text : List ℕ) (run rest : List (List ℕ)) (parts : List Piece) → (LineHolds place text → ⊥) → AllByRecursion (λ t. LineHolds place t → ⊥) run
      → pieces_by (line_holds place) rest ≡ parts → begins_shown parts ≡ true → pieces_by (line_holds place) (text ∷ run ++ rest) ≡ Hidden (text ∷ run) ∷ parts
  run_cut text [] rest parts fails others is shown =
      ap (λ t. cond t (Shown text ∷ pieces_by (line_holds place) rest) (hidden_before text (pieces_by (line_holds place) rest))) (false_from_ne_true _ fails)
      ∙ ap (hidden_before text) is
      ∙ run_before text parts shown
  run_cut text (next ∷ run) rest parts fails others is shown =
      ap (λ t. cond t (Shown text ∷ pieces_by (line_holds place) (next ∷ run ++ rest)) (hidden_before text (pieces_by (line_holds place) (next ∷ run ++ rest)))) (false_from_ne_true _ fails)
      ∙ ap (hidden_before text) (run_cut next run rest parts others.0 others.1 is shown)

  parts_cut : (parts : List Piece) → AllByRecursion (IsOfKind place) parts → are_apart parts ≡ true → pieces_by (line_holds place) (flat_map texts_in parts) ≡ parts
  parts_cut [] kinds apart = refl
  parts_cut (Shown text ∷ parts) kinds apart =
      ap (λ t. cond t (Shown text ∷ pieces_by (line_holds place) (flat_map texts_in parts)) (hidden_before text (pieces_by (line_holds place) (flat_map texts_in parts)))) kinds.0
      ∙ ap (λ ps. Shown text ∷ ps) (parts_cut parts kinds.1 apart)
  parts_cut (Hidden [] ∷ parts) kinds apart = absurd (omega (arith, kinds.0.0))
  parts_cut (Hidden (text ∷ run) ∷ parts) kinds apart =
      let behind = apart_behind (text ∷ run) parts apart in
      run_cut text run (flat_map texts_in parts) parts kinds.0.1.0 kinds.0.1.1 (parts_cut parts kinds.1 behind.1) behind.0

  pub one_parting : (texts : List (List ℕ)) (others : List Piece) → IsParted place texts others → others ≡ pieces_by (line_holds place) texts
  one_parting texts others p = sym (parts_cut others p.kinds p.apart) ∙ ap (λ ts. pieces_by (line_holds place) ts) p.whole
