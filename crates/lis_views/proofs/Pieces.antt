-- The pieces of a content: their texts, their runs, and the lines that show them.
use Rattle.std.proofs.Common.{◌≡◌, ℕ, ◌+◌, ◌<◌, Bool, true, false, not, cond, List, [], ◌∷◌, length, map, filter, flat_map, refl, sym, ap, ◌∙◌, arith}
use Rattle.std.specs.List.{list_all, AllByRecursion}
use Rattle.std.proofs.lemmas.Bool.{and_parts, and_from}
use Rattle.std.proofs.lemmas.List.Folds.{list_all-append}
use Rattle.lis_views.specs.Lines.{has_no_feed}
use Rattle.lis_views.specs.Views.{Piece, hidden_before, pieces_by, texts_in, runs_of, mark_of, piece_lines}
use Rattle.lis_views.specs.Views.Piece.{Shown, Hidden}
use Rattle.lis_views.specs.Edits.{is_mark, is_edited, marked}
use Rattle.lis_views.proofs.Marks.{mark_formed, mark_no_feed}

-- each run has a text
abbrev pub AreSome : List (List (List ℕ)) → Type 0
AreSome runs = AllByRecursion (λ run. 0 < length run) runs

-- ---- the pieces that a test cuts
hidden_texts : (text : List ℕ) (pieces : List Piece) → flat_map texts_in (hidden_before text pieces) ≡ text ∷ flat_map texts_in pieces
hidden_texts text [] = refl
hidden_texts text (Shown next ∷ pieces) = refl
hidden_texts text (Hidden run ∷ pieces) = refl

pub pieces_texts : (test : List ℕ → Bool) (texts : List (List ℕ)) → flat_map texts_in (pieces_by test texts) ≡ texts
pieces_texts test [] = refl
pieces_texts test (text ∷ texts) = by (test text) (pieces_texts test texts)
  where
    by : (t : Bool) → flat_map texts_in (pieces_by test texts) ≡ texts → flat_map texts_in (cond t (Shown text ∷ pieces_by test texts) (hidden_before text (pieces_by test texts))) ≡ text ∷ texts
    by true rest = ap (λ ts. text ∷ ts) rest
    by false rest = hidden_texts text (pieces_by test texts) ∙ ap (λ ts. text ∷ ts) rest

hidden_some : (text : List ℕ) (pieces : List Piece) → AreSome (runs_of pieces) → AreSome (runs_of (hidden_before text pieces))
hidden_some text [] some = (omega arith, tt)
hidden_some text (Shown next ∷ pieces) some = (omega arith, some)
hidden_some text (Hidden run ∷ pieces) some = (omega arith, some.1)

pub pieces_some : (test : List ℕ → Bool) (texts : List (List ℕ)) → AreSome (runs_of (pieces_by test texts))
pieces_some test [] = tt
pieces_some test (text ∷ texts) = by (test text) (pieces_some test texts)
  where
    by : (t : Bool) → AreSome (runs_of (pieces_by test texts)) → AreSome (runs_of (cond t (Shown text ∷ pieces_by test texts) (hidden_before text (pieces_by test texts))))
    by true rest = rest
    by false rest = hidden_some text (pieces_by test texts) rest

-- the runs are the texts that fail the test, in order
abbrev pub run_texts : List (List (List ℕ)) → List (List ℕ)
run_texts runs = flat_map (λ run. run) runs

hidden_runs : (text : List ℕ) (pieces : List Piece) → run_texts (runs_of (hidden_before text pieces)) ≡ text ∷ run_texts (runs_of pieces)
hidden_runs text [] = refl
hidden_runs text (Shown next ∷ pieces) = refl
hidden_runs text (Hidden run ∷ pieces) = refl

pub pieces_hidden : (test : List ℕ → Bool) (texts : List (List ℕ)) → run_texts (runs_of (pieces_by test texts)) ≡ filter (λ text. not (test text)) texts
pieces_hidden test [] = refl
pieces_hidden test (text ∷ texts) = by (test text) (pieces_hidden test texts)
  where
    by : (t : Bool) → run_texts (runs_of (pieces_by test texts)) ≡ filter (λ u. not (test u)) texts → run_texts (runs_of (cond t (Shown text ∷ pieces_by test texts) (hidden_before text (pieces_by test texts))))
        ≡ cond (not t) (text ∷ filter (λ u. not (test u)) texts) (filter (λ u. not (test u)) texts)
    by true rest = rest
    by false rest = hidden_runs text (pieces_by test texts) ∙ ap (λ ts. text ∷ ts) rest

-- ---- the lines that show pieces
pub lines_edited : (n : ℕ) (pieces : List Piece) → 0 < n → AreSome (runs_of pieces) → list_all is_edited (piece_lines n pieces) ≡ true
lines_edited n [] one some = refl
lines_edited n (Shown text ∷ pieces) one some = lines_edited n pieces one some
lines_edited n (Hidden run ∷ pieces) one some = and_from _ _ (mark_formed n run one some.0) (lines_edited (n + 1) pieces (omega arith) some.1)

pub lines_marks : (n : ℕ) (pieces : List Piece) → 0 < n → AreSome (runs_of pieces) → filter is_mark (piece_lines n pieces) ≡ map (λ pair. pair.0) (marked n (runs_of pieces))
lines_marks n [] one some = refl
lines_marks n (Shown text ∷ pieces) one some = lines_marks n pieces one some
lines_marks n (Hidden run ∷ pieces) one some =
    ap (λ t. cond t (mark_of n run ∷ filter is_mark (piece_lines (n + 1) pieces)) (filter is_mark (piece_lines (n + 1) pieces))) (mark_formed n run one some.0)
    ∙ ap (λ marks. mark_of n run ∷ marks) (lines_marks (n + 1) pieces (omega arith) some.1)

-- ---- line feeds: none in the lines if there are none in the texts, and conversely
pub lines_no_feed : (n : ℕ) (pieces : List Piece) → list_all has_no_feed (flat_map texts_in pieces) ≡ true → list_all has_no_feed (piece_lines n pieces) ≡ true
lines_no_feed n [] h = refl
lines_no_feed n (Shown text ∷ pieces) h = let parts = and_parts (has_no_feed text) (list_all has_no_feed (flat_map texts_in pieces)) h in and_from _ _ parts.0 (lines_no_feed n pieces parts.1)
lines_no_feed n (Hidden run ∷ pieces) h =
    let parts = and_parts _ _ (sym (list_all-append has_no_feed run (flat_map texts_in pieces)) ∙ h) in
    and_from _ _ (mark_no_feed n run) (lines_no_feed (n + 1) pieces parts.1)

abbrev pub AreWhole : List (List (List ℕ)) → Type 0
AreWhole runs = AllByRecursion (λ run. list_all has_no_feed run ≡ true) runs

pub runs_no_feed : (pieces : List Piece) → list_all has_no_feed (flat_map texts_in pieces) ≡ true → AreWhole (runs_of pieces)
runs_no_feed [] h = tt
runs_no_feed (Shown text ∷ pieces) h = runs_no_feed pieces (and_parts (has_no_feed text) (list_all has_no_feed (flat_map texts_in pieces)) h).1
runs_no_feed (Hidden run ∷ pieces) h =
    let parts = and_parts _ _ (sym (list_all-append has_no_feed run (flat_map texts_in pieces)) ∙ h) in
    (parts.0, runs_no_feed pieces parts.1)

pub texts_no_feed : (n : ℕ) (pieces : List Piece) → AreWhole (runs_of pieces) → list_all has_no_feed (piece_lines n pieces) ≡ true → list_all has_no_feed (flat_map texts_in pieces) ≡ true
texts_no_feed n [] whole h = refl
texts_no_feed n (Shown text ∷ pieces) whole h =
    let parts = and_parts (has_no_feed text) (list_all has_no_feed (piece_lines n pieces)) h in
    and_from _ _ parts.0 (texts_no_feed n pieces whole parts.1)
texts_no_feed n (Hidden run ∷ pieces) whole h =
    let parts = and_parts (has_no_feed (mark_of n run)) (list_all has_no_feed (piece_lines (n + 1) pieces)) h in
    list_all-append has_no_feed run (flat_map texts_in pieces) ∙ and_from _ _ whole.0 (texts_no_feed (n + 1) pieces whole.1 parts.1)
