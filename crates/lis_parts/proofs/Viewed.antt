-- The text of a view, stretch by stretch.
use Rattle.std.proofs.Common.{◌≡◌, ℕ, ◌+◌, ◌<◌, ◌≤◌, nat_lt, Bool, true, false, if◌then◌else◌, Option, Some, None, is_some, IfNone, List, [], ◌∷◌, ◌++◌, length, codes, refl, ap, sym, ◌∙◌, append_assoc, inl, inr, arith}
use Rattle.std.specs.List.{flat_map}
use Rattle.std.proofs.lemmas.Bool.{cases_lt, cond-true, lt-ltb, le-ltb}
use Rattle.std.proofs.lemmas.Grind.{flat_map-append}
use Rattle.lis_grammar.specs.Formula.{Formula}
use Rattle.lis_model.specs.Replies.{line}
use Rattle.lis_model.specs.State.{State}
use Rattle.lis_model.specs.Changes.{file_of}
use Rattle.lis_model.specs.Step.{Outcome}
use Rattle.lis_views.specs.Lines.{lines_of}
use Rattle.lis_views.specs.Views.{Piece, numeral, pieces, mark_of, piece_lines, view_of}
use Rattle.lis_cuts.specs.Stretches.{run_piece, shown_piece}
use Rattle.lis_session.specs.Session.{root_of}
use Rattle.lis_session.specs.Parts.{only_shows}
use Rattle.lis_parts.specs.Viewing.{mark_text, next_number, shown_text, end_text, pieces_text}

pub some_mark : (number hidden : ℕ) → 0 < hidden → mark_text number hidden ≡ (64 ∷ numeral number ++ 32 ∷ numeral hidden) ++ 10 ∷ []
some_mark number hidden some = cond-true (nat_lt 0 hidden) (line (64 ∷ numeral number ++ 32 ∷ numeral hidden)) [] (lt-ltb 0 hidden some)

pub next_few : (number hidden : ℕ) → (number ≤ next_number number hidden) × (next_number number hidden ≤ number + hidden)
next_few number hidden = elim (cases_lt 0 hidden) as (λ _. (number ≤ next_number number hidden) × (next_number number hidden ≤ number + hidden)) [
  | inl some ↦ rw (lt-ltb 0 hidden some) (omega arith, omega arith)
  | inr none ↦ rw (le-ltb 0 hidden none) (omega arith, omega arith)
]

abbrev parts_text : ℕ → List Piece → List ℕ
parts_text number parts = flat_map line (piece_lines number parts)

-- a run before other pieces
run_text : (number : ℕ) (run : List (List ℕ)) (parts : List Piece) → parts_text number (run_piece run ++ parts) ≡ mark_text number (length run) ++ parts_text (next_number number (length run)) parts
run_text number [] parts = refl
run_text number (text ∷ run) parts =
    let some : nat_lt 0 (length (text ∷ run)) ≡ true = lt-ltb 0 (length (text ∷ run)) (omega arith) in
    sym (ap (λ b. (if b then line (mark_of number (text ∷ run)) else []) ++ parts_text (if b then number + 1 else number) parts) some)

-- a shown text before others
one_text : (number : ℕ) (shown : Option (List ℕ)) (parts : List Piece) → parts_text number (shown_piece shown ++ parts) ≡ shown_text shown ++ parts_text number parts
one_text number None parts = refl
one_text number (Some text) parts = refl

-- the first stretch of a content, and what follows it
pub stretch_text : (number : ℕ) (bytes rest : List ℕ) (place : List Formula) (run : List (List ℕ)) (hidden : ℕ) (shown : Option (List ℕ))
    → pieces bytes place ≡ run_piece run ++ (shown_piece shown ++ pieces rest place) → hidden ≡ length run
    → pieces_text number bytes place ≡ (mark_text number hidden ++ shown_text shown) ++ pieces_text (next_number number hidden) rest place
stretch_text number bytes rest place run hidden shown is count =
    let behind = pieces_text (next_number number hidden) rest place in
    ap (parts_text number) is
    ∙ (run_text number run (shown_piece shown ++ pieces rest place)
    ∙ (ap (λ n. mark_text number n ++ parts_text (next_number number n) (shown_piece shown ++ pieces rest place)) (sym count)
    ∙ (ap (λ text. mark_text number hidden ++ text) (one_text (next_number number hidden) shown (pieces rest place))
    ∙ sym (append_assoc (mark_text number hidden) (shown_text shown) behind))))

-- what holds if nothing is shown
pub where_none : {X P : Type 0} (shown : Option X) → is_some shown ≡ false → IfNone shown P → P
where_none None none p = p
where_none (Some x) none p = absurd (let no : ◌≡◌ {A = Bool} true false = none in cc)

-- the whole view
pub view_parts : (bytes : List ℕ) (place : List Formula) → view_of bytes place ≡ pieces_text 1 bytes place ++ end_text (lines_of bytes).is_open
view_parts bytes place = flat_map-append line (piece_lines 1 (pieces bytes place)) _ ∙ ap (λ text. pieces_text 1 bytes place ++ text) (by (lines_of bytes).is_open)
  where
    by : (is_open : Bool) → flat_map line (if is_open then codes "!" ∷ [] else []) ≡ end_text is_open
    by true = refl
    by false = refl

-- the view of a file
abbrev pub file_view : State → List ℕ → List Formula → List ℕ
file_view state name place = view_of (file_of state.files name).bytes place

abbrev pub shows_view : State → List ℕ → List Formula → Outcome
shows_view state name place = only_shows (file_view state name place) (root_of state)
