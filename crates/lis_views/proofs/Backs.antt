-- What an edited view means: the texts of its pieces.
use Rattle.std.proofs.Common.{◌≡◌, ℕ, ◌+◌, ◌<◌, Bool, true, false, cond, ◌||◌, List, [], ◌∷◌, ◌++◌, map, filter, flat_map, Decides, refl, sym, ap, subst, ◌∙◌, arith, eqb-true}
use Rattle.std.specs.List.{list_all}
use Rattle.std.specs.Cmp.Lexicographic.{pointwise}
use Rattle.std.proofs.lemmas.Bool.{and_parts}
use Rattle.std.proofs.lemmas.Slice.Eq.{bytes_eq-Decides, slice_eq-Decides}
use Rattle.lis_words.specs.Words.{same_word}
use Rattle.lis_transducers.specs.Bytes.{but_first}
use Rattle.lis_views.specs.Views.{Piece, texts_in, runs_of, mark_of, piece_lines}
use Rattle.lis_views.specs.Views.Piece.{Shown, Hidden}
use Rattle.lis_views.specs.Edits.{is_kept, is_mark, is_edited, marked, run_at, new_texts}
use Rattle.lis_views.proofs.Marks.{marks_apart}

-- each of these runs is at its mark
abbrev Stand : List (List ℕ × List (List ℕ)) → ℕ → List (List (List ℕ)) → Type 0
Stand marks n [] = Unit {0}
Stand marks n (run ∷ runs) = (run_at marks (mark_of n run) ≡ run) × Stand marks (n + 1) runs

stand_behind : (marks : List (List ℕ × List (List ℕ))) (m : ℕ) (first : List (List ℕ)) (n : ℕ) (runs : List (List (List ℕ))) → m < n → Stand marks n runs → Stand ((mark_of m first, first) ∷ marks) n runs
stand_behind marks m first n [] below stand = tt
stand_behind marks m first n (run ∷ runs) below stand = (
  ap (λ t. cond t first (run_at marks (mark_of n run))) (marks_apart m n first run below) ∙ stand.0,
  stand_behind marks m first (n + 1) runs (omega arith) stand.1,
)

pub marked_stand : (n : ℕ) (runs : List (List (List ℕ))) → Stand (marked n runs) n runs
marked_stand n [] = tt
marked_stand n (run ∷ runs) = (
  ap (λ t. cond t run (run_at (marked (n + 1) runs) (mark_of n run))) ((bytes_eq-Decides (mark_of n run) (mark_of n run)).1 refl),
  stand_behind (marked (n + 1) runs) n run (n + 1) runs (omega arith) (marked_stand (n + 1) runs),
)

texts_new : (marks : List (List ℕ × List (List ℕ))) (n : ℕ) (pieces : List Piece) → Stand marks n (runs_of pieces) → new_texts marks (piece_lines n pieces) ≡ flat_map texts_in pieces
texts_new marks n [] stand = refl
texts_new marks n (Shown text ∷ pieces) stand = ap (λ texts. text ∷ texts) (texts_new marks n pieces stand)
texts_new marks n (Hidden run ∷ pieces) stand =
    ap (λ texts. texts ++ new_texts marks (piece_lines (n + 1) pieces)) stand.0 ∙ ap (λ texts. run ++ texts) (texts_new marks (n + 1) pieces stand.1)

-- pieces with these runs mean their texts
pub pieces_mean : (runs : List (List (List ℕ))) (pieces : List Piece) → runs_of pieces ≡ runs → new_texts (marked 1 runs) (piece_lines 1 pieces) ≡ flat_map texts_in pieces
pieces_mean runs pieces same = texts_new (marked 1 runs) 1 pieces (subst (λ rs. Stand (marked 1 runs) 1 rs) (sym same) (marked_stand 1 runs))

pub words_decide : (words others : List (List ℕ)) → Decides (pointwise same_word words others) (words ≡ others)
words_decide words others = slice_eq-Decides bytes_eq-Decides words others (pointwise same_word words others) refl

-- ---- lines with the marks of some runs show pieces with these runs
kept_text : (text : List ℕ) → is_kept text ≡ true → 43 ∷ but_first text ≡ text
kept_text [] h = absurd cc
kept_text (b ∷ text) h = ap (λ c. c ∷ text) (sym (eqb-true b 43 h))

pub kept_no_mark : (text : List ℕ) → is_kept text ≡ true → is_mark text ≡ false
kept_no_mark text h = subst (λ t. is_mark t ≡ false) (kept_text text h) refl

pub record Edited (n : ℕ) (texts : List (List ℕ)) (runs : List (List (List ℕ))) : Type 0 where
  pub pieces : List Piece
  pub lines : piece_lines n pieces ≡ texts
  pub same : runs_of pieces ≡ runs

shown_before : (n : ℕ) (text : List ℕ) (texts : List (List ℕ)) (runs : List (List (List ℕ))) → is_kept text ≡ true → Edited n texts runs → Edited n (text ∷ texts) runs
shown_before n text texts runs kept e = record {
  pieces = Shown (but_first text) ∷ e.pieces;
  lines = ap (λ t. t ∷ piece_lines n e.pieces) (kept_text text kept) ∙ ap (λ ts. text ∷ ts) e.lines;
  same = e.same;
}

hidden_before : (n : ℕ) (text : List ℕ) (texts : List (List ℕ)) (run : List (List ℕ)) (runs : List (List (List ℕ))) → text ≡ mark_of n run → Edited (n + 1) texts runs → Edited n (text ∷ texts) (run ∷ runs)
hidden_before n text texts run runs mark e = record {
  pieces = Hidden run ∷ e.pieces;
  lines = ap (λ t. t ∷ piece_lines (n + 1) e.pieces) (sym mark) ∙ ap (λ ts. text ∷ ts) e.lines;
  same = ap (λ rs. run ∷ rs) e.same;
}

abbrev marks_from : ℕ → List (List (List ℕ)) → List (List ℕ)
marks_from n runs = map (λ (pair : List ℕ × List (List ℕ)). pair.0) (marked n runs)

pub edited : (n : ℕ) (texts : List (List ℕ)) (runs : List (List (List ℕ))) → list_all is_edited texts ≡ true → filter is_mark texts ≡ marks_from n runs → Edited n texts runs
edited n [] [] h marks = record { pieces = []; lines = refl; same = refl }
edited n [] (run ∷ runs) h marks = absurd cc
edited n (text ∷ texts) runs h marks = by (is_kept text) refl runs marks (λ m rs. edited m texts rs parts.1)
  where
    parts : (is_edited text ≡ true) × (list_all is_edited texts ≡ true)
    parts = and_parts _ _ h

    taken : (t : Bool) → is_mark text ≡ t → filter is_mark (text ∷ texts) ≡ cond t (text ∷ filter is_mark texts) (filter is_mark texts)
    taken t e = ap (λ u. cond u (text ∷ filter is_mark texts) (filter is_mark texts)) e

    by : (t : Bool) → is_kept text ≡ t → (rs : List (List (List ℕ))) → filter is_mark (text ∷ texts) ≡ marks_from n rs
        → ((m : ℕ) (others : List (List (List ℕ))) → filter is_mark texts ≡ marks_from m others → Edited m texts others) → Edited n (text ∷ texts) rs
    by true kept rs same rest = shown_before n text texts rs kept (rest n rs (sym (taken false (kept_no_mark text kept)) ∙ same))
    by false kept rs same rest = marked_by rs (sym (taken true mark) ∙ same)
      where
        mark : is_mark text ≡ true
        mark = ap (λ t. t || is_mark text) (sym kept) ∙ parts.0

        marked_by : (rs : List (List (List ℕ))) → text ∷ filter is_mark texts ≡ marks_from n rs → Edited n (text ∷ texts) rs
        marked_by [] e = absurd cc
        marked_by (run ∷ others) e =
            let first : text ≡ mark_of n run = cc in
            let more : filter is_mark texts ≡ marks_from (n + 1) others = cc in
            hidden_before n text texts run others first (rest (n + 1) others more)
