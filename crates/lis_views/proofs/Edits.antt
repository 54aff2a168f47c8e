-- A view that is put back unchanged gives the same bytes, and hidden texts stay.
use Rattle.std.proofs.Common.{◌≡◌, ℕ, Bool, true, false, not, cond, ◌||◌, List, [], ◌∷◌, ◌++◌, map, filter, flat_map, refl, sym, ap, subst, ◌∙◌, append_assoc, arith}
use Rattle.std.specs.List.{list_all}
use Rattle.std.specs.Cmp.Lexicographic.{pointwise}
use Rattle.std.proofs.lemmas.Bool.{and_parts, and_from}
use Rattle.std.proofs.lemmas.List.Folds.{list_all-append}
use Rattle.lis_words.specs.Words.{same_word}
use Rattle.lis_grammar.specs.Formula.{Formula}
use Rattle.lis_model.specs.Replies.{line}
use Rattle.lis_views.specs.Lines.{Lines, joined_lines, has_no_feed, ends_in_some, lines_of}
use Rattle.lis_views.specs.Truth.{line_holds}
use Rattle.lis_views.specs.Views.{Piece, pieces, texts_in, runs_of, piece_lines, view_lines, view_of}
use Rattle.lis_views.specs.Edits.{Back, is_mark, is_edited, has_end, before_end, marked, new_texts, has_marks, is_in_form, back_by, view_marks, back_of}
use Rattle.lis_views.specs.Edits.Back.{NotAView, WrongMarks, Content}
use Rattle.lis_views.specs.Laws.{IsEdit}
use Rattle.lis_views.proofs.Cutting.{lines, Formed, formed_parts, cut_formed, cut_content, line_cut, joined_cut}
use Rattle.lis_views.proofs.Pieces.{AreSome, AreWhole, pieces_texts, pieces_some, pieces_hidden, lines_edited, lines_marks, lines_no_feed, runs_no_feed, texts_no_feed}
use Rattle.lis_views.proofs.Ends.{ending, ending_dropped, ending_seen, ending_back}
use Rattle.lis_views.proofs.Backs.{pieces_mean, words_decide, Edited, edited}

-- ---- the lines of a view are cut where it ends them
lines_cut : (texts : List (List ℕ)) → list_all has_no_feed texts ≡ true → lines_of (flat_map line texts) ≡ lines texts false
lines_cut [] h = refl
lines_cut (text ∷ texts) h =
    let parts = and_parts (has_no_feed text) (list_all has_no_feed texts) h in
    ap lines_of (append_assoc text (10 ∷ []) (flat_map line texts))
    ∙ line_cut text (flat_map line texts) parts.0
    ∙ ap (λ (cut : Lines). lines (text ∷ cut.texts) cut.is_open) (lines_cut texts parts.1)

ending_no_feed : (is_open : Bool) → list_all has_no_feed (ending is_open) ≡ true
ending_no_feed true = refl
ending_no_feed false = refl

-- ---- the runs of a view
module _ (bytes : List ℕ) (place : List Formula) where
  view_texts : flat_map texts_in (pieces bytes place) ≡ (lines_of bytes).texts
  view_texts = pieces_texts (line_holds place) (lines_of bytes).texts

  view_some : AreSome (runs_of (pieces bytes place))
  view_some = pieces_some (line_holds place) (lines_of bytes).texts

  view_formed : Formed (flat_map texts_in (pieces bytes place)) (lines_of bytes).is_open
  view_formed = subst (λ texts. Formed texts (lines_of bytes).is_open) (sym view_texts) (formed_parts _ _ (cut_formed bytes))

  view_whole : AreWhole (runs_of (pieces bytes place))
  view_whole = runs_no_feed (pieces bytes place) view_formed.no_feeds

-- ---- an input that neither check refuses
abbrev chosen : Bool → Bool → List ℕ → Back
chosen formed same new = cond (not formed) NotAView (cond (not same) WrongMarks (Content new))

stands : (marks : List (List ℕ × List (List ℕ))) (texts : List (List ℕ)) (is_open : Bool) → is_in_form marks texts is_open ≡ true → has_marks marks texts ≡ true
    → back_by marks texts is_open ≡ Content (joined_lines is_open (new_texts marks texts))
stands marks texts is_open formed same =
    ap (λ t. chosen t (has_marks marks texts) (joined_lines is_open (new_texts marks texts))) formed
    ∙ ap (λ t. chosen true t (joined_lines is_open (new_texts marks texts))) same

-- ---- pieces with the same runs
module _ (bytes : List ℕ) (place : List Formula) (input : List ℕ) (kept : List Piece) (is_open : Bool)
    (given : (lines_of input).texts ≡ view_lines kept is_open) (same : runs_of kept ≡ runs_of (pieces bytes place))
    (formed : Formed (flat_map texts_in kept) is_open) where
  kept_some : AreSome (runs_of kept)
  kept_some = subst AreSome (sym same) (view_some bytes place)

  kept_edited : list_all is_edited (piece_lines 1 kept) ≡ true
  kept_edited = lines_edited 1 kept (omega arith) kept_some

  kept_mean : new_texts (view_marks bytes place) (piece_lines 1 kept) ≡ flat_map texts_in kept
  kept_mean = pieces_mean (runs_of (pieces bytes place)) kept same

  kept_marks : has_marks (view_marks bytes place) (piece_lines 1 kept) ≡ true
  kept_marks =
      ap (λ marks. pointwise same_word marks (map (λ pair. pair.0) (view_marks bytes place)))
      (lines_marks 1 kept (omega arith) kept_some ∙ ap (λ runs. map (λ (pair : List ℕ × List (List ℕ)). pair.0) (marked 1 runs)) same)
      ∙ (words_decide (map (λ pair. pair.0) (view_marks bytes place)) (map (λ pair. pair.0) (view_marks bytes place))).1 refl

  edit_stands : back_of bytes place input ≡ Content (joined_lines is_open (flat_map texts_in kept))
  edit_stands =
      ap (λ texts. back_by (view_marks bytes place) (before_end texts) (has_end texts)) given
      ∙ ap (λ texts. back_by (view_marks bytes place) texts (has_end (view_lines kept is_open))) (ending_dropped (piece_lines 1 kept) is_open kept_edited)
      ∙ ap (λ o. back_by (view_marks bytes place) (piece_lines 1 kept) o) (ending_seen (piece_lines 1 kept) is_open kept_edited)
      ∙ stands (view_marks bytes place) (piece_lines 1 kept) is_open
      (and_from _ _ kept_edited (ap (λ texts. not is_open || ends_in_some texts) kept_mean ∙ formed.end)) kept_marks
      ∙ ap (λ texts. Content (joined_lines is_open texts)) kept_mean

pub edits_stand : (bytes : List ℕ) (place : List Formula) (input new : List ℕ) → IsEdit bytes place input new → back_of bytes place input ≡ Content new
edits_stand bytes place input new e =
    edit_stands bytes place input e.edited (lines_of new).is_open e.lines e.runs
    (subst (λ texts. Formed texts (lines_of new).is_open) e.texts (formed_parts (lines_of new).texts (lines_of new).is_open (cut_formed new)))
    ∙ ap (λ texts. Content (joined_lines (lines_of new).is_open texts)) (sym e.texts)
    ∙ ap Content (cut_content new)

-- ---- a view is an edit of itself
view_no_feed : (bytes : List ℕ) (place : List Formula) → list_all has_no_feed (view_lines (pieces bytes place) (lines_of bytes).is_open) ≡ true
view_no_feed bytes place =
    list_all-append has_no_feed (piece_lines 1 (pieces bytes place)) (ending (lines_of bytes).is_open)
    ∙ and_from _ _ (lines_no_feed 1 (pieces bytes place) (view_formed bytes place).no_feeds) (ending_no_feed (lines_of bytes).is_open)

view_edit : (bytes : List ℕ) (place : List Formula) → IsEdit bytes place (view_of bytes place) bytes
view_edit bytes place = record {
  edited = pieces bytes place;
  lines = ap (λ (cut : Lines). cut.texts) (lines_cut (view_lines (pieces bytes place) (lines_of bytes).is_open) (view_no_feed bytes place));
  runs = refl;
  hidden = pieces_hidden (line_holds place) (lines_of bytes).texts;
  texts = sym (view_texts bytes place);
}

pub unchanged_stays : (bytes : List ℕ) (place : List Formula) → back_of bytes place (view_of bytes place) ≡ Content bytes
unchanged_stays bytes place = edits_stand bytes place (view_of bytes place) bytes (view_edit bytes place)

-- ---- what an input is that is not refused
module _ (bytes : List ℕ) (place : List Formula) (input new : List ℕ) where
  abbrev given : List (List ℕ)
  given = before_end (lines_of input).texts

  abbrev ended : Bool
  ended = has_end (lines_of input).texts

  given_no_feed : list_all has_no_feed given ≡ true
  given_no_feed =
      let all = (formed_parts (lines_of input).texts (lines_of input).is_open (cut_formed input)).no_feeds in
      let apart = ap (λ texts. list_all has_no_feed texts) (ending_back (lines_of input).texts) ∙ list_all-append has_no_feed given (ending ended) in
      (and_parts _ _ (sym apart ∙ all)).0

  edit_from : Edited 1 given (runs_of (pieces bytes place)) → (not ended || ends_in_some (new_texts (view_marks bytes place) given)) ≡ true
      → joined_lines ended (new_texts (view_marks bytes place) given) ≡ new → IsEdit bytes place input new
  edit_from e end is = record {
    edited = e.pieces;
    lines = ending_back (lines_of input).texts ∙ ap (λ texts. texts ++ ending ended) (sym e.lines) ∙ ap (λ (cut : Lines). piece_lines 1 e.pieces ++ ending cut.is_open) (sym cut);
    runs = e.same;
    hidden = ap (λ runs. flat_map (λ run. run) runs) e.same ∙ pieces_hidden (line_holds place) (lines_of bytes).texts;
    texts = ap (λ (c : Lines). c.texts) cut;
  }
    where
      mean : new_texts (view_marks bytes place) given ≡ flat_map texts_in e.pieces
      mean = ap (λ texts. new_texts (view_marks bytes place) texts) (sym e.lines) ∙ pieces_mean (runs_of (pieces bytes place)) e.pieces e.same

      formed : Formed (flat_map texts_in e.pieces) ended
      formed = record {
        no_feeds = texts_no_feed 1 e.pieces (subst AreWhole (sym e.same) (view_whole bytes place)) (ap (λ texts. list_all has_no_feed texts) e.lines ∙ given_no_feed);
        end = ap (λ texts. not ended || ends_in_some texts) (sym mean) ∙ end;
      }

      cut : lines_of new ≡ lines (flat_map texts_in e.pieces) ended
      cut = ap lines_of (sym is ∙ ap (joined_lines ended) mean) ∙ joined_cut (flat_map texts_in e.pieces) ended formed

  pub hidden_stay : back_of bytes place input ≡ Content new → IsEdit bytes place input new
  hidden_stay h = by (is_in_form (view_marks bytes place) given ended) (has_marks (view_marks bytes place) given) refl refl h
    where
      by : (f s : Bool) → is_in_form (view_marks bytes place) given ended ≡ f → has_marks (view_marks bytes place) given ≡ s
          → chosen f s (joined_lines ended (new_texts (view_marks bytes place) given)) ≡ Content new → IsEdit bytes place input new
      by false s formed same e = absurd cc
      by true false formed same e = absurd cc
      by true true formed same e =
          let parts = and_parts (list_all is_edited given) (not ended || ends_in_some (new_texts (view_marks bytes place) given)) formed in
          edit_from (edited 1 given (runs_of (pieces bytes place)) parts.0 ((words_decide (filter is_mark given) (map (λ pair. pair.0) (view_marks bytes place))).0 same)) parts.1 cc
