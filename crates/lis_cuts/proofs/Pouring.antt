-- A content that is made from the lines of an edited view and the runs of the old content.
use Rattle.std.proofs.Common.{◌≡◌, ℕ, ◌+◌, ◌<◌, ◌≤◌, Bool, true, false, cond, ◌&&◌, ◌||◌, Option, Some, None, is_some, MatchOption, List, [], ◌∷◌, ◌++◌, length, map, filter, flat_map, codes, refl, sym, ap, subst, ◌∙◌, arith, append_assoc, append-nil, length-append, inl, inr, le-leb}
use Rattle.std.specs.List.{list_all}
use Rattle.std.specs.Cmp.Lexicographic.{pointwise}
use Rattle.std.proofs.lemmas.Bool.{and_parts, cases_lt, lt-leb}
use Rattle.lis_words.specs.Words.{same_word}
use Rattle.lis_grammar.specs.Formula.{Formula}
use Rattle.lis_transducers.specs.Bytes.{but_first}
use Rattle.lis_model.specs.Replies.{line}
use Rattle.lis_model.specs.Step.{Payload}
use Rattle.lis_model.specs.Script.{payload_limit, payload_of}
use Rattle.lis_line.specs.Segments.{with_bytes}
use Rattle.lis_views.specs.Lines.{lines_of, joined_lines}
use Rattle.lis_views.specs.Truth.{line_holds}
use Rattle.lis_views.specs.Views.{Piece, pieces, texts_in, runs_of, mark_of, piece_lines}
use Rattle.lis_views.specs.Views.Piece.{Shown, Hidden}
use Rattle.lis_views.specs.Edits.{is_kept, is_mark, is_edited, marked, new_texts, has_marks}
use Rattle.lis_views.proofs.Pieces.{AreSome, pieces_some}
use Rattle.lis_views.proofs.Backs.{kept_no_mark, words_decide, edited, pieces_mean}
use Rattle.lis_cuts.specs.Returns.{Holds, feed_unless, are_none}

-- ---- bytes after a payload
pub held_more : (payload longer : Payload) (bytes more : List ℕ) → Holds payload bytes → longer ≡ with_bytes payload more → Holds longer (bytes ++ more)
held_more payload longer bytes more held is =
    is ∙ ap (λ (p : Payload). with_bytes p more) held
    ∙ (elim (cases_lt payload_limit (length bytes + length more)) as (λ _. with_bytes (payload_of (length bytes) bytes) more ≡ payload_of (length (bytes ++ more)) (bytes ++ more)) [
      | inl above ↦ rw (length-append bytes more, lt-leb (length bytes + length more) payload_limit above) refl
      | inr le ↦ rw (length-append bytes more, le-leb (length bytes + length more) payload_limit le, le-leb (length bytes) payload_limit (omega arith)) refl
    ])

pub feed_len : (bytes : List ℕ) (t : Bool) → length (bytes ++ feed_unless t) ≤ length bytes + 1
feed_len bytes t = by t (length-append bytes (feed_unless t))
  where
    by : (u : Bool) → length (bytes ++ feed_unless t) ≡ length bytes + length (feed_unless u) → length (bytes ++ feed_unless t) ≤ length bytes + 1
    by true e = omega arith
    by false e = omega arith

-- ---- texts that are joined one after another
-- a run before other texts
pub joined_parts : (is_open : Bool) (run texts : List (List ℕ)) → 0 < length run
    → joined_lines is_open (run ++ texts) ≡ (joined_lines true run ++ feed_unless (is_open && are_none texts)) ++ joined_lines is_open texts
joined_parts is_open [] texts some = absurd (omega arith)
joined_parts true (text ∷ []) [] some = sym (append-nil (text ++ []) ∙ append-nil text)
joined_parts false (text ∷ []) [] some = sym (append-nil (line text))
joined_parts true (text ∷ []) (next ∷ texts) some = refl
joined_parts false (text ∷ []) (next ∷ texts) some = refl
joined_parts is_open (text ∷ next ∷ run) texts some =
    ap (λ xs. line text ++ xs) (joined_parts is_open (next ∷ run) texts (omega arith))
    ∙ sym (append_assoc (line text) (joined_lines true (next ∷ run) ++ feed_unless (is_open && are_none texts)) (joined_lines is_open texts))
    ∙ ap (λ xs. xs ++ joined_lines is_open texts) (sym (append_assoc (line text) (joined_lines true (next ∷ run)) (feed_unless (is_open && are_none texts))))

-- ---- the texts of lines, with the runs in order at whatever marks there are
abbrev pub first_run : List (List (List ℕ)) → List (List ℕ)
first_run [] = codes "?" ∷ []
first_run (run ∷ runs) = run

abbrev pub other_runs : List (List (List ℕ)) → List (List (List ℕ))
other_runs [] = []
other_runs (run ∷ runs) = runs

abbrev pub poured : List (List (List ℕ)) → List (List ℕ) → List (List ℕ)
poured runs [] = []
poured runs (text ∷ texts) = cond (is_kept text) (but_first text ∷ poured runs texts) (first_run runs ++ poured (other_runs runs) texts)

first_some : (runs : List (List (List ℕ))) → AreSome runs → 0 < length (first_run runs)
first_some [] some = omega arith
first_some (run ∷ runs) some = some.0

poured_none : (runs : List (List (List ℕ))) (texts : List (List ℕ)) → AreSome runs → are_none (poured runs texts) ≡ are_none texts
poured_none runs [] some = refl
poured_none runs (text ∷ texts) some = by (is_kept text)
  where
    behind : (run more : List (List ℕ)) → 0 < length run → are_none (run ++ more) ≡ false
    behind [] more least = absurd (omega arith)
    behind (first ∷ run) more least = refl

    by : (t : Bool) → are_none (cond t (but_first text ∷ poured runs texts) (first_run runs ++ poured (other_runs runs) texts)) ≡ false
    by true = refl
    by false = behind (first_run runs) (poured (other_runs runs) texts) (first_some runs some)

-- if the marks are those of the runs, in order, these are the new texts
pieces_poured : (n : ℕ) (parts : List Piece) → poured (runs_of parts) (piece_lines n parts) ≡ flat_map texts_in parts
pieces_poured n [] = refl
pieces_poured n (Shown text ∷ parts) = ap (λ ts. text ∷ ts) (pieces_poured n parts)
pieces_poured n (Hidden run ∷ parts) = ap (λ ts. run ++ ts) (pieces_poured (n + 1) parts)

pub poured_new : (runs : List (List (List ℕ))) (texts : List (List ℕ)) → list_all is_edited texts ≡ true → has_marks (marked 1 runs) texts ≡ true
    → poured runs texts ≡ new_texts (marked 1 runs) texts
poured_new runs texts formed marks =
    let e = edited 1 texts runs formed ((words_decide (filter is_mark texts) (map (λ pair. pair.0) (marked 1 runs))).0 marks) in
    ap (poured runs) (sym e.lines) ∙ ap (λ rs. poured rs (piece_lines 1 e.pieces)) (sym e.same) ∙ pieces_poured 1 e.pieces
    ∙ sym (pieces_mean runs e.pieces e.same) ∙ ap (new_texts (marked 1 runs)) e.lines

-- ---- marks, line by line
marks_with : (marks : List (List ℕ × List (List ℕ))) (text : List ℕ) (texts : List (List ℕ)) (t : Bool) → is_mark text ≡ t
    → has_marks marks (text ∷ texts) ≡ pointwise same_word (cond t (text ∷ filter is_mark texts) (filter is_mark texts)) (map (λ pair. pair.0) marks)
marks_with marks text texts t e = ap (λ u. pointwise same_word (cond u (text ∷ filter is_mark texts) (filter is_mark texts)) (map (λ pair. pair.0) marks)) e

kept_marks : (marks : List (List ℕ × List (List ℕ))) (text : List ℕ) (texts : List (List ℕ)) → is_kept text ≡ true → has_marks marks (text ∷ texts) ≡ has_marks marks texts
kept_marks marks text texts kept = marks_with marks text texts false (kept_no_mark text kept)

mark_there : (text : List ℕ) → is_edited text ≡ true → is_kept text ≡ false → is_mark text ≡ true
mark_there text formed other = ap (λ t. t || is_mark text) (sym other) ∙ formed

pub other_mark : (n : ℕ) (run : List (List ℕ)) (runs : List (List (List ℕ))) (text : List ℕ) (texts : List (List ℕ)) → is_edited text ≡ true → is_kept text ≡ false
    → same_word text (mark_of n run) ≡ false → has_marks (marked n (run ∷ runs)) (text ∷ texts) ≡ false
other_mark n run runs text texts formed other differs =
    marks_with (marked n (run ∷ runs)) text texts true (mark_there text formed other)
    ∙ ap (λ t. t && pointwise same_word (filter is_mark texts) (map (λ pair. pair.0) (marked (n + 1) runs))) differs

same_mark : (n : ℕ) (run : List (List ℕ)) (runs : List (List (List ℕ))) (text : List ℕ) (texts : List (List ℕ)) → is_edited text ≡ true → is_kept text ≡ false
    → same_word text (mark_of n run) ≡ true → has_marks (marked n (run ∷ runs)) (text ∷ texts) ≡ has_marks (marked (n + 1) runs) texts
same_mark n run runs text texts formed other is =
    marks_with (marked n (run ∷ runs)) text texts true (mark_there text formed other)
    ∙ ap (λ t. t && pointwise same_word (filter is_mark texts) (map (λ pair. pair.0) (marked (n + 1) runs))) is

-- ---- how far it is
-- The lines before the rest are in the new content, and so are the runs of the old content before those that are left.
pub record Pours (runs : List (List (List ℕ))) (texts : List (List ℕ)) (is_open : Bool) (number : ℕ) (left : List (List (List ℕ))) (rest : List (List ℕ)) (payload : Payload) : Type 0 where
  pub written : List ℕ
  pub held : Holds payload written
  pub same : has_marks (marked number left) rest ≡ has_marks (marked 1 runs) texts
  pub whole : written ++ joined_lines is_open (poured left rest) ≡ joined_lines is_open (poured runs texts)
  pub formed : list_all is_edited rest ≡ true
  pub some : AreSome left

pub pours_none : (runs : List (List (List ℕ))) (texts : List (List ℕ)) (is_open : Bool) (payload : Payload) → Holds payload [] → list_all is_edited texts ≡ true → AreSome runs
    → Pours runs texts is_open 1 runs texts payload
pours_none runs texts is_open payload held formed some = record { written = []; held = held; same = refl; whole = refl; formed = formed; some = some }

module _ (runs : List (List (List ℕ))) (texts : List (List ℕ)) (is_open : Bool) (number : ℕ) (left : List (List (List ℕ))) (rest : List (List ℕ)) (payload : Payload)
    (p : Pours runs texts is_open number left rest payload) where
  part_written : (others : List (List (List ℕ))) (run more : List (List ℕ)) (part : List ℕ) → AreSome others → 0 < length run → part ≡ joined_lines true run
      → poured left rest ≡ run ++ poured others more
      → (p.written ++ (part ++ feed_unless (is_open && are_none more))) ++ joined_lines is_open (poured others more) ≡ joined_lines is_open (poured runs texts)
  part_written others run more part some least is cut =
      append_assoc p.written (part ++ feed_unless (is_open && are_none more)) (joined_lines is_open (poured others more))
      ∙ ap (λ xs. p.written ++ ((xs ++ feed_unless (is_open && are_none more)) ++ joined_lines is_open (poured others more))) is
      ∙ ap (λ t. p.written ++ ((joined_lines true run ++ feed_unless (is_open && t)) ++ joined_lines is_open (poured others more))) (sym (poured_none others more some))
      ∙ ap (λ xs. p.written ++ xs) (sym (joined_parts is_open run (poured others more) least))
      ∙ ap (λ ts. p.written ++ joined_lines is_open ts) (sym cut)
      ∙ p.whole

  pub pours_kept : (text part : List ℕ) (more : List (List ℕ)) (longer : Payload) → rest ≡ text ∷ more → is_kept text ≡ true → part ≡ but_first text
      → longer ≡ with_bytes payload (part ++ feed_unless (is_open && are_none more)) → Pours runs texts is_open number left more longer
  pours_kept text part more longer cut kept is put = record {
    written = p.written ++ (part ++ feed_unless (is_open && are_none more));
    held = held_more payload longer p.written (part ++ feed_unless (is_open && are_none more)) p.held put;
    same = sym (kept_marks (marked number left) text more kept) ∙ ap (has_marks (marked number left)) (sym cut) ∙ p.same;
    whole = part_written left (but_first text ∷ []) more part p.some (omega arith) is
        (ap (poured left) cut ∙ ap (λ t. cond t (but_first text ∷ poured left more) (first_run left ++ poured (other_runs left) more)) kept);
    formed = (and_parts (is_edited text) (list_all is_edited more) (ap (list_all is_edited) (sym cut) ∙ p.formed)).1;
    some = p.some;
  }

  first_formed : (text : List ℕ) (more : List (List ℕ)) → rest ≡ text ∷ more → is_edited text ≡ true
  first_formed text more cut = (and_parts (is_edited text) (list_all is_edited more) (ap (list_all is_edited) (sym cut) ∙ p.formed)).0

  pub pours_run : (text part : List ℕ) (more run : List (List ℕ)) (others : List (List (List ℕ))) (longer : Payload) → rest ≡ text ∷ more → is_kept text ≡ false → left ≡ run ∷ others
      → same_word text (mark_of number run) ≡ true → part ≡ joined_lines true run
      → longer ≡ with_bytes payload (part ++ feed_unless (is_open && are_none more)) → Pours runs texts is_open (number + 1) others more longer
  pours_run text part more run others longer cut kept next is part_is put =
      let some : AreSome (run ∷ others) = subst AreSome next p.some in
      record {
        written = p.written ++ (part ++ feed_unless (is_open && are_none more));
        held = held_more payload longer p.written (part ++ feed_unless (is_open && are_none more)) p.held put;
        same = sym (same_mark number run others text more (first_formed text more cut) kept is)
            ∙ ap (λ ls. has_marks (marked number ls) (text ∷ more)) (sym next) ∙ ap (has_marks (marked number left)) (sym cut) ∙ p.same;
        whole = part_written others run more part some.1 some.0 part_is
            (ap (poured left) cut ∙ ap (λ ls. poured ls (text ∷ more)) next
            ∙ ap (λ t. cond t (but_first text ∷ poured (run ∷ others) more) (run ++ poured others more)) kept);
        formed = (and_parts (is_edited text) (list_all is_edited more) (ap (list_all is_edited) (sym cut) ∙ p.formed)).1;
        some = some.1;
      }

  -- a mark that is not the one of the next run
  pub differs_here : (text : List ℕ) (more run : List (List ℕ)) (others : List (List (List ℕ))) → rest ≡ text ∷ more → is_kept text ≡ false → left ≡ run ∷ others
      → same_word text (mark_of number run) ≡ false → false ≡ has_marks (marked 1 runs) texts
  differs_here text more run others cut kept next other =
      sym (other_mark number run others text more (first_formed text more cut) kept other)
      ∙ ap (λ ls. has_marks (marked number ls) (text ∷ more)) (sym next) ∙ ap (has_marks (marked number left)) (sym cut) ∙ p.same

  pub ends_same : rest ≡ [] → left ≡ [] → true ≡ has_marks (marked 1 runs) texts
  ends_same none over = ap (λ ls. has_marks (marked number ls) []) (sym over) ∙ ap (has_marks (marked number left)) (sym none) ∙ p.same

  pub ends_whole : list_all is_edited texts ≡ true → rest ≡ [] → left ≡ [] → Holds payload (joined_lines is_open (new_texts (marked 1 runs) texts))
  ends_whole formed none over =
      subst (λ xs. Holds payload xs)
      (sym (append-nil p.written) ∙ ap (λ ts. p.written ++ joined_lines is_open (poured left ts)) (sym none) ∙ p.whole
      ∙ ap (joined_lines is_open) (poured_new runs texts formed (sym (ends_same none over)))) p.held

-- the runs of a view have texts
pub view_some : (bytes : List ℕ) (place : List Formula) → AreSome (runs_of (pieces bytes place))
view_some bytes place = pieces_some (line_holds place) (lines_of bytes).texts

-- nothing was found
pub none_left : {A : Type 0} (found : Option A) (P : Type 0) (Q : A → Type 0) → MatchOption found P Q → is_some found ≡ false → P
none_left None P Q none e = none
none_left (Some x) P Q some e = absurd cc
