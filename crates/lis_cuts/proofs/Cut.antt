-- The lines of bytes that are cut after a line feed, at their first line and at their last one.
use Rattle.std.proofs.Common.{◌≡◌, ◌⊎◌, ℕ, ◌+◌, ◌-◌, ◌<◌, Bool, true, false, not, nat_eq, cond, Some, None, List, [], ◌∷◌, ◌++◌, length, take, drop, get_or, refl, sym, ap, subst, ◌∙◌, arith, append_assoc, append-nil, inl, inr}
use Rattle.std.proofs.lemmas.Bool.{and_from, false≢true, not_from_false, ne_eqb}
use Rattle.std.proofs.lemmas.List.{append_cancel_right, take-append-drop}
use Rattle.memchr.specs.Find.{IsFirstByte, IsLastByte, is_byte}
use Rattle.lis_model.specs.Replies.{line}
use Rattle.lis_views.specs.Lines.{Lines, joined_lines, has_no_feed, byte_before, before, lines_of}
use Rattle.lis_views.proofs.Cutting.{lines, line_cut, joined_cut, cut_content}
use Rattle.lis_cuts.specs.Cuts.{IsFirst, IsClosed, IsTrimmed}
use Rattle.lis_cuts.specs.Returns.{are_none}
use Rattle.lis_cuts.proofs.Places.{before_first_place, cut_at_first, none_at_last, behind_last_place, front_at_last, last_apart}
use Rattle.lis_words.specs.Bytes.{is_feed}

-- ---- bytes after a closed prefix
byte_closed : (b : ℕ) (texts : List (List ℕ)) (o : Bool) (more : Lines) → (byte_before b texts o).is_open ≡ false
    → byte_before b (texts ++ more.texts) more.is_open ≡ lines ((byte_before b texts o).texts ++ more.texts) more.is_open
byte_closed b [] o more closed = absurd cc
byte_closed b (text ∷ texts) o more closed = refl

byte_front : (b : ℕ) (texts : List (List ℕ)) (o : Bool) → (byte_before b texts o).is_open ≡ false → o ≡ false
byte_front b [] o closed = absurd cc
byte_front b (text ∷ texts) o closed = closed

before_closed : (b : ℕ) (front more : Lines) → (before b front).is_open ≡ false
    → (before b (lines (front.texts ++ more.texts) more.is_open) ≡ lines ((before b front).texts ++ more.texts) more.is_open) × (front.is_open ≡ false)
before_closed b front more = by (is_feed b)
  where
    by : (t : Bool) → (cond t (lines ([] ∷ front.texts) front.is_open) (byte_before b front.texts front.is_open)).is_open ≡ false
        → (cond t (lines ([] ∷ front.texts ++ more.texts) more.is_open) (byte_before b (front.texts ++ more.texts) more.is_open)
        ≡ lines ((cond t (lines ([] ∷ front.texts) front.is_open) (byte_before b front.texts front.is_open)).texts ++ more.texts) more.is_open) × (front.is_open ≡ false)
    by true closed = (refl, closed)
    by false closed = (byte_closed b front.texts front.is_open more closed, byte_front b front.texts front.is_open closed)

pub closed_cut : (xs ys : List ℕ) → IsClosed xs → lines_of (xs ++ ys) ≡ lines ((lines_of xs).texts ++ (lines_of ys).texts) (lines_of ys).is_open
closed_cut [] ys closed = refl
closed_cut (b ∷ xs) ys closed =
    let parts = before_closed b (lines_of xs) (lines_of ys) closed in
    ap (before b) (closed_cut xs ys parts.1) ∙ parts.0

-- ---- whether bytes are closed, by their last byte
some_before : (b : ℕ) (cut : Lines) → 0 < length (before b cut).texts
some_before b cut = by (is_feed b) cut.texts
  where
    by : (t : Bool) (texts : List (List ℕ)) → 0 < length (cond t (lines ([] ∷ texts) cut.is_open) (byte_before b texts cut.is_open)).texts
    by true texts = omega arith
    by false [] = omega arith
    by false (text ∷ texts) = omega arith

open_before : (b : ℕ) (cut : Lines) → 0 < length cut.texts → (before b cut).is_open ≡ cut.is_open
open_before b cut = by (is_feed b) cut.texts
  where
    by : (t : Bool) (texts : List (List ℕ)) → 0 < length texts → (cond t (lines ([] ∷ texts) cut.is_open) (byte_before b texts cut.is_open)).is_open ≡ cut.is_open
    by true texts some = refl
    by false [] some = absurd (omega arith)
    by false (text ∷ texts) some = refl

some_texts : (xs : List ℕ) → 0 < length xs → 0 < length (lines_of xs).texts
some_texts [] some = absurd (omega arith)
some_texts (b ∷ xs) some = some_before b (lines_of xs)

pub none_texts : (xs : List ℕ) → nat_eq (length xs) 0 ≡ are_none (lines_of xs).texts
none_texts [] = refl
none_texts (b ∷ xs) = ne_eqb (length (b ∷ xs)) 0 (omega arith) ∙ sym (by (lines_of (b ∷ xs)).texts (some_before b (lines_of xs)))
  where
    by : (texts : List (List ℕ)) → 0 < length texts → are_none texts ≡ false
    by [] some = absurd (omega arith)
    by (text ∷ texts) some = refl

behind_some : (xs : List ℕ) (b : ℕ) → 0 < length (xs ++ b ∷ [])
behind_some [] b = omega arith
behind_some (c ∷ xs) b = omega arith

pub open_by_last : (xs : List ℕ) (b : ℕ) → (lines_of (xs ++ b ∷ [])).is_open ≡ not (is_feed b)
open_by_last [] b = by (is_feed b)
  where
    by : (t : Bool) → (cond t (lines ([] ∷ []) false) (byte_before b [] false)).is_open ≡ not t
    by true = refl
    by false = refl
open_by_last (c ∷ xs) b = open_before c (lines_of (xs ++ b ∷ [])) (some_texts (xs ++ b ∷ []) (behind_some xs b)) ∙ open_by_last xs b

pub feed_closed : (xs : List ℕ) → IsClosed (xs ++ 10 ∷ [])
feed_closed xs = open_by_last xs 10

pub open_last : (bytes : List ℕ) → 0 < length bytes → (lines_of bytes).is_open ≡ not (is_feed (get_or bytes (length bytes - 1) 0))
open_last bytes some = ap (λ xs. (lines_of xs).is_open) (last_apart bytes some) ∙ open_by_last (take (length bytes - 1) bytes) (get_or bytes (length bytes - 1) 0)

-- no line feed is at their end
pub trimmed_open : (bytes : List ℕ) → 0 < length bytes → (get_or bytes (length bytes - 1) 0 ≡ 10 → ⊥) → IsTrimmed bytes bytes
trimmed_open bytes some other = inr (refl, inr (open_last bytes some ∙ not_from_false _ (ne_eqb _ 10 other)))

pub trimmed_closed : (bytes : List ℕ) → 0 < length bytes → get_or bytes (length bytes - 1) 0 ≡ 10 → IsTrimmed bytes (take (length bytes - 1) bytes)
trimmed_closed bytes some feed = inl (last_apart bytes some ∙ ap (λ b. take (length bytes - 1) bytes ++ b ∷ []) feed)

-- ---- a single text
pub open_text : (text : List ℕ) → has_no_feed text ≡ true → 0 < length text → lines_of text ≡ lines (text ∷ []) true
open_text [] no_feed some = absurd (omega arith)
open_text (b ∷ text) no_feed some = joined_cut ((b ∷ text) ∷ []) true (record { no_feeds = and_from _ _ no_feed refl; end = refl })

-- ---- the first line
pub first_texts : (bytes text rest : List ℕ) → IsFirst bytes text rest → (lines_of bytes).texts ≡ text ∷ (lines_of rest).texts
first_texts bytes text rest first =
    elim first.whole [
      | inl e ↦ ap (λ xs. (lines_of xs).texts) e ∙ ap (λ (cut : Lines). cut.texts) (line_cut text rest first.no_feed)
      | inr e ↦ ap (λ xs. (lines_of xs).texts) e.0 ∙ ap (λ (cut : Lines). cut.texts) (open_text text first.no_feed e.2) ∙ ap (λ xs. text ∷ (lines_of xs).texts) (sym e.1)
    ]

pub first_at : (bytes text rest : List ℕ) (k : ℕ) → IsFirstByte (is_byte 10) bytes (Some k) → text ≡ take k bytes → rest ≡ drop (k + 1) bytes → IsFirst bytes text rest
first_at bytes text rest k found front back = record {
  no_feed = subst (λ xs. has_no_feed xs ≡ true) (sym front) (before_first_place 10 bytes k found);
  whole = inl (cut_at_first 10 bytes k found ∙ ap (λ xs. xs ++ 10 ∷ drop (k + 1) bytes) (sym front) ∙ ap (λ xs. text ++ 10 ∷ xs) (sym back));
}

-- ---- without the last line feed
closed_joined : (text : List ℕ) (texts : List (List ℕ)) → joined_lines false (text ∷ texts) ≡ joined_lines true (text ∷ texts) ++ 10 ∷ []
closed_joined text [] = refl
closed_joined text (next ∷ texts) =
    ap (λ xs. line text ++ xs) (closed_joined next texts) ∙ sym (append_assoc (line text) (joined_lines true (next ∷ texts)) (10 ∷ []))

pub trimmed_joined : (bytes trimmed : List ℕ) → IsTrimmed bytes trimmed → trimmed ≡ joined_lines true (lines_of bytes).texts
trimmed_joined bytes trimmed t = elim t [ inl e ↦ closed e | inr e ↦ sym e.0 ∙ open_by e.1 ]
  where
    closed_by : (texts : List (List ℕ)) → trimmed ++ 10 ∷ [] ≡ joined_lines false texts → 0 < length texts → trimmed ≡ joined_lines true texts
    closed_by [] e some = absurd (omega arith)
    closed_by (text ∷ texts) e some = append_cancel_right trimmed (joined_lines true (text ∷ texts)) (10 ∷ []) (e ∙ closed_joined text texts)

    closed : bytes ≡ trimmed ++ 10 ∷ [] → trimmed ≡ joined_lines true (lines_of bytes).texts
    closed e =
        closed_by (lines_of bytes).texts
        (sym e ∙ sym (cut_content bytes) ∙ ap (λ o. joined_lines o (lines_of bytes).texts) (ap (λ xs. (lines_of xs).is_open) e ∙ feed_closed trimmed))
        (some_texts bytes (subst (λ xs. 0 < length xs) (sym e) (behind_some trimmed 10)))

    open_by : (bytes ≡ []) ⊎ ((lines_of bytes).is_open ≡ true) → bytes ≡ joined_lines true (lines_of bytes).texts
    open_by e = elim e [
      | inl none ↦ none ∙ sym (ap (λ xs. joined_lines true (lines_of xs).texts) none)
      | inr is_open ↦ sym (cut_content bytes) ∙ ap (λ o. joined_lines o (lines_of bytes).texts) is_open
    ]

-- ---- the last line
pub last_texts : (bytes trimmed front last : List ℕ) → IsTrimmed bytes trimmed → trimmed ≡ front ++ last → IsClosed front → has_no_feed last ≡ true → 0 < length bytes
    → (lines_of bytes).texts ≡ (lines_of front).texts ++ last ∷ []
last_texts bytes trimmed front last t apart closed no_feed some = elim t [ inl e ↦ with_feed e | inr e ↦ without (e.0 ∙ apart) e.1 ]
  where
    with_feed : bytes ≡ trimmed ++ 10 ∷ [] → (lines_of bytes).texts ≡ (lines_of front).texts ++ last ∷ []
    with_feed e =
        ap (λ xs. (lines_of xs).texts) (e ∙ ap (λ xs. xs ++ 10 ∷ []) apart ∙ append_assoc front last (10 ∷ []))
        ∙ ap (λ (cut : Lines). cut.texts) (closed_cut front (last ++ 10 ∷ []) closed)
        ∙ ap (λ (cut : Lines). (lines_of front).texts ++ cut.texts) (line_cut last [] no_feed)

    by_last : (xs : List ℕ) → has_no_feed xs ≡ true → bytes ≡ front ++ xs → (lines_of bytes).is_open ≡ true → (lines_of bytes).texts ≡ (lines_of front).texts ++ xs ∷ []
    by_last [] none e is_open =
        absurd (false≢true (sym closed ∙ ap (λ xs. (lines_of xs).is_open) (sym (append-nil front) ∙ sym e) ∙ is_open))
    by_last (b ∷ xs) none e is_open =
        ap (λ ys. (lines_of ys).texts) e
        ∙ ap (λ (cut : Lines). cut.texts) (closed_cut front (b ∷ xs) closed)
        ∙ ap (λ (cut : Lines). (lines_of front).texts ++ cut.texts) (open_text (b ∷ xs) none (omega arith))

    without : bytes ≡ front ++ last → (bytes ≡ []) ⊎ ((lines_of bytes).is_open ≡ true) → (lines_of bytes).texts ≡ (lines_of front).texts ++ last ∷ []
    without e ends = elim ends [
      | inl none ↦ absurd (omega (arith, ap length none))
      | inr is_open ↦ by_last last no_feed e is_open
    ]

pub last_alone : (bytes trimmed : List ℕ) → IsTrimmed bytes trimmed → IsLastByte (is_byte 10) trimmed None → 0 < length bytes → (lines_of bytes).texts ≡ trimmed ∷ []
last_alone bytes trimmed t none some = last_texts bytes trimmed [] trimmed t refl refl (none_at_last 10 trimmed none) some

pub last_at : (bytes trimmed front last : List ℕ) (k : ℕ) → IsTrimmed bytes trimmed → IsLastByte (is_byte 10) trimmed (Some k)
    → front ≡ take (k + 1) trimmed → last ≡ drop (k + 1) trimmed → 0 < length bytes → (lines_of bytes).texts ≡ (lines_of front).texts ++ last ∷ []
last_at bytes trimmed front last k t found is_front is_last some =
    last_texts bytes trimmed (take (k + 1) trimmed) (drop (k + 1) trimmed) t (sym (take-append-drop (k + 1) trimmed))
    (ap (λ xs. (lines_of xs).is_open) (front_at_last 10 trimmed k found) ∙ feed_closed (take k trimmed))
    (behind_last_place 10 trimmed k found) some
    ∙ ap (λ xs. (lines_of xs).texts ++ drop (k + 1) trimmed ∷ []) (sym is_front)
    ∙ ap (λ xs. (lines_of front).texts ++ xs ∷ []) (sym is_last)
