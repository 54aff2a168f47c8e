-- Pieces of a reply that are shown one after another, and lines of a listing.
use Rattle.std.proofs.Common.{◌≡◌, ℕ, List, [], ◌∷◌, ◌++◌, map, Result, Ok, Err, refl, ap, sym, ◌∙◌, append_assoc, arith}
use Rattle.std.specs.List.{flat_map}
use Rattle.std.specs.Result.{IsErrAnd}
use Rattle.lis_ports.specs.Meaning.{Meaning}
use Rattle.lis_ports.proofs.Moments.{adds_none}
use Rattle.lis_reply.proofs.Showing.{append_known-nil, call_none, show_front, show_then}
use Rattle.lis_grammar.specs.Formula.{Formula}
use Rattle.lis_model.specs.Replies.{body_line, listing_lines}
use Rattle.lis_model.specs.Table.{Table, Entry}
use Rattle.lis_model.specs.Listing.{increments, locals}
use Rattle.lis_incr.specs.Lines.{lines_of, listing}
use Rattle.lis_incr.specs.declared.listing.Line.{Line}
use Rattle.lis_incr.specs.declared.listing.Line.TheVariants.{File}
use Rattle.lis_session.specs.declared.end.End.{End}
use Rattle.lis_session.specs.Parts.{shown_line, Answers}

-- two pieces
pub answers_then : {a b c : Meaning} (first more : List ℕ) (u : Unit {0}) (result : Result (Unit {0}) End) → Answers a b first (Ok u) → Answers b c more result
    → Answers a c (first ++ more) result
answers_then first more u result front next = record {
  run = show_then first more (first ++ more) (Ok u) result front.run u refl next.run refl;
  fault = next.fault;
}

-- the first of them was not shown whole
pub answers_front : {a b : Meaning} (first more : List ℕ) (end : End) → Answers a b first (Err end) → Answers a b (first ++ more) (Err end)
answers_front first more end front = record {
  run = show_front first more (first ++ more) (Err end) (Err end) front.run end refl refl refl;
  fault = front.fault;
}

-- the same for a text that consists of both, if `?` continues, and if it passes the fault on
pub in_a_row : {a b c : Meaning} {first more all : List ℕ} {u : Unit {0}} {result : Result (Unit {0}) End} → Answers a b first (Ok u) → Answers b c more result → all ≡ first ++ more → Answers a c all result
in_a_row {first = first} {more} {u = u} {result} front next is = rw is (answers_then first more u result front next)

pub passed_on : {a b : Meaning} {first all : List ℕ} {end : End} {result : Result (Unit {0}) End} (more : List ℕ) → Answers a b first (Err end) → IsErrAnd result (λ e. e ≡ end) → all ≡ first ++ more → Answers a b all result
passed_on {result = Ok u} more front same is = absurd same
passed_on {first = first} {end = end} {result = Err e} more front same is = rw (same, is) (answers_front first more end front)

-- no piece
pub answers_none : (m : Meaning) → Answers m m [] (Ok tt)
answers_none m = record {
  run = record {
    call = call_none m;
    cause = record { later = omega arith; stays = refl; rose = tt };
    ends = omega arith;
    shown = sym (append_known-nil m.shown);
    moments = λ honest. adds_none m _;
  };
  fault = tt;
}

-- ---- a text in pieces
-- what a loop over pieces keeps: this was shown, and this is left
pub record TextSoFar (all left : List ℕ) (old now : Meaning) : Type 0 where
  pub said : List ℕ
  pub answers : Answers old now said (Ok tt)
  pub is : all ≡ said ++ left

pub text_none : {all left : List ℕ} (m : Meaning) → all ≡ left → TextSoFar all left m m
text_none m is = record { said = []; answers = answers_none m; is = is }

pub text_more : {all left rest piece : List ℕ} {old now next : Meaning} {u : Unit {0}} → TextSoFar all left old now → left ≡ piece ++ rest → Answers now next piece (Ok u) → TextSoFar all rest old next
text_more {rest = rest} {piece} so_far splits answers = record {
  said = so_far.said ++ piece;
  answers = in_a_row so_far.answers answers refl;
  is = so_far.is ∙ ap (λ text. so_far.said ++ text) splits ∙ sym (append_assoc so_far.said piece rest);
}

pub text_broke : {all left piece : List ℕ} {old now next : Meaning} {end : End} {result : Result (Unit {0}) End} (rest : List ℕ) → TextSoFar all left old now → left ≡ piece ++ rest → Answers now next piece (Err end)
    → IsErrAnd result (λ e. e ≡ end) → Answers old next all result
text_broke rest so_far splits answers same = in_a_row so_far.answers (passed_on rest answers same splits) so_far.is

-- ---- lines
names_shown : (files : List Entry) → flat_map shown_line (map (λ name. File name) (map (λ (e : Entry). e.name) files)) ≡ flat_map (λ (e : Entry). body_line 102 e.name) files
names_shown [] = refl
names_shown (e ∷ files) = ap (λ bytes. body_line 102 e.name ++ bytes) (names_shown files)

-- the lines are those of the reply
lines_shown : (words : List (List ℕ)) (files : List Entry) → flat_map shown_line (lines_of words (map (λ (e : Entry). e.name) files)) ≡ listing_lines words files
lines_shown [] files = names_shown files
lines_shown (word ∷ words) files =
    ap (λ bytes. body_line 100 word ++ bytes) (lines_shown words files)
    ∙ sym (append_assoc (body_line 100 word) (flat_map (body_line 100) words) (flat_map (λ (e : Entry). body_line 102 e.name) files))

pub listing_shown : (t : Table) (place : List Formula) (lines : List Line) → lines ≡ listing t place → flat_map shown_line lines ≡ listing_lines (increments t place) (locals t place)
listing_shown t place lines is = ap (flat_map shown_line) is ∙ lines_shown (increments t place) (locals t place)
