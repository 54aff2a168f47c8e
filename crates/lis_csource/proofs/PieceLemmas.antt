-- The pieces of some bytes: the first one, and those of what follows it.
use Rattle.std.proofs.Common.{◌≡◌, ℕ, suc, zero, ◌≤◌, Bool, true, false, cond, ◌==◌, ◌&&◌, List, [], ◌∷◌, length, refl, sym, ap, ◌∙◌, arith}
use Rattle.std.specs.Char.{is_ascii_digit}
use Rattle.lis_transducers.specs.Bytes.{is_slash, is_white, is_name_start, is_name_byte, is_number_byte, is_no_feed, past, begins_with, but_first}
use Rattle.lis_transducers.specs.declared.piece.Kind.{Kind}
use Rattle.lis_transducers.specs.declared.piece.Kind.TheVariants.{Blank, White, Feed, Comment, Literal, Identifier, Number, Path, Mark}
use Rattle.lis_transducers.specs.declared.piece.Context.{Context}
use Rattle.lis_transducers.specs.Pieces.{Read, IsFirst, read, piece_of, pieces, pieces_within, after_block, after_literal, is_in_path, close_of, slash_piece, quote_piece, is_open, opens_path, open_piece, first_piece, context_after}
use Rattle.lis_words.specs.Bytes.{is_feed, is_blank}

-- what follows a run is no longer than the bytes
past_shorter : (test : ℕ → Bool) (bytes : List ℕ) → length (past test bytes) ≤ length bytes
past_shorter test [] = omega arith
past_shorter test (b ∷ bytes) = by (test b) (past_shorter test bytes)
  where
    by : (t : Bool) → length (past test bytes) ≤ length bytes → length (cond t (past test bytes) (b ∷ bytes)) ≤ length (b ∷ bytes)
    by true h = omega arith
    by false h = omega arith

but_first_shorter : (bytes : List ℕ) → length (but_first bytes) ≤ length bytes
but_first_shorter [] = omega arith
but_first_shorter (b ∷ bytes) = omega arith

block_shorter : (bytes : List ℕ) → length (after_block bytes) ≤ length bytes
block_shorter [] = omega arith
block_shorter (b ∷ bytes) = by ((b == 42) && begins_with 47 bytes) (but_first_shorter bytes) (block_shorter bytes)
  where
    by : (t : Bool) → length (but_first bytes) ≤ length bytes → length (after_block bytes) ≤ length bytes
        → length (cond t (but_first bytes) (after_block bytes)) ≤ length (b ∷ bytes)
    by true h k = omega arith
    by false h k = omega arith

literal_shorter : (close : ℕ) (escaped : Bool) (bytes : List ℕ) → length (after_literal close escaped bytes) ≤ length bytes
literal_shorter close escaped [] = omega arith
literal_shorter close escaped (b ∷ bytes) =
    by (is_feed b) escaped (b == close) (literal_shorter close false bytes) (literal_shorter close (b == 92) bytes)
  where
    by : (feed esc same : Bool) → length (after_literal close false bytes) ≤ length bytes
        → length (after_literal close (b == 92) bytes) ≤ length bytes
        → length (cond feed (b ∷ bytes) (cond esc (after_literal close false bytes) (cond same bytes (after_literal close (b == 92) bytes)))) ≤ length (b ∷ bytes)
    by true esc same h k = omega arith
    by false true same h k = omega arith
    by false false true h k = omega arith
    by false false false h k = omega arith

either : (n : ℕ) (t : Bool) (x y : Read) → length x.rest ≤ n → length y.rest ≤ n → length (cond t x y).rest ≤ n
either n true x y h k = h
either n false x y h k = k

slash_shorter : (bytes : List ℕ) → length (slash_piece bytes).rest ≤ length bytes
slash_shorter [] = omega arith
slash_shorter (b ∷ bytes) =
    either (suc (length bytes)) (b == 42) (read Comment [] (after_block bytes)) _ (omega (arith, block_shorter bytes))
    (either (suc (length bytes)) (is_slash b) (read Comment [] (past is_no_feed bytes)) (read (Mark 47) [] (b ∷ bytes)) (omega (arith, past_shorter is_no_feed bytes)) (omega arith))

open_shorter : (context : Context) (first : ℕ) (bytes : List ℕ) → length (open_piece context first bytes).rest ≤ length bytes
open_shorter context first bytes =
    either (length bytes) (opens_path context first bytes) (read (Path (close_of first)) bytes (but_first (past (is_in_path (close_of first)) bytes))) (quote_piece first bytes)
    (omega (arith, but_first_shorter (past (is_in_path (close_of first)) bytes), past_shorter (is_in_path (close_of first)) bytes))
    (either (length bytes) (first == 60) (read (Mark 60) [] bytes) (read Literal [] (after_literal first false bytes)) (omega arith) (literal_shorter first false bytes))

first_shorter : (context : Context) (b : ℕ) (bytes : List ℕ) → length (first_piece context b bytes).rest ≤ length bytes
first_shorter context b bytes =
    let n = length bytes in
    either n (is_blank b) (read Blank [] bytes) _ (omega arith)
    (either n (is_feed b) (read Feed [] bytes) _ (omega arith)
    (either n (is_white b) (read White [] bytes) _ (omega arith)
    (either n (is_name_start b) (read Identifier (b ∷ bytes) (past is_name_byte bytes)) _ (past_shorter is_name_byte bytes)
    (either n (is_ascii_digit b) (read Number [] (past is_number_byte bytes)) _ (past_shorter is_number_byte bytes)
    (either n (is_slash b) (slash_piece bytes) _ (slash_shorter bytes)
    (either n (is_open b) (open_piece context b bytes) (read (Mark b) [] bytes) (open_shorter context b bytes) (omega arith)))))))

-- more turns than there are bytes change nothing
pieces_fuel : (n m : ℕ) (context : Context) (bytes : List ℕ) → length bytes ≤ n → length bytes ≤ m
    → pieces_within n context bytes ≡ pieces_within m context bytes
pieces_fuel zero zero context bytes h k = refl
pieces_fuel zero (suc m) context [] h k = refl
pieces_fuel zero (suc m) context (b ∷ bytes) h k = absurd (omega arith)
pieces_fuel (suc n) zero context [] h k = refl
pieces_fuel (suc n) zero context (b ∷ bytes) h k = absurd (omega arith)
pieces_fuel (suc n) (suc m) context [] h k = refl
pieces_fuel (suc n) (suc m) context (b ∷ bytes) h k =
    ap (λ ps. (first_piece context b bytes).piece ∷ ps)
    (pieces_fuel n m (context_after context (first_piece context b bytes).piece) (first_piece context b bytes).rest
    (omega (arith, first_shorter context b bytes)) (omega (arith, first_shorter context b bytes)))

pub pieces_none : (context : Context) → pieces context [] ≡ []
unfolding pieces
pieces_none context = refl

pieces_first : (context : Context) (b : ℕ) (bytes : List ℕ)
    → IsFirst context (b ∷ bytes) (first_piece context b bytes).piece (first_piece context b bytes).rest
unfolding pieces
pieces_first context b bytes =
    ap (λ ps. (first_piece context b bytes).piece ∷ ps)
    (pieces_fuel (length bytes) (length (first_piece context b bytes).rest) (context_after context (first_piece context b bytes).piece)
    (first_piece context b bytes).rest (first_shorter context b bytes) (omega arith))

-- the first piece, as it was read
pub first_read : (context : Context) (bytes : List ℕ) (b : ℕ) (more : List ℕ) (kind : Kind) (text rest : List ℕ)
    → bytes ≡ b ∷ more → read kind text rest ≡ first_piece context b more → IsFirst context bytes (piece_of kind text) rest
first_read context bytes b more kind text rest e is =
    ap (pieces context) e ∙ pieces_first context b more
    ∙ ap (λ r. r.piece ∷ pieces (context_after context r.piece) r.rest) (sym is)

pub nothing_read : (context : Context) (bytes : List ℕ) → bytes ≡ [] → pieces context bytes ≡ []
nothing_read context bytes e = ap (pieces context) e ∙ pieces_none context
