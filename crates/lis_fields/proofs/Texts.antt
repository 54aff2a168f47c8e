-- Texts after their length, with zeros after them.
use Rattle.std.proofs.Common.{◌≡◌, sym, ap, ap₂, ◌∙◌, ℕ, ◌≤◌, true, false, List, ◌∷◌, length, take, drop, IsTrue, arith, length-take-le}
use Rattle.std.proofs.lemmas.Bool.{and_parts, leb-true}
use Rattle.lis_words.specs.Words.{is_file_name}
use Rattle.lis_words.specs.Bytes.{padded}
use Rattle.lis_words.proofs.Bytes.{length_padded}
use Rattle.lis_fields.specs.Layouts.{text_bytes}
use Rattle.lis_fields.proofs.Widths.{are_zero, padding_zero, padded_from}

pub length_text : (text : List ℕ) → length text ≤ 60 → length (text_bytes text) ≡ 61
length_text text short = omega (arith, length_padded 60 text short)

-- the padding of a text is zero
pub text_padding : (len : ℕ) (rest text padding : List ℕ) → len ∷ rest ≡ text_bytes text → padding ≡ drop len rest → are_zero padding ≡ false → ⊥
text_padding len rest text padding e is none =
    let first : len ≡ length text = cc in
    let behind : rest ≡ padded 60 text = cc in
    let pass = padding_zero 60 len text rest behind (sym first) in
    let same = ap are_zero is in
    absurd (cc)

pub text_from : (len : ℕ) (rest text padding : List ℕ) → length rest ≡ 60 → len ≤ 60 → text ≡ take len rest → padding ≡ drop len rest → are_zero padding ≡ true
    → len ∷ rest ≡ text_bytes text
text_from len rest text padding full few front behind all =
    let size : len ≡ length text = omega (arith, ap length front, length-take-le len rest) in
    let e : rest ≡ padded 60 (take len rest) = padded_from 60 len rest full few (sym (ap are_zero behind) ∙ all) in
    ap₂ (λ x xs. x ∷ xs) size (e ∙ ap (λ xs. padded 60 xs) (sym front))

pub name_short : (name : List ℕ) → IsTrue (is_file_name name) → length name ≤ 60
name_short name h = leb-true _ _ (and_parts _ _ (and_parts _ _ (and_parts _ _ h).0).0).1
