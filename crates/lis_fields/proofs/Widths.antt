-- Fields of fixed widths, read back from their spelling: zeros, numbers of four bytes, and bytes with zeros after them.
use Rattle.std.proofs.Common.{◌≡◌, refl, sym, ap, ap₂, ◌∙◌, ℕ, zero, suc, ◌-◌, ◌^◌, ◌<◌, ◌≤◌, ◌==◌, Bool, true, false, List, [], ◌∷◌, ◌++◌, length, take, drop, take_at, drop_at, take-append-drop, length-drop, length-take-le, arith}
use Rattle.std.specs.List.{list_all}
use Rattle.std.proofs.lemmas.Bool.{and_parts, eqb-true}
use Rattle.std.proofs.lemmas.List.{length-replicate}
use Rattle.byteorder.specs.Endian.{little_bytes, little_number}
use Rattle.byteorder.specs.Numbers.{little_number-reads_back}
use Rattle.lis_words.specs.Bytes.{padded}
use Rattle.lis_fields.specs.Layouts.{zeros}

abbrev pub are_zero : List ℕ → Bool
are_zero bytes = list_all (λ b. b == 0) bytes

pub length_zeros : (n : ℕ) → length (zeros n) ≡ n
unfolding zeros
length_zeros n = length-replicate n 0

pub zeros_pass : (n : ℕ) → are_zero (zeros n) ≡ true
unfolding zeros
zeros_pass zero = refl
zeros_pass (suc n) = zeros_pass n

pub all_zeros : (bytes : List ℕ) → are_zero bytes ≡ true → bytes ≡ zeros (length bytes)
unfolding zeros
all_zeros [] all = refl
all_zeros (b ∷ bytes) all =
    let parts = and_parts _ _ all in
    ap₂ (λ x xs. x ∷ xs) (eqb-true b 0 parts.0) (all_zeros bytes parts.1)

pub zeros_of : (n : ℕ) (bytes : List ℕ) → length bytes ≡ n → are_zero bytes ≡ true → bytes ≡ zeros n
zeros_of n bytes len all = all_zeros bytes all ∙ ap zeros len

-- no zeros, if a test found another byte
pub not_zeros : (n : ℕ) (bytes : List ℕ) → bytes ≡ zeros n → are_zero bytes ≡ false → ⊥
not_zeros n bytes e none = let pass = ap are_zero e ∙ zeros_pass n in absurd (cc)

-- a spelling of two parts, the first of a known width
pub front_is : (n : ℕ) (bytes a b : List ℕ) → bytes ≡ a ++ b → length a ≡ n → take n bytes ≡ a
front_is n bytes a b e len = ap (λ xs. take n xs) e ∙ take_at a b n len

pub behind_is : (n : ℕ) (bytes a b : List ℕ) → bytes ≡ a ++ b → length a ≡ n → drop n bytes ≡ b
behind_is n bytes a b e len = ap (λ xs. drop n xs) e ∙ drop_at a b n len

pub joined : (n : ℕ) (bytes a b : List ℕ) → take n bytes ≡ a → drop n bytes ≡ b → bytes ≡ a ++ b
joined n bytes a b front behind = sym (take-append-drop n bytes) ∙ ap₂ (λ x y. x ++ y) front behind

-- two numbers with one spelling
pub same_number : (n a b : ℕ) → a < 256 ^ n → b < 256 ^ n → little_bytes n a ≡ little_bytes n b → a ≡ b
same_number n a b small fits e =
    sym (little_number-reads_back n a [] small) ∙ (ap (λ xs. little_number n (xs ++ [])) e ∙ little_number-reads_back n b [] fits)

-- bytes with zeros after them
pub padding_zero : (n len : ℕ) (bytes field : List ℕ) → field ≡ padded n bytes → length bytes ≡ len → are_zero (drop len field) ≡ true
unfolding zeros
padding_zero n len bytes field e same =
    ap are_zero (behind_is len field bytes (zeros (n - length bytes)) e same) ∙ zeros_pass (n - length bytes)

pub padded_from : (n len : ℕ) (field : List ℕ) → length field ≡ n → len ≤ n → are_zero (drop len field) ≡ true → field ≡ padded n (take len field)
unfolding zeros
padded_from n len field full few all =
    let front : length (take len field) ≡ len = omega (arith, length-take-le len field) in
    let rest : length (drop len field) ≡ n - length (take len field) = omega (arith, length-drop len field) in
    joined len field (take len field) (zeros (n - length (take len field))) refl (zeros_of (n - length (take len field)) (drop len field) rest all)
