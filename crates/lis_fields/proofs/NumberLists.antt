-- Numbers of one width, in sequence.
use Rattle.std.proofs.Common.{◌≡◌, refl, sym, ap, ap₂, ◌∙◌, subst, ℕ, zero, suc, ◌+◌, ◌*◌, ◌/◌, ◌%◌, ◌^◌, ◌<◌, ◌≤◌, true, List, [], ◌∷◌, ◌++◌, length, get_or, take, drop, take_at, drop_at, take-append-drop, length-append, length-drop, get_or-drop, drop-drop, arith}
use Rattle.std.specs.List.{flat_map}
use Rattle.std.specs.Int.{byte_at, bytes_low_first}
use Rattle.std.proofs.Math.Nat.{div-div-eq-div-mul, mul-suc, mul-zero, pow-succ'}
use Rattle.std.proofs.lemmas.Bool.{and_parts, and_from, ltb-true, lt-ltb}
use Rattle.byteorder.specs.Endian.{little_bytes, little_from, little_number, IsRead}
use Rattle.byteorder.specs.Numbers.{length-bytes_low_first, little_from-cons, little_from-lt}
use Rattle.lis_model.specs.Sets.{fit}
use Rattle.lis_fields.proofs.Widths.{same_number}

abbrev pub wide : ℕ → List ℕ → List ℕ
wide width ns = flat_map (little_bytes width) ns

pub length_wide : (width : ℕ) (ns : List ℕ) → length (wide width ns) ≡ width * length ns
length_wide width [] = sym (mul-zero width)
length_wide width (n ∷ ns) =
    omega (arith, length-append (little_bytes width n) (wide width ns), length-bytes_low_first 0 width n, length_wide width ns, mul-suc width (length ns))

-- two lists of one length with one spelling
pub same_wide : (width : ℕ) (ms ns : List ℕ) → fit width ms ≡ true → fit width ns ≡ true → length ms ≡ length ns → wide width ms ≡ wide width ns → ms ≡ ns
same_wide width [] [] fm fn len e = refl
same_wide width [] (n ∷ ns) fm fn len e = absurd (omega arith)
same_wide width (m ∷ ms) [] fm fn len e = absurd (omega arith)
same_wide width (m ∷ ms) (n ∷ ns) fm fn len e =
    let pm = and_parts _ _ fm in
    let pn = and_parts _ _ fn in
    let of_m = length-bytes_low_first 0 width m in
    let of_n = length-bytes_low_first 0 width n in
    let front : little_bytes width m ≡ little_bytes width n = sym (take_at (little_bytes width m) (wide width ms) width of_m) ∙ (ap (take width) e ∙ take_at (little_bytes width n) (wide width ns) width of_n) in
    let rest : wide width ms ≡ wide width ns = sym (drop_at (little_bytes width m) (wide width ms) width of_m) ∙ (ap (drop width) e ∙ drop_at (little_bytes width n) (wide width ns) width of_n) in
    ap₂ (λ x xs. x ∷ xs) (same_number width m n (ltb-true _ _ pm.0) (ltb-true _ _ pn.0) front) (same_wide width ms ns pm.1 pn.1 (omega arith) rest)

-- the bytes of a number from the second on are those of the rest
byte_shift : (i n : ℕ) → byte_at (suc i) n ≡ byte_at i (n / 256)
byte_shift zero n = refl
byte_shift (suc i) n = ap (λ q. q % 256) (ap (λ p. n / p) (pow-succ' 256 (suc i)) ∙ sym (div-div-eq-div-mul n 256 (256 ^ suc i)))

bytes_shift : (i width n : ℕ) → bytes_low_first (suc i) width n ≡ bytes_low_first i width (n / 256)
bytes_shift i zero n = refl
bytes_shift i (suc width) n = ap₂ (λ b bs. b ∷ bs) (byte_shift i n) (bytes_shift (suc i) width n)

-- bytes are those of the number that they spell
one_number : (width : ℕ) (bytes : List ℕ) → width ≤ length bytes → ((k : ℕ) → get_or bytes k 0 < 256) → little_bytes width (little_number width bytes) ≡ take width bytes
one_number zero bytes enough small = refl
one_number (suc width) [] enough small = absurd (omega arith)
one_number (suc width) (b ∷ bytes) enough small =
    let next = little_from-cons 0 width b bytes in
    let n = b + 256 * little_from 1 width (b ∷ bytes) in
    let low : n % 256 ≡ b = omega (arith, small 0) in
    let high : n / 256 ≡ little_number width bytes = omega (arith, small 0, next) in
    ap₂ (λ x xs. x ∷ xs) low (bytes_shift 0 width n ∙ (ap (little_bytes width) high ∙ one_number width bytes (omega arith) (λ k. small (suc k))))

-- what a read of numbers gives
pub read_wide : (width : ℕ) (bytes ns : List ℕ) → length bytes ≡ width * length ns → ((k : ℕ) → get_or bytes k 0 < 256) → IsRead little_number width bytes ns
    → (fit width ns ≡ true) × (bytes ≡ wide width ns)
read_wide width [] [] len small read = (refl, refl)
read_wide width (b ∷ bytes) [] len small read = absurd (omega (arith, len, mul-zero width))
read_wide width bytes (n ∷ ns) len small read =
    let size = len ∙ mul-suc width (length ns) in
    let first : n ≡ little_number width bytes = read 0 (omega arith) ∙ ap (λ j. little_number width (drop j bytes)) (mul-zero width) in
    let step : (k : ℕ) → drop (width * suc k) bytes ≡ drop (width * k) (drop width bytes) =
    λ k. ap (λ j. drop j bytes) (let next : width * suc k ≡ width + width * k = omega (arith, mul-suc width k) in next) ∙ sym (drop-drop (width * k) width bytes) in
    let more = read_wide width (drop width bytes) ns (omega (arith, size, length-drop width bytes)) (λ k. subst (λ x. x < 256) (sym (get_or-drop width bytes k 0)) (small (width + k)))
    (λ k lt. read (suc k) (omega (arith, lt)) ∙ ap (little_number width) (step k)) in
    let below : n < 256 ^ width = subst (λ m. m < 256 ^ width) (sym first) (little_from-lt 0 width bytes small) in
    let front : take width bytes ≡ little_bytes width n = sym (one_number width bytes (omega (arith, size)) small) ∙ ap (little_bytes width) (sym first) in
    (and_from _ _ (lt-ltb _ _ below) more.0, sym (take-append-drop width bytes) ∙ ap₂ (λ x y. x ++ y) front more.1)
