-- The set of a file, read back from its spelling.
use Rattle.std.proofs.Common.{◌≡◌, refl, sym, ap, ap₂, ◌∙◌, ℕ, zero, suc, ◌+◌, ◌*◌, ◌-◌, ◌^◌, ◌<◌, ◌≤◌, ◌==◌, nat_lt, nat_le, Bool, true, ◌&&◌, List, [], ◌∷◌, ◌++◌, length, map, take, drop, get_or, IsTrue, nat_cmp, take-append-drop, length-append, arith}
use Rattle.std.specs.List.{list_all, flat_map}
use Rattle.std.proofs.lemmas.Bool.{and_parts, and_from, leb-true, le-leb, ltb-true, lt-ltb}
use Rattle.std.proofs.lemmas.List.{length-map}
use Rattle.std.proofs.lemmas.Grind.{flat_map-append}
use Rattle.std.proofs.lemmas.List.Folds.{list_all-append}
use Rattle.byteorder.specs.Endian.{little_bytes}
use Rattle.lis_graph.specs.Graph.{is_rising}
use Rattle.lis_model.specs.Sets.{fit}
use Rattle.lis_words.specs.Bytes.{padded}
use Rattle.lis_words.proofs.Bytes.{length_padded}
use Rattle.lis_fields.specs.Layouts.{zeros, set_bytes, is_set}
use Rattle.lis_fields.proofs.Widths.{are_zero, front_is, padding_zero, padded_from, length_zeros}
use Rattle.lis_fields.proofs.NumberLists.{wide, length_wide, same_wide}

abbrev pub next : List ℕ → List ℕ
next ns = map (λ n. n + 1) ns

abbrev pub are_small : List ℕ → Bool
are_small ns = list_all (λ n. nat_lt n (2 ^ 32 - 1)) ns

-- what the test of a set says
pub record IsSet (ns : List ℕ) : Type 0 where
  pub few : length ns ≤ 128
  pub small : are_small ns ≡ true
  pub rising : is_rising nat_cmp ns ≡ true

pub set_tests : (ns : List ℕ) → IsTrue (is_set ns) → IsSet ns
set_tests ns h =
    let most = and_parts (nat_le (length ns) 128 && are_small ns) (is_rising nat_cmp ns) h in
    let two = and_parts (nat_le (length ns) 128) (are_small ns) most.0 in
    record { few = leb-true (length ns) 128 two.0; small = two.1; rising = most.1 }

pub set_from : (ns : List ℕ) → IsSet ns → IsTrue (is_set ns)
set_from ns is =
    and_from (nat_le (length ns) 128 && are_small ns) (is_rising nat_cmp ns) (and_from (nat_le (length ns) 128) (are_small ns) (le-leb (length ns) 128 is.few) is.small) is.rising

-- the numbers before the first zero, each less 1
abbrev pub before : List ℕ → List ℕ
before [] = []
before (zero ∷ ns) = []
before (suc n ∷ ns) = n ∷ before ns

plus_one : (n : ℕ) → n + 1 ≡ suc n
plus_one n = omega arith

-- they are all numbers, if zeros follow
pub before_zeros : (ns : List ℕ) (k : ℕ) → before (next ns ++ zeros k) ≡ ns
unfolding zeros
before_zeros [] zero = refl
before_zeros [] (suc k) = refl
before_zeros (n ∷ ns) k = ap (λ m. before (m ∷ (next ns ++ zeros k))) (plus_one n) ∙ ap (λ ms. n ∷ ms) (before_zeros ns k)

-- and those that a read of them gives
before_is : (held ns : List ℕ) → take (length ns) held ≡ next ns → get_or held (length ns) 0 ≡ 0 → before held ≡ ns
before_is [] [] front end = refl
before_is [] (n ∷ ns) front end = absurd (omega (arith, ap length front))
before_is (zero ∷ held) [] front end = refl
before_is (suc h ∷ held) [] front end = absurd (omega (arith, end))
before_is (zero ∷ held) (n ∷ ns) front end = let first : 0 ≡ n + 1 = ap (λ xs. get_or xs 0 0) front in absurd (omega (arith, first))
before_is (suc h ∷ held) (n ∷ ns) front end =
    let first : suc h ≡ n + 1 = ap (λ xs. get_or xs 0 0) front in
    let same : h ≡ n = omega (arith, first) in
    ap₂ (λ m ms. m ∷ ms) same (before_is held ns (ap (λ xs. drop 1 xs) front) end)

-- a set as 128 numbers of four bytes
abbrev pub held_by : List ℕ → List ℕ
held_by ns = next ns ++ zeros (128 - length ns)

wide_next : (ns : List ℕ) → flat_map (λ n. little_bytes 4 (n + 1)) ns ≡ wide 4 (next ns)
wide_next [] = refl
wide_next (n ∷ ns) = ap (λ bytes. little_bytes 4 (n + 1) ++ bytes) (wide_next ns)

wide_zeros : (k n : ℕ) → n ≡ 4 * k → wide 4 (zeros k) ≡ zeros n
unfolding zeros
wide_zeros zero n e = ap zeros (let none : 0 ≡ n = omega (arith, e) in none)
wide_zeros (suc k) n e = ap (λ bytes. 0 ∷ 0 ∷ 0 ∷ 0 ∷ bytes) (wide_zeros k (4 * k) refl) ∙ ap zeros (let all : suc (suc (suc (suc (4 * k)))) ≡ n = omega (arith, e) in all)

length_next : (ns : List ℕ) → length (wide 4 (next ns)) ≡ 4 * length ns
length_next ns = length_wide 4 (next ns) ∙ ap (λ n. 4 * n) (length-map ns (λ n. n + 1))

pub set_held : (ns : List ℕ) → length ns ≤ 128 → set_bytes ns ≡ wide 4 (held_by ns)
unfolding set_bytes zeros
set_held ns few =
    let bytes = flat_map (λ n. little_bytes 4 (n + 1)) ns in
    let size : 512 - length bytes ≡ 4 * (128 - length ns) = omega (arith, ap length (wide_next ns), length_next ns) in
    ap₂ (λ xs ys. xs ++ ys) (wide_next ns) (sym (wide_zeros (128 - length ns) (512 - length bytes) size)) ∙ sym (flat_map-append (little_bytes 4) (next ns) (zeros (128 - length ns)))

pub length_set : (ns : List ℕ) → length ns ≤ 128 → length (set_bytes ns) ≡ 512
unfolding set_bytes
length_set ns few = length_padded 512 (flat_map (λ n. little_bytes 4 (n + 1)) ns) (omega (arith, ap length (wide_next ns), length_next ns))

fit_next : (ns : List ℕ) → are_small ns ≡ true → fit 4 (next ns) ≡ true
fit_next [] small = refl
fit_next (n ∷ ns) small =
    let parts = and_parts _ _ small in
    let low = ltb-true n (2 ^ 32 - 1) parts.0 in
    and_from _ _ (lt-ltb (n + 1) (256 ^ 4) (omega (arith, low))) (fit_next ns parts.1)

fit_zeros : (k : ℕ) → fit 4 (zeros k) ≡ true
unfolding zeros
fit_zeros zero = refl
fit_zeros (suc k) = fit_zeros k

pub fit_held : (ns : List ℕ) → are_small ns ≡ true → fit 4 (held_by ns) ≡ true
fit_held ns small = list_all-append _ (next ns) (zeros (128 - length ns)) ∙ and_from _ _ (fit_next ns small) (fit_zeros (128 - length ns))

pub length_held : (ns : List ℕ) → length ns ≤ 128 → length (held_by ns) ≡ 128
length_held ns few = omega (arith, length-append (next ns) (zeros (128 - length ns)), length-map ns (λ n. n + 1), length_zeros (128 - length ns))

-- 128 numbers that spell a set are its own
pub same_held : (held ns : List ℕ) → IsSet ns → length held ≡ 128 → fit 4 held ≡ true → wide 4 held ≡ set_bytes ns → before held ≡ ns
same_held held ns is len fits e =
    ap before (same_wide 4 held (held_by ns) fits (fit_held ns is.small) (len ∙ sym (length_held ns is.few)) (e ∙ set_held ns is.few)) ∙ before_zeros ns (128 - length ns)

-- what a read of a set gives
pub set_read : (held ms ns : List ℕ) → IsSet ns → length held ≡ 128 → fit 4 held ≡ true → wide 4 held ≡ set_bytes ns
    → take (length ms) held ≡ next ms → get_or held (length ms) 0 ≡ 0 → ms ≡ ns
set_read held ms ns is len fits e front end = sym (before_is held ms front end) ∙ same_held held ns is len fits e

-- and there are zeros behind its numbers
pub set_padding : (bytes ns : List ℕ) (at : ℕ) → bytes ≡ set_bytes ns → at ≡ 4 * length ns → are_zero (drop at bytes) ≡ true
unfolding set_bytes
set_padding bytes ns at e is =
    padding_zero 512 at (flat_map (λ n. little_bytes 4 (n + 1)) ns) bytes e (ap length (wide_next ns) ∙ (length_next ns ∙ sym is))

-- with zeros behind them, its bytes are those of a set
pub set_spelled : (bytes held ns : List ℕ) (at : ℕ) → length bytes ≡ 512 → length ns ≤ 128 → bytes ≡ wide 4 held → take (length ns) held ≡ next ns → at ≡ 4 * length ns
    → are_zero (drop at bytes) ≡ true → bytes ≡ set_bytes ns
unfolding set_bytes
set_spelled bytes held ns at full few e front is all =
    let rest = drop (length ns) held in
    let both : held ≡ next ns ++ rest = sym (take-append-drop (length ns) held) ∙ ap (λ ms. ms ++ rest) front in
    let parts : bytes ≡ wide 4 (next ns) ++ wide 4 rest = e ∙ (ap (wide 4) both ∙ flat_map-append (little_bytes 4) (next ns) rest) in
    padded_from 512 at bytes full (omega (arith, is)) all ∙ ap (λ xs. padded 512 xs) (front_is at bytes (wide 4 (next ns)) (wide 4 rest) parts (length_next ns ∙ sym is) ∙ sym (wide_next ns))
