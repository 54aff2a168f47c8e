use Rattle.std.proofs.Common.{◌≡◌, ℕ, suc, length, ◌+◌, ◌*◌, ◌%◌, ◌/◌, ◌++◌, [], ◌∷◌, ◌∙◌, take, drop, ◌-◌, length-take, get_or, sym, ap, ap₂, arith}
use Rattle.std.specs.List.{flat_map}
use Rattle.std.proofs.Math.Seq.{take-suc}
use Rattle.std.proofs.Math.ListN.{drop_of_length-le}
use Rattle.std.proofs.lemmas.Slice.{take-put_mid}
use Rattle.std.proofs.lemmas.Grind.{flat_map-append}
use Rattle.byteorder.specs.Endian.{little_bytes}
use Rattle.lis_fields.proofs.numbers.write_shorts.Goals as goal

-- two bytes of a number are those of its rest
of_rest : (n : ℕ) → little_bytes 2 (n % 65536) ≡ little_bytes 2 n
of_rest n = ap₂ (λ a b. a ∷ b ∷ []) (let low : n % 65536 % 256 ≡ n % 256 = omega arith in low) (let high : n % 65536 / 256 % 256 ≡ n / 256 % 256 = omega arith in high)

pub loop-k-preserved : goal.loop-k-preserved
loop-k-preserved c =
    let k = c.loop-k.k in
    let ns = c.args.numbers.now in
    let number = get_or ns k 0 in
    let behind = take (2 * k + 2 - 2 * k) (drop (2 * k) c.loop-k.bytes) in
    let none : drop 2 behind ≡ [] = drop_of_length-le behind {i = 2} (omega (arith, length-take (2 * k + 2 - 2 * k) (drop (2 * k) c.loop-k.bytes))) in
    let written : c.write_u16.new.buf ≡ little_bytes 2 number =
    c.write_u16.ensures ∙ (ap (λ xs. number % 65536 % 256 ∷ number % 65536 / 256 % 256 ∷ xs) none ∙ of_rest number) in
    let more : take (k + 1) ns ≡ take k ns ++ number ∷ [] = ap (λ n. take n ns) (let next : k + 1 ≡ suc k = omega arith in next) ∙ take-suc ns k 0 c.loop-k-test.true in
    let two : length c.write_u16.new.buf ≡ 2 = ap length written in
    let end : 2 * (k + 1) ≡ 2 * k + length c.write_u16.new.buf = omega (arith, two) in
    take-put_mid (2 * k) (2 * k + 2 - 2 * k) c.loop-k.bytes c.write_u16.new.buf (2 * (k + 1)) end (omega (arith, c.loop-k-test.true, c.loop-k.auto.bytes, c.requires))
    ∙ (ap₂ (λ xs ys. xs ++ ys) c.loop-k.invariant written
    ∙ sym (ap (flat_map (little_bytes 2)) more ∙ flat_map-append (little_bytes 2) (take k ns) (number ∷ [])))
