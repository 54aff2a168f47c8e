-- What crates above need of the bitmap's blocks: their bits say which data blocks are taken.
use Rattle.std.proofs.Common.{◌≡◌, ℕ, ◌+◌, ◌*◌, ◌/◌, ◌%◌, ◌<◌, Bool, List, ap, ◌∙◌, arith}
use Rattle.lis_bits.specs.Words.{word_bit}
use Rattle.lis_bits.proofs.Numbers.{number_bit, byte-bits_bytes}
use Rattle.lis_blockmap.specs.Bitmap.{is_taken, bitmap_bytes, has_bit}

pub has_bit-bitmap_bytes : (n : ℕ) (taken : List Bool) (bit : ℕ) → bit < 32768 → has_bit (bitmap_bytes n taken) bit ≡ is_taken taken (32768 * n + bit)
unfolding bitmap_bytes
has_bit-bitmap_bytes n taken bit lt =
    let in_block : bit / 8 < 4096 = omega arith in
    let place : 32768 * n + (8 * (bit / 8) + bit % 8) ≡ 32768 * n + bit = omega arith in
    ap (λ byte. word_bit byte (bit % 8)) (byte-bits_bytes 4096 (λ k. is_taken taken (32768 * n + k)) (bit / 8) in_block)
    ∙ (number_bit 8 (λ i. is_taken taken (32768 * n + (8 * (bit / 8) + i))) (bit % 8) (omega arith) ∙ ap (is_taken taken) place)
