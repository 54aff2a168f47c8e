-- The bitmap's first bytes: blocks 0, 2 and 8 of nine are taken.
use Rattle.std.proofs.Common.{◌≡◌, Bool, true, false, List, [], ◌∷◌, get_or, refl}
use Rattle.lis_bits.specs.Bytes.{bits_number, bits_bytes}
use Rattle.lis_blockmap.specs.Bitmap.{free_count, bitmap_bytes}

abbrev three_of_nine : List Bool
three_of_nine = true ∷ false ∷ true ∷ false ∷ false ∷ false ∷ false ∷ false ∷ true ∷ []

six_free : free_count three_of_nine ≡ 6
six_free = refl

first_byte : get_or (bitmap_bytes 0 three_of_nine) 0 0 ≡ 5
unfolding bitmap_bytes bits_bytes bits_number
first_byte = refl

second_byte : get_or (bitmap_bytes 0 three_of_nine) 1 0 ≡ 1
unfolding bitmap_bytes bits_bytes bits_number
second_byte = refl

third_byte : get_or (bitmap_bytes 0 three_of_nine) 2 0 ≡ 0
unfolding bitmap_bytes bits_bytes bits_number
third_byte = refl

-- a second block of the bitmap would have the bits of the blocks from 32,768 on
none_in_second : get_or (bitmap_bytes 1 three_of_nine) 0 0 ≡ 0
unfolding bitmap_bytes bits_bytes bits_number
none_in_second = refl
