-- Index blocks, worked by the definitions alone.
use Rattle.std.proofs.Common.{◌≡◌, ℕ, List, [], ◌∷◌, take, refl}
use Rattle.lis_content.specs.Large.{slot_count, index_bytes, index_count, number_at, numbers_in, number_of}

-- how many numbers a slot has: up to 16 those of the content's blocks, and then those of index blocks
sixteen_blocks : slot_count 65536 ≡ 16
sixteen_blocks = refl

one_byte_more : slot_count 65537 ≡ 1
one_byte_more = refl

one_index_block : slot_count 4194304 ≡ 1
one_index_block = refl

two_index_blocks : slot_count 4194305 ≡ 2
two_index_blocks = refl

largest_file : slot_count 67108864 ≡ 16
largest_file = refl

-- how many numbers the first and the second index block have
first_is_full : index_count 4194305 0 ≡ 1024
first_is_full = refl

second_has_the_rest : index_count 4194305 1 ≡ 1
second_has_the_rest = refl

-- numbers of two bytes in version 2, and of four in version 3, the lowest byte first
spelled_in_2 : take 6 (index_bytes 2 (7 ∷ 300 ∷ [])) ≡ 7 ∷ 0 ∷ 44 ∷ 1 ∷ 0 ∷ 0 ∷ []
spelled_in_2 = refl

spelled_in_3 : take 10 (index_bytes 3 (7 ∷ 70000 ∷ [])) ≡ 7 ∷ 0 ∷ 0 ∷ 0 ∷ 112 ∷ 17 ∷ 1 ∷ 0 ∷ 0 ∷ 0 ∷ []
spelled_in_3 = refl

read_in_3 : numbers_in 3 2 (7 ∷ 0 ∷ 0 ∷ 0 ∷ 112 ∷ 17 ∷ 1 ∷ 0 ∷ []) ≡ 7 ∷ 70000 ∷ []
unfolding numbers_in
read_in_3 = refl

-- the number of block 1,024, counted from 0, is the first of the second index block, which is data block 9
block_1024 : (at : ℕ → List ℕ) → number_of 3 1113 (5 ∷ 9 ∷ []) at 1024 ≡ number_at 3 (at 1122) 0
block_1024 at = refl
