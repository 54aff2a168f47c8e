-- The length of bytes that are padded with zeros, and bytes that are not empty.
use Rattle.std.proofs.Common.{◌≡◌, ℕ, ◌-◌, ◌<◌, ◌≤◌, true, List, [], ◌∷◌, length, replicate, refl, arith, length-append}
use Rattle.std.proofs.lemmas.List.{length-replicate}
use Rattle.lis_words.specs.Bytes.{padded, is_some_bytes}

pub length_padded : (n : ℕ) (bytes : List ℕ) → length bytes ≤ n → length (padded n bytes) ≡ n
length_padded n bytes few = omega (arith, length-append bytes (replicate (n - length bytes) 0), length-replicate {A = ℕ} (n - length bytes) 0)

pub some_bytes : (bytes : List ℕ) → 0 < length bytes → is_some_bytes bytes ≡ true
some_bytes [] some = absurd (omega arith)
some_bytes (b ∷ bytes) some = refl
