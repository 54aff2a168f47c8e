-- The last part of a path, found from its start on.
use Rattle.std.proofs.Common.{◌≡◌, ℕ, Bool, true, false, cond, ◌||◌, List, [], ◌∷◌, refl}
use Rattle.std.specs.List.{list_any}
use Rattle.lis_transducers.specs.Bytes.{is_slash}
use Rattle.lis_transducers.specs.Entries.{last_part}

-- the last part of some bytes that end with the rest, if no / is before the rest
abbrev pub last_or : List ℕ → List ℕ → List ℕ
last_or bytes rest = cond (list_any is_slash rest) (last_part rest) bytes

pub last_whole : (bytes : List ℕ) → last_or bytes bytes ≡ last_part bytes
last_whole [] = refl
last_whole (b ∷ bytes) = by (is_slash b) (list_any is_slash bytes)
  where
    by : (first more : Bool)
        → cond (first || more) (cond more (last_part bytes) (cond first bytes (b ∷ bytes))) (b ∷ bytes)
        ≡ cond more (last_part bytes) (cond first bytes (b ∷ bytes))
    by true true = refl
    by true false = refl
    by false true = refl
    by false false = refl
