use Rattle.std.proofs.Common.{◌≡◌, List, [], ◌∷◌, ℕ, length, map, None, refl, sym, arith}
use Rattle.std.proofs.lemmas.List.{length-map}
use Rattle.std.specs.String.{string_bytes}
use Rattle.lis_shell.specs.Words.{limits_in}
use Rattle.lis_shell.proofs.words.limits_in.Goals as goal

-- words of another number than three limits have
no_limits : (words : List (List ℕ)) → (length words ≡ 3 → ⊥) → (length words ≡ 4 → ⊥) → limits_in words ≡ None
no_limits (a ∷ b ∷ c ∷ []) three four = absurd (three refl)
no_limits (a ∷ b ∷ c ∷ d ∷ []) three four = absurd (four refl)
no_limits words three four = refl

pub returns-in_default : goal.returns-in_default
returns-in_default c = let same = length-map c.args.words.now string_bytes in sym (no_limits (map string_bytes c.args.words.now) (λ three. omega (arith, same, three)) (λ four. omega (arith, same, four)))

pub returns-in_default-2 : goal.returns-in_default-2
returns-in_default-2 c = let same = length-map c.args.words.now string_bytes in sym (no_limits (map string_bytes c.args.words.now) (λ three. omega (arith, same, three)) (λ four. omega (arith, same, four)))
