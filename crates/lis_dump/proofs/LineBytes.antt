-- The bytes of a line, put together piece by piece.
use Rattle.std.proofs.Common.{◌≡◌, ℕ, List, [], ◌∷◌, ◌++◌, codes, ap, sym, ◌∙◌, append_assoc}
use Rattle.std.specs.List.{flat_map}
use Rattle.std.proofs.lemmas.List.{append-nil}
use Rattle.lis_replay.specs.Dump.{mv_lines}

pub mv_bytes : (name first : List ℕ) (others : List (List ℕ))
    → (((codes "\nmv" ++ 32 ∷ name) ++ 32 ∷ first) ++ flat_map (λ word. 47 ∷ word) others) ++ 10 ∷ [] ≡ 10 ∷ mv_lines name (first ∷ others)
mv_bytes name first others =
    let path = 32 ∷ first ++ flat_map (λ (word : List ℕ). 47 ∷ word) others in
    ap (λ text. text ++ 10 ∷ [])
    (append_assoc (codes "\nmv" ++ 32 ∷ name) (32 ∷ first) (flat_map (λ word. 47 ∷ word) others)
    ∙ (append_assoc (codes "\nmv") (32 ∷ name) path
    ∙ ap (λ text. codes "\nmv" ++ (32 ∷ name ++ text)) (sym (append-nil path))))
