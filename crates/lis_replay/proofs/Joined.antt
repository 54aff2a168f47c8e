-- Texts with a byte between each and the next: their bytes, and how long they are.
use Rattle.std.proofs.Common.{◌≡◌, ℕ, ◌*◌, ◌≤◌, Bool, true, List, [], ◌∷◌, length, refl, ◌∙◌, inl, inr, length-append, arith}
use Rattle.std.specs.List.{list_all, flat_map}
use Rattle.std.proofs.lemmas.Bool.{and_from}
use Rattle.std.proofs.lemmas.List.Folds.{list_all-append}
use Rattle.lis_graph.proofs.Members.{Among}
use Rattle.lis_replay.specs.Dump.{joined_with}

abbrev pub behind : ℕ → List (List ℕ) → List ℕ
behind byte texts = flat_map (λ text. byte ∷ text) texts

-- what holds of the byte and of the bytes of each text
behind_all : (test : ℕ → Bool) (byte : ℕ) (texts : List (List ℕ)) → test byte ≡ true → ((x : List ℕ) → Among texts x → list_all test x ≡ true) → list_all test (behind byte texts) ≡ true
behind_all test byte [] here each = refl
behind_all test byte (text ∷ texts) here each =
    list_all-append test (byte ∷ text) (behind byte texts) ∙ and_from _ _ (and_from _ _ here (each text (inl refl))) (behind_all test byte texts here (λ x m. each x (inr m)))

pub joined_all : (test : ℕ → Bool) (byte : ℕ) (texts : List (List ℕ)) → test byte ≡ true → ((x : List ℕ) → Among texts x → list_all test x ≡ true) → list_all test (joined_with byte texts) ≡ true
joined_all test byte [] here each = refl
joined_all test byte (text ∷ texts) here each =
    list_all-append test text (behind byte texts) ∙ and_from _ _ (each text (inl refl)) (behind_all test byte texts here (λ x m. each x (inr m)))

pub behind_short : (byte : ℕ) (texts : List (List ℕ)) → ((x : List ℕ) → Among texts x → length x ≤ 60) → length (behind byte texts) ≤ 61 * length texts
behind_short byte [] each = omega arith
behind_short byte (text ∷ texts) each =
    omega (arith, behind_short byte texts (λ x m. each x (inr m)), length-append (byte ∷ text) (behind byte texts), each text (inl refl))

pub joined_short : (byte : ℕ) (texts : List (List ℕ)) → ((x : List ℕ) → Among texts x → length x ≤ 60) → length (joined_with byte texts) ≤ 61 * length texts
joined_short byte [] each = omega arith
joined_short byte (text ∷ texts) each =
    omega (arith, behind_short byte texts (λ x m. each x (inr m)), length-append text (behind byte texts), each text (inl refl))
