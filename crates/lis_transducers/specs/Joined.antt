-- Joined lines: a backslash before a line end joins lines, before comments are seen (C). A line end is LF, or CR and LF.
use Rattle.std.specs.Prelude.{ℕ, ◌==◌, ◌&&◌, if◌then◌else◌, List, [], ◌∷◌}

-- the bytes without these backslashes and line ends
unfoldable pub joined : List ℕ → List ℕ
joined [] = []
joined (a ∷ []) = a ∷ []
joined (a ∷ b ∷ []) = if (a == 92) && (b == 10) then [] else a ∷ b ∷ []
joined (a ∷ b ∷ c ∷ bytes) =
    if (a == 92) && (b == 10) then joined (c ∷ bytes)
    else if (a == 92) && (b == 13) && (c == 10) then joined bytes
    else a ∷ joined (b ∷ c ∷ bytes)
