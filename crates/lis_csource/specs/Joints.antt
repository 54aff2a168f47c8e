-- The joint that bytes begin with: a backslash and a line end.
use Rattle.std.specs.Prelude.{ℕ, ◌==◌, ◌&&◌, if◌then◌else◌, List, [], ◌∷◌}

-- how many bytes the joint has that the bytes begin with; 0 if they begin with none
abbrev pub joint_len : List ℕ → ℕ
joint_len [] = 0
joint_len (a ∷ []) = 0
joint_len (a ∷ b ∷ []) = if (a == 92) && (b == 10) then 2 else 0
joint_len (a ∷ b ∷ c ∷ bytes) =
    if (a == 92) && (b == 10) then 2
    else if (a == 92) && (b == 13) && (c == 10) then 3
    else 0
