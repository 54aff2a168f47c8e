-- The index of a key in a sorted list.
use Rattle.std.specs.Prelude.{Bool, false, List, [], ◌∷◌}
use Rattle.std.specs.declared.cmp.Ordering.{Ordering}
use Rattle.std.specs.Ordering.{is_eq}

-- whether the list begins with the key
abbrev pub first_is : {K : Type 0} → (K → K → Ordering) → K → List K → Bool
first_is cmp k [] = false
first_is cmp k (x ∷ xs) = is_eq (cmp k x)
