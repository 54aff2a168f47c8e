-- Signs, and a stack of them as a list, the last first.
use Rattle.std.specs.Prelude.{Bool, true, false, List, [], ◌∷◌}
use Rattle.lis_formula.specs.declared.signs.Sign.{Sign}
use Rattle.lis_formula.specs.declared.signs.Sign.TheVariants.{Mark, Paren, Bar, Slash}

abbrev pub same_sign : Sign → Sign → Bool
same_sign Mark Mark = true
same_sign Mark Paren = false
same_sign Mark Bar = false
same_sign Mark Slash = false
same_sign Paren Mark = false
same_sign Paren Paren = true
same_sign Paren Bar = false
same_sign Paren Slash = false
same_sign Bar Mark = false
same_sign Bar Paren = false
same_sign Bar Bar = true
same_sign Bar Slash = false
same_sign Slash Mark = false
same_sign Slash Paren = false
same_sign Slash Bar = false
same_sign Slash Slash = true

abbrev pub is_top : Sign → List Sign → Bool
is_top sign [] = false
is_top sign (top ∷ signs) = same_sign top sign

abbrev pub without_top : List Sign → List Sign
without_top [] = []
without_top (top ∷ signs) = signs

abbrev pub is_none_left : List Sign → Bool
is_none_left [] = true
is_none_left (top ∷ signs) = false
