use Rattle.std.proofs.Common.{◌≡◌, refl, rules}
use Rattle.lis_bits.proofs.across.copy_row.Goals as goal

pub returns : goal.returns
returns c = c.join_with.ensures (λ _ y. y) (λ a b word a_fits b_fits is bit lt. let given : word ≡ b = search rules in rw given (refl))
