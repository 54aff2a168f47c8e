use Rattle.std.proofs.Common.{◌≡◌, refl, rules}
use Rattle.lis_bits.proofs.rows.Rows.copy.Goals as goal

pub returns : goal.returns
returns c = c.join.ensures (λ _ y. y) (λ a b word a_fits b_fits is bit lt. let given : word ≡ b = search rules in rw given (refl))
