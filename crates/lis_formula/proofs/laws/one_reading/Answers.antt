use Rattle.lis_grammar.proofs.Forth.{one_reading}
use Rattle.lis_formula.proofs.laws.one_reading.Goals as goal

pub returns : goal.returns
returns c = one_reading
