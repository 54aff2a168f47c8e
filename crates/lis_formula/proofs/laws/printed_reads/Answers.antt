use Rattle.lis_grammar.proofs.Printed.{printed_reads}
use Rattle.lis_formula.proofs.laws.printed_reads.Goals as goal

pub returns : goal.returns
returns c = λ steps place. printed_reads steps place.fit
