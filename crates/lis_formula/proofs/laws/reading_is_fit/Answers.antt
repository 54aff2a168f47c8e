use Rattle.lis_grammar.proofs.Fits.{reads_fit}
use Rattle.lis_formula.proofs.laws.reading_is_fit.Goals as goal

pub returns : goal.returns
returns c = reads_fit
