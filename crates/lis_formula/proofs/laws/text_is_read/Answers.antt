use Rattle.lis_grammar.proofs.Forth.{reads_complete}
use Rattle.lis_grammar.proofs.Back.{reads_sound}
use Rattle.lis_grammar.proofs.Fronts.{breaks}
use Rattle.lis_formula.proofs.laws.text_is_read.Goals as goal

pub returns-clause-steps : goal.returns-clause-steps
returns-clause-steps c = λ text rooted steps. (reads_sound text rooted steps, reads_complete text rooted steps)

pub returns-clause-broken : goal.returns-clause-broken
returns-clause-broken c = breaks
