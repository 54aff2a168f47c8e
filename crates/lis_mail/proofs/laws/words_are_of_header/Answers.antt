use Rattle.lis_mail.proofs.HeaderLemmas.{words_are_of_header}
use Rattle.lis_mail.proofs.laws.words_are_of_header.Goals as goal

pub returns : goal.returns
returns c = words_are_of_header
