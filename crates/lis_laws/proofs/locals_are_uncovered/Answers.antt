use Rattle.lis_model.specs.Table.{table}
use Rattle.lis_laws.proofs.Tables.{table_sound}
use Rattle.lis_laws.proofs.Locals.{locals_are}
use Rattle.lis_laws.proofs.locals_are_uncovered.Goals as goal

pub returns : goal.returns
returns c s formed place = locals_are (table s) (table_sound s formed) place
