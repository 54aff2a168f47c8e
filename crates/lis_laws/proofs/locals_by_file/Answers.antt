use Rattle.lis_model.specs.Table.{table}
use Rattle.lis_laws.proofs.Tables.{table_sound}
use Rattle.lis_laws.proofs.Locals.{local_by_file}
use Rattle.lis_laws.proofs.locals_by_file.Goals as goal

pub returns : goal.returns
returns c s formed place file = local_by_file (table s) (table_sound s formed) place file
