use Rattle.lis_open.proofs.Common.{arith, number_below}
use Rattle.lis_open.proofs.files.is_met_word.Goals as goal

pub get-requires : goal.get-requires
get-requires c = omega (arith, number_below c.args.words.now.dict c.requires.are.dict c.args.word.now c.args.number c.requires.number, c.requires.are.long)
