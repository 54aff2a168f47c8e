use Rattle.std.proofs.Common.{ap, sym}
use Rattle.lis_model.specs.Sets.{with_words}
use Rattle.lis_table.proofs.NoTests.{no_weaker_tests}
use Rattle.lis_table.proofs.links.insert_weaker.Goals as goal

pub returns-in_default : goal.returns-in_default
returns-in_default c = ap (with_words c.args.words.now.items) (sym (no_weaker_tests c.args.declared.now c.args.word.now (sym c.in_default.ensures)))
