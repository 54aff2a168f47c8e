use Rattle.std.proofs.Common.{◌∙◌}
use Rattle.lis_ext.proofs.Numbers.{found_by_search}
use Rattle.lis_ext.proofs.by_list.is_among.Goals as goal

pub returns : goal.returns
returns c = c.is_ok.ensures.value ∙ found_by_search c.args.numbers.now c.args.number c.binary_search.result c.requires c.binary_search.ensures.position
