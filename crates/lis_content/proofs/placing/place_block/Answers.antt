use Rattle.lis_content.proofs.Laying.{one_block}
use Rattle.lis_content.proofs.placing.place_block.Goals as goal

pub returns-clause-ended : goal.returns-clause-ended
returns-clause-ended g c =
    one_block c.args.base c.args.bytes.now _ c.args.map.now c.place_row.new.map c.args.journal.now c.place_row.new.journal c.in_ok-row.row.first c.in_ok-row.row.count c.requires.few c.fill.ensures c.in_ok-row.ensures.ended
