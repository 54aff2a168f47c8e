use Rattle.lis_laws.proofs.Items.{all_formed, whole_formed, items_formed}
use Rattle.lis_laws.proofs.items_are_formed.Goals as goal

pub returns : goal.returns
returns c bytes = record { all = all_formed bytes; whole = whole_formed bytes; of_script = items_formed bytes }
