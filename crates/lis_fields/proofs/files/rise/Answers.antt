use Rattle.lis_fields.proofs.Runs.{rises_whole}
use Rattle.lis_fields.proofs.files.rise.Goals as goal

pub loop-number-init : goal.loop-number-init
loop-number-init c = rises_whole c.args.numbers.now
