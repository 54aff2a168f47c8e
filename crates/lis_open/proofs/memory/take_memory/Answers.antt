use Rattle.lis_open.proofs.Common.{rules}
use Rattle.lis_kept.proofs.InArea.{whole_properties}
use Rattle.lis_open.proofs.memory.take_memory.Goals as goal

pub returns-in_err-marks : goal.returns-in_err-marks
returns-in_err-marks c = search rules

pub returns-in_err-slots : goal.returns-in_err-slots
returns-in_err-slots c = search rules

pub new-requires-clause-whole_words : goal.new-requires-clause-whole_words
new-requires-clause-whole_words c = whole_properties c.args.limits.now c.requires
