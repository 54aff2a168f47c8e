use Rattle.std.proofs.Common.{sym}
use Rattle.lis_bits.proofs.OneRow.{flags_many}
use Rattle.lis_bits.proofs.flags.Flags.len.Goals as goal

pub returns : goal.returns
returns c = sym (flags_many c.self.inside.bits c.self.inside.words.items c.args.self.now c.self.view_is)
