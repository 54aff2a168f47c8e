use Rattle.lis_bits.proofs.Joined.{seen_new}
use Rattle.lis_bits.proofs.rows.Rows.new.Goals as goal

pub returns : goal.returns
returns c = seen_new c.in_ok-region.region c.take.new.self c.in-Some.frame c.args.rows c.args.bits c.in_ok-region.ensures c.in-Some.ensures.taken c.in-Some.ensures.new_number c.requires.whole_words
