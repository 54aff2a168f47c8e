use Rattle.lis_bits.proofs.Bits.{none_next_shifted, next_shifted}
use Rattle.lis_bits.proofs.words.next_in.Goals as goal

pub returns-then-rest-eq0 : goal.returns-then-rest-eq0
returns-then-rest-eq0 c = none_next_shifted c.args.word c.args.start c.requires c.ranges.word.fits c.if-rest-eq0.true

pub returns-else-rest-eq0 : goal.returns-else-rest-eq0
returns-else-rest-eq0 c = next_shifted c.args.word c.args.start c.requires c.ranges.word.fits c.if-rest-eq0.false
