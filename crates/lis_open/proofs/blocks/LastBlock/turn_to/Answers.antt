use Rattle.lis_open.proofs.blocks.LastBlock.turn_to.Goals as goal

pub returns-clause-recalls : goal.returns-clause-recalls
returns-clause-recalls g c = λ kept fits recalled. rw c.requires.clean at (c.in_ok-read.ensures.read kept fits)
