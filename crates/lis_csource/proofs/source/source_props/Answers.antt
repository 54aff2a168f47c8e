use Rattle.std.proofs.Common.{refl, arith}
use Rattle.lis_transducers.specs.Source.{source_words}
use Rattle.lis_csource.proofs.source.source_props.Goals as goal

pub loop-found-init : goal.loop-found-init
unfolding source_words
loop-found-init c = record { words = refl; sound = tt; few = (omega arith, omega arith) }
