use Rattle.lis_csource.specs.Runs.{run_text}
use Rattle.lis_csource.specs.declared.runs.Run.TheVariants.{Path}
use Rattle.lis_csource.proofs.PathLemmas.{last_whole}
use Rattle.lis_csource.proofs.words.last_part.Goals as goal

pub loop-byte-init : goal.loop-byte-init
loop-byte-init c = last_whole (run_text (Path c.args.close) c.args.path.now)
