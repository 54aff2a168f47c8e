use Rattle.lis_model.specs.State.{empty_state}
use Rattle.lis_shell.proofs.laws.try_and_run_agree.Goals as goal

pub returns : goal.returns
returns g c limits bytes typed typed_after plain plain_after piped piped_after image image_after left tried entry ran = record {
  by_try = (tried.tries bytes left).1.2;
  by_run = (ran.runs (empty_state limits) bytes entry).ended.carried.shown;
}
