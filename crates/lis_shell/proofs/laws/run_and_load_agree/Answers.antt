use Rattle.lis_shell.proofs.laws.run_and_load_agree.Goals as goal

pub returns : goal.returns
returns g c state bytes piped piped_after image image_after fed fed_after other other_after entry ran entry_other loaded =
    let run = (ran.runs state bytes entry).ended.carried in
    let load = (loaded.runs state bytes entry_other).ended.carried in
    record { by_run = run.shown; by_load = load.shown; behind_run = run.stands; behind_load = load.stands }
