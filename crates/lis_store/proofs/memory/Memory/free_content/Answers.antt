use Rattle.lis_store.proofs.memory.Memory.free_content.Goals as goal

pub returns-in-Ok-clause-given : goal.returns-in-Ok-clause-given
returns-in-Ok-clause-given g c = λ rec is.
    let given = c.in-Ok.ensures in
    (given.gives rec is, record { reads = given.disk.reads; fits = given.fits })
