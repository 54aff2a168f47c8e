use Rattle.lis_store.proofs.Common.{subst, TellsLinks}
use Rattle.lis_store.specs.Stored.{Stored, IsSound}
use Rattle.lis_store.proofs.Viewing.{tells_entailment}
use Rattle.lis_store.proofs.store.StoreView.taxonomy.Goals as goal

pub returns : goal.returns
returns c =
    let P : Stored → Type 0 = λ k. IsSound k in
    let sound = subst P c.self.view_is c.self.invariant in
    let Q : Stored → Type 0 = λ k. TellsLinks k.metadata c.taxonomy.result.now in
    tells_entailment c.args.self.now.metadata sound.metadata c.taxonomy.result.now (subst Q c.self.view_is c.taxonomy.ensures)
