use Rattle.lis_kept.proofs.Common.{subst}
use Rattle.lis_kept.specs.Links.{TellsLinks}
use Rattle.lis_kept.specs.Metadata.{Metadata}
use Rattle.lis_kept.proofs.EdgesTell.{tells_links}
use Rattle.lis_kept.specs.contracts.metadata.Metadata.{the_view}
use Rattle.lis_kept.proofs.metadata.Metadata.taxonomy.Goals as goal

pub returns : goal.returns
returns c =
    let P : Metadata → Type 0 = λ k. TellsLinks k c.self.inside.taxonomy in
    subst P c.self.view_is (tells_links (the_view c.self.inside) c.self.invariant.sound.dict c.self.inside.taxonomy c.self.invariant.links)
