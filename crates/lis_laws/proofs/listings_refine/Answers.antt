use Rattle.lis_laws.proofs.Listings.{listing_refines}
use Rattle.lis_laws.proofs.listings_refine.Goals as goal

pub returns : goal.returns
returns c s formed place = listing_refines s formed place
