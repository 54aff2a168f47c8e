use Rattle.std.proofs.Common.{◌++◌, ap, refl}
use Rattle.lis_model.specs.Listing.{increments, locals}
use Rattle.lis_model.specs.Replies.{ok_line, listing_lines}
use Rattle.lis_model.specs.Step.{Situation, ls}
use Rattle.lis_model.specs.Table.{Table}
use Rattle.lis_store.proofs.ToldBy.{told_fits}
use Rattle.lis_store.proofs.StoreSays.{table_told}
use Rattle.lis_session.proofs.Saying.{shows_item}
use Rattle.lis_session.proofs.listing.ls.Goals as goal

pub returns-clause-carries : goal.returns-clause-carries
returns-clause-carries g c = λ state fitting.
    let now : Situation = record { state = state; place = c.args.place.now } in
    let told = table_told c.args.store.now state c.requires.sound (told_fits c.args.store.now (g.T.Disk.meaning c.args.station.now) state c.requires.sound fitting.own) in
    let is = ap (λ (t : Table). listing_lines (increments t c.args.place.now) (locals t c.args.place.now) ++ ok_line) told in
    shows_item (ls now) c.args.place.now fitting (rw is at c.answer_listing.ensures.answers) refl
