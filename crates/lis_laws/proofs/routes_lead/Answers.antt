use Rattle.lis_graph.proofs.Members.{among_from_contains}
use Rattle.lis_model.specs.Table.{table}
use Rattle.lis_model.specs.Listing.{extension}
use Rattle.lis_laws.proofs.Tables.{table_sound}
use Rattle.lis_laws.proofs.Routes.{route_reaches, route_only}
use Rattle.lis_laws.proofs.routes_lead.Goals as goal

pub returns : goal.returns
returns c s formed place file there =
    let m = among_from_contains (extension (table s) place) file there in
    let reached = route_reaches (table s) (table_sound s formed) place file m in
    record { is_route = reached.is_route; only = route_only (table s) (table_sound s formed) place file m; leads = reached.leads; shorter = reached.shorter }
