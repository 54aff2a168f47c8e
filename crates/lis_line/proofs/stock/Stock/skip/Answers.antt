use Rattle.std.proofs.Common.{◌-◌, ◌≤◌, length, drop, ap, ◌∙◌, arith}
use Rattle.std.proofs.lemmas.List.{length-take}
use Rattle.lis_line.specs.Stock.{Stocked}
use Rattle.lis_line.proofs.Bytes.{rest_ahead}
use Rattle.lis_line.proofs.stock.Stock.skip.Goals as goal

pub returns-clause-ahead : goal.returns-clause-ahead
returns-clause-ahead c =
    let inside = c.self.inside in
    let within : c.args.count ≤ inside.end - inside.start = omega (arith, c.requires, ap (λ (s : Stocked). length s.ahead) c.self.view_is, length-take (inside.end - inside.start) (drop inside.start inside.buf)) in
    rest_ahead inside.start c.args.count inside.end inside.buf within ∙ ap (λ (s : Stocked). drop c.args.count s.ahead) c.self.view_is
