use Rattle.std.proofs.Common.{sym, subst, ◌∙◌, ◌↔◌, IsTrue}
use Rattle.lis_taxonomy.specs.Search.{is_found}
use Rattle.lis_taxonomy.specs.Taxonomy.{Entails}
use Rattle.lis_taxonomy.proofs.Seen.{just_entailed}
use Rattle.lis_taxonomy.proofs.taxonomy.Taxonomy.entails.Goals as goal

pub returns : goal.returns
returns c =
    let m = c.self.inside in
    let searched = rw c.deref.ensures.value at c.run.ensures in
    let ups = just_entailed m.edges.items m.props c.run.new.self c.args.p searched c.args.q in
    let seen = subst (λ t. IsTrue (is_found c.run.new.self c.args.q) ↔ Entails t c.args.p c.args.q) c.self.view_is ups in
    (λ h. seen.0 (sym c.has.ensures ∙ h), λ e. c.has.ensures ∙ seen.1 e)
