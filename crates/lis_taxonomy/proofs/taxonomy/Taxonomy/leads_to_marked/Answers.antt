use Rattle.std.proofs.Common.{◌≡◌, ◌↔◌, ◌∙◌, ℕ, List, IsTrue, sym, subst, ap}
use Rattle.lis_taxonomy.specs.Inside.{ChainToMarked}
use Rattle.lis_taxonomy.specs.Taxonomy.{Taxonomy, LeadsToMarked}
use Rattle.lis_taxonomy.proofs.Ups.{marked_seen}
use Rattle.lis_taxonomy.proofs.taxonomy.Taxonomy.leads_to_marked.Goals as goal

pub returns : goal.returns
returns c =
    let m = c.self.inside in
    let wide : c.args.marks.now.bits ≡ m.props = c.requires.bits ∙ sym (ap (λ (t : Taxonomy). t.props) c.self.view_is) in
    let found = subst (λ (es : List (ℕ × ℕ)). IsTrue c.leads.result ↔ ChainToMarked es c.args.number c.args.marks.now) c.deref.ensures.value c.leads.ensures in
    let seen = marked_seen m.edges.items m.props c.args.number c.args.marks.now wide in
    subst (λ t. IsTrue c.leads.result ↔ LeadsToMarked t c.args.number c.args.marks.now) c.self.view_is (λ h. seen.0 (found.0 h), λ e. found.1 (seen.1 e))
