use Rattle.std.proofs.Common.{◌≡◌, List, ℕ, IfSome, Bor, subst}
use Rattle.lis_journal.specs.Images.{look}
use Rattle.lis_journal.specs.Journal.{Held}
use Rattle.lis_journal.proofs.Fitting.{content_some}
use Rattle.lis_journal.proofs.journal.Journal.content.Goals as goal

pub returns-in-None-clause-some : goal.returns-in-None-clause-some
returns-in-None-clause-some c =
    let n = c.args.n in
    subst (λ (h : Held). IfSome c.get-in-None.result (λ bytes. (old : List ℕ) → look h.staged n (look h.records.latest n old) ≡ bytes.now)) c.self.view_is
    (content_some c.get-in-None.result (λ (b : Bor (List ℕ)). b.now) c.self.inside.stage.entries c.self.inside.records.records.latest n c.in-None.ensures.none c.get-in-None.ensures.some)
