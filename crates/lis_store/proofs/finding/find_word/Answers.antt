use Rattle.lis_store.proofs.Common.{◌∙◌, ◌∷◌, [], sym, subst, arith}
use Rattle.lis_store.specs.Finding.{FindsWords}
use Rattle.lis_store.proofs.Found.{number_few, finds_known, finds_unknown}
use Rattle.lis_store.proofs.finding.find_word.Goals as goal

pub meet-requires : goal.meet-requires
meet-requires c = omega (arith, number_few c.args.metadata.now c.requires c.args.word.now c.args.search.now c.in-Some.number (sym c.number_of.ensures ∙ c.in-Some.is))

pub returns-in-Some : goal.returns-in-Some
returns-in-Some c =
    let k = c.args.metadata.now in
    let old = c.args.search.now in
    subst (λ found. FindsWords k (c.args.word.now ∷ []) old found) (sym c.meet.ensures)
    (finds_known k c.requires c.args.word.now old c.in-Some.number (sym c.number_of.ensures ∙ c.in-Some.is))

pub returns-in_default : goal.returns-in_default
returns-in_default c = finds_unknown c.args.metadata.now c.requires c.args.word.now c.args.search.now (sym c.number_of.ensures ∙ c.in_default.is)
