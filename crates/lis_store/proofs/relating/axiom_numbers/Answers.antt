use Rattle.lis_store.proofs.Common.{◌∙◌, sym}
use Rattle.lis_store.proofs.Unaxiomed.{no_left, no_right, found_told, found_at}
use Rattle.lis_store.proofs.relating.axiom_numbers.Goals as goal

pub returns-in_default-clause-there : goal.returns-in_default-clause-there
returns-in_default-clause-there c = no_left c.args.metadata.now c.requires.sound c.args.left.now c.args.right.now (sym c.number_of.ensures ∙ c.in_default.is)

pub returns-in_default-number_of-clause-there : goal.returns-in_default-number_of-clause-there
returns-in_default-number_of-clause-there c =
    no_right c.args.metadata.now c.requires.sound c.args.left.now c.args.right.now (sym c.number_of-2.ensures ∙ c.in_default-number_of.is)

pub returns-then-not-has_axiom-clause-there : goal.returns-then-not-has_axiom-clause-there
returns-then-not-has_axiom-clause-there c =
    sym (found_told c.args.metadata.now c.requires.sound c.args.left.now c.args.right.now c.in-Some.from c.in-Some-number_of.to
    (sym c.number_of.ensures ∙ c.in-Some.is) (sym c.number_of-2.ensures ∙ c.in-Some-number_of.is) ∙ (sym c.has_axiom.ensures ∙ c.if-not-has_axiom.true))

pub returns-clause-there : goal.returns-clause-there
returns-clause-there c =
    sym (found_told c.args.metadata.now c.requires.sound c.args.left.now c.args.right.now c.in-Some.from c.in-Some-number_of.to
    (sym c.number_of.ensures ∙ c.in-Some.is) (sym c.number_of-2.ensures ∙ c.in-Some-number_of.is) ∙ (sym c.has_axiom.ensures ∙ c.if-not-has_axiom.false))

pub returns-clause-numbers : goal.returns-clause-numbers
returns-clause-numbers c =
    found_at c.args.metadata.now c.requires.sound c.args.left.now c.args.right.now c.in-Some.from c.in-Some-number_of.to
    (sym c.number_of.ensures ∙ c.in-Some.is) (sym c.number_of-2.ensures ∙ c.in-Some-number_of.is) (sym c.has_axiom.ensures ∙ c.if-not-has_axiom.false)
