use Rattle.std.proofs.Common.{Some, true, length, ap, sym, subst, ◌∙◌}
use Rattle.std.proofs.lemmas.Bool.{eqb-true}
use Rattle.lis_grammar.specs.Machine.{with_root}
use Rattle.lis_grammar.proofs.Placed.{root_is_place}
use Rattle.lis_grammar.specs.Places.{IsPlace}
use Rattle.lis_formula.proofs.Readings.{root_reads, root_breaks, root_alone, some_bytes}
use Rattle.lis_formula.proofs.read.from_root.Goals as goal

pub returns-then-is_empty-clause-computes : goal.returns-then-is_empty-clause-computes
returns-then-is_empty-clause-computes c =
    root_alone c.args.path.now (eqb-true (length c.args.path.now) 0 (sym c.is_empty.ensures ∙ c.if-is_empty.true)) ∙ ap (λ steps. with_root true (Some steps)) (sym c.root.ensures)

pub returns-then-is_empty-clause-place : goal.returns-then-is_empty-clause-place
returns-then-is_empty-clause-place c = subst (λ steps. IsPlace steps) (sym c.root.ensures) root_is_place

pub returns-in-Ok-clause-computes : goal.returns-in-Ok-clause-computes
returns-in-Ok-clause-computes c =
    root_reads c.args.path.now c.in-Ok.kept c.whole.result (some_bytes c.args.path.now (sym c.is_empty.ensures ∙ c.if-is_empty.false)) c.in-Ok.ensures.path c.whole.ensures

pub returns-in-Err-clause-computes : goal.returns-in-Err-clause-computes
returns-in-Err-clause-computes c =
    root_breaks c.args.path.now c.in-Err.at (some_bytes c.args.path.now (sym c.is_empty.ensures ∙ c.if-is_empty.false)) c.in-Err.ensures.path
