use Rattle.std.proofs.Common.{◌+◌, ◌++◌, ap, sym, ◌∙◌, append-nil}
use Rattle.lis_grow.specs.Grow.{draw_of, file_lines}
use Rattle.lis_grow.specs.Coming.{coming, groups_from, axioms_from, all_files_from, removals_from}
use Rattle.lis_grow.proofs.Comings.{groups_next, groups_done, axioms_next, axioms_done, files_next, files_done, removals_next, removals_done}
use Rattle.lis_grow.proofs.phase.next_step.Goals as goal

pub returns-in-Groups-clause-bytes : goal.returns-in-Groups-clause-bytes
returns-in-Groups-clause-bytes c =
    ap (coming c.args.x) c.in-Groups.is ∙ groups_next c.args.x c.in-Groups.i c.if-i-lt16.true
    ∙ ap (λ xs. xs ++ groups_from c.args.x (c.in-Groups.i + 1)) (sym c.mkdir_line.ensures)

pub returns-in-Groups-2-clause-bytes : goal.returns-in-Groups-2-clause-bytes
returns-in-Groups-2-clause-bytes c =
    ap (coming c.args.x) c.in-Groups.is ∙ groups_done c.args.x c.in-Groups.i c.if-i-lt16.false
    ∙ ap (λ xs. xs ++ axioms_from c.args.x 1) (sym c.year_line.ensures)

pub returns-in-Axioms-clause-bytes : goal.returns-in-Axioms-clause-bytes
returns-in-Axioms-clause-bytes c =
    ap (coming c.args.x) c.in-Axioms.is ∙ axioms_next c.args.x c.in-Axioms.i c.if-i-lt16-2.true
    ∙ ap (λ xs. xs ++ axioms_from c.args.x (c.in-Axioms.i + 1)) (sym c.axiom_line.ensures)

pub returns-in-Axioms-2-clause-bytes : goal.returns-in-Axioms-2-clause-bytes
returns-in-Axioms-2-clause-bytes c =
    ap (coming c.args.x) c.in-Axioms.is ∙ axioms_done c.args.x c.in-Axioms.i c.if-i-lt16-2.false
    ∙ ap (λ xs. xs ++ all_files_from c.args.x 0) (sym c.new.ensures)

pub returns-in-Files-clause-bytes : goal.returns-in-Files-clause-bytes
returns-in-Files-clause-bytes c =
    let i = c.in-Files.i in
    ap (coming c.args.x) c.in-Files.is ∙ files_next c.args.x i c.if-i-lt1000.true
    ∙ ap (λ x. file_lines i (draw_of x) ++ all_files_from x (i + 1)) (sym c.drawn-x.ensures)
    ∙ ap (λ xs. xs ++ all_files_from c.drawn-x.result (i + 1)) (sym c.file_lines.ensures)

pub returns-in-Files-2-clause-bytes : goal.returns-in-Files-2-clause-bytes
returns-in-Files-2-clause-bytes c =
    ap (coming c.args.x) c.in-Files.is ∙ files_done c.args.x c.in-Files.i c.if-i-lt1000.false
    ∙ ap (λ xs. xs ++ removals_from 0) (sym c.new-in-Files-2.ensures)

pub returns-in-Removals-clause-bytes : goal.returns-in-Removals-clause-bytes
returns-in-Removals-clause-bytes c =
    ap (coming c.args.x) c.in-Removals.is ∙ removals_next c.in-Removals.i c.if-i-lt1000-2.true
    ∙ ap (λ xs. xs ++ removals_from (c.in-Removals.i + 1)) (sym c.rm_lines.ensures)

pub returns-in-Removals-2-clause-bytes : goal.returns-in-Removals-2-clause-bytes
returns-in-Removals-2-clause-bytes c =
    ap (coming c.args.x) c.in-Removals.is ∙ removals_done c.in-Removals.i c.if-i-lt1000-2.false
    ∙ sym c.last_lines.ensures ∙ sym (append-nil c.last_lines.result)
