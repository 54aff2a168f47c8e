use Rattle.std.proofs.Common.{subst}
use Rattle.lis_model.specs.Step.{mkdir, rmdir, add_axiom, unaxiom, create, add, write, mv, rename, rm, cd}
use Rattle.lis_plain.specs.Carries.{IsAnswered}
use Rattle.lis_plain.proofs.plain.Plain.carry_out.Goals as goal

pub returns-in-Mkdir-clause-step : goal.returns-in-Mkdir-clause-step
returns-in-Mkdir-clause-step g c = rw c.in-Mkdir.is (c.end_answer.ensures.step (mkdir c.args.self.now c.in-Mkdir.word) c.args.self.now c.mkdir.new.self c.mkdir.ensures)

pub returns-in-Rmdir-clause-step : goal.returns-in-Rmdir-clause-step
returns-in-Rmdir-clause-step g c = rw c.in-Rmdir.is (c.end_answer-in-Rmdir.ensures.step (rmdir c.args.self.now c.in-Rmdir.word) c.args.self.now c.rmdir.new.self c.rmdir.ensures)

pub returns-in-Axiom-clause-step : goal.returns-in-Axiom-clause-step
returns-in-Axiom-clause-step g c =
    let now = c.args.self.now in
    rw c.in-Axiom.is (c.end_answer-in-Axiom.ensures.step (add_axiom now (c.in-Axiom.l, c.in-Axiom.r)) now c.add_axiom.new.self
    (subst (λ pair. IsAnswered (add_axiom now pair) now c.add_axiom.new.self c.add_axiom.result) c.pair_of.ensures c.add_axiom.ensures))

pub returns-in-Unaxiom-clause-step : goal.returns-in-Unaxiom-clause-step
returns-in-Unaxiom-clause-step g c =
    let now = c.args.self.now in
    rw c.in-Unaxiom.is (c.end_answer-in-Unaxiom.ensures.step (unaxiom now (c.in-Unaxiom.l, c.in-Unaxiom.r)) now c.unaxiom.new.self
    (subst (λ pair. IsAnswered (unaxiom now pair) now c.unaxiom.new.self c.unaxiom.result) c.pair_of-in-Unaxiom.ensures c.unaxiom.ensures))

pub returns-in-Create-clause-step : goal.returns-in-Create-clause-step
returns-in-Create-clause-step g c = rw c.in-Create.is (c.end_answer-in-Create.ensures.step (create c.args.self.now c.in-Create.name c.in-Create.tags) c.args.self.now c.create.new.self c.create.ensures)

pub returns-in-Add-clause-step : goal.returns-in-Add-clause-step
returns-in-Add-clause-step g c = rw c.in-Add.is (c.end_answer-in-Add.ensures.step (add c.args.self.now c.in-Add.name c.in-Add.tags c.args.payload.now) c.args.self.now c.add.new.self c.add.ensures)

pub returns-in-Write-clause-step : goal.returns-in-Write-clause-step
returns-in-Write-clause-step g c = rw c.in-Write.is (c.end_answer-in-Write.ensures.step (write c.args.self.now c.in-Write.name c.args.payload.now) c.args.self.now c.write.new.self c.write.ensures)

pub returns-in-Mv-clause-step : goal.returns-in-Mv-clause-step
returns-in-Mv-clause-step g c = rw c.in-Mv.is (c.end_answer-in-Mv.ensures.step (mv c.args.self.now c.in-Mv.name c.in-Mv.text) c.args.self.now c.mv.new.self c.mv.ensures)

pub returns-in-Rename-clause-step : goal.returns-in-Rename-clause-step
returns-in-Rename-clause-step g c = rw c.in-Rename.is (c.end_answer-in-Rename.ensures.step (rename c.args.self.now c.in-Rename.name c.in-Rename.other) c.args.self.now c.rename.new.self c.rename.ensures)

pub returns-in-Rm-clause-step : goal.returns-in-Rm-clause-step
returns-in-Rm-clause-step g c = rw c.in-Rm.is (c.end_answer-in-Rm.ensures.step (rm c.args.self.now c.in-Rm.name) c.args.self.now c.rm.new.self c.rm.ensures)

pub returns-in-Cd-clause-step : goal.returns-in-Cd-clause-step
returns-in-Cd-clause-step g c = rw c.in-Cd.is (c.end_answer-in-Cd.ensures.step (cd c.args.self.now c.in-Cd.text) c.args.self.now c.cd.new.self c.cd.ensures)
