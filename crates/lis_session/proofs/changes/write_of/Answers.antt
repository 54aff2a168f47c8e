use Rattle.std.proofs.Common.{refl, sym, ◌∙◌, arith}
use Rattle.lis_model.proofs.Ranges.{limit_le}
use Rattle.lis_session.proofs.changes.write_of.Goals as goal

pub returns-in-Mkdir-clause-written : goal.returns-in-Mkdir-clause-written
returns-in-Mkdir-clause-written c = rw c.in-Mkdir.is (λ now. refl)

pub returns-in-Rmdir-clause-written : goal.returns-in-Rmdir-clause-written
returns-in-Rmdir-clause-written c = rw c.in-Rmdir.is (λ now. refl)

pub returns-in-Axiom-clause-written : goal.returns-in-Axiom-clause-written
returns-in-Axiom-clause-written c = rw c.in-Axiom.is (λ now. refl)

pub returns-in-Unaxiom-clause-written : goal.returns-in-Unaxiom-clause-written
returns-in-Unaxiom-clause-written c = rw c.in-Unaxiom.is (λ now. refl)

pub returns-in-Create-clause-written : goal.returns-in-Create-clause-written
returns-in-Create-clause-written c = rw c.in-Create.is (λ now. sym (c.create_is_add.ensures now c.in-Create.name c.in-Create.tags))

pub returns-in-Add-clause-written : goal.returns-in-Add-clause-written
returns-in-Add-clause-written c = rw (c.in-Add.is, c.bytes-bytes.ensures.bytes, c.size-size.ensures) (λ now. refl)

pub returns-in-Write-clause-written : goal.returns-in-Write-clause-written
returns-in-Write-clause-written c = rw (c.in-Write.is, c.bytes-bytes.ensures.bytes, c.size-size.ensures) (λ now. refl)

pub returns-in-Mv-clause-written : goal.returns-in-Mv-clause-written
returns-in-Mv-clause-written c = rw c.in-Mv.is (λ now. refl)

pub returns-in-Rename-clause-written : goal.returns-in-Rename-clause-written
returns-in-Rename-clause-written c = rw c.in-Rename.is (λ now. refl)

pub returns-in-Rm-clause-written : goal.returns-in-Rm-clause-written
returns-in-Rm-clause-written c = rw c.in-Rm.is (λ now. refl)

pub returns-in-Add-clause-whole : goal.returns-in-Add-clause-whole
returns-in-Add-clause-whole c = λ limits few.
    c.bytes-bytes.ensures.all (omega (arith, few, limit_le limits, c.size-size.ensures)) ∙ sym c.size-size.ensures

pub returns-in-Write-clause-whole : goal.returns-in-Write-clause-whole
returns-in-Write-clause-whole c = λ limits few.
    c.bytes-bytes.ensures.all (omega (arith, few, limit_le limits, c.size-size.ensures)) ∙ sym c.size-size.ensures
