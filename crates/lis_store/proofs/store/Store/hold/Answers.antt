use Rattle.lis_store.proofs.store.Store.hold.Goals as goal

pub returns-in-Declare-clause-holds : goal.returns-in-Declare-clause-holds
returns-in-Declare-clause-holds g c = rw c.in-Declare.is c.declare.ensures.holds

pub returns-in-Undeclare-clause-holds : goal.returns-in-Undeclare-clause-holds
returns-in-Undeclare-clause-holds g c = rw c.in-Undeclare.is (λ base s held. c.undeclare.ensures.holds base _ held)

pub returns-in-Axiom-clause-holds : goal.returns-in-Axiom-clause-holds
returns-in-Axiom-clause-holds g c = rw c.in-Axiom.is (λ base s held. c.axiom.ensures.holds base _ held)

pub returns-in-Unaxiom-clause-holds : goal.returns-in-Unaxiom-clause-holds
returns-in-Unaxiom-clause-holds g c = rw c.in-Unaxiom.is (λ base s held. c.unaxiom.ensures.holds base _ held)

pub returns-in-Add-clause-holds : goal.returns-in-Add-clause-holds
returns-in-Add-clause-holds g c = rw c.in-Add.is c.add.ensures.holds

pub returns-in-Write-clause-holds : goal.returns-in-Write-clause-holds
returns-in-Write-clause-holds g c = rw c.in-Write.is c.write.ensures.holds

pub returns-in-Remove-clause-holds : goal.returns-in-Remove-clause-holds
returns-in-Remove-clause-holds g c = rw c.in-Remove.is c.remove.ensures.holds

pub returns-in-Retag-clause-holds : goal.returns-in-Retag-clause-holds
returns-in-Retag-clause-holds g c = rw c.in-Retag.is c.retag.ensures.holds

pub returns-in-Rename-clause-holds : goal.returns-in-Rename-clause-holds
returns-in-Rename-clause-holds g c = rw c.in-Rename.is c.rename.ensures.holds

pub returns-in-Declare-clause-untouched : goal.returns-in-Declare-clause-untouched
returns-in-Declare-clause-untouched g c = rw c.in-Declare.is c.declare.ensures.ends.untouched

pub returns-in-Undeclare-clause-untouched : goal.returns-in-Undeclare-clause-untouched
returns-in-Undeclare-clause-untouched g c = rw c.in-Undeclare.is c.undeclare.ensures.ends.untouched

pub returns-in-Axiom-clause-untouched : goal.returns-in-Axiom-clause-untouched
returns-in-Axiom-clause-untouched g c = rw c.in-Axiom.is c.axiom.ensures.ends.untouched

pub returns-in-Unaxiom-clause-untouched : goal.returns-in-Unaxiom-clause-untouched
returns-in-Unaxiom-clause-untouched g c = rw c.in-Unaxiom.is c.unaxiom.ensures.ends.untouched

pub returns-in-Add-clause-untouched : goal.returns-in-Add-clause-untouched
returns-in-Add-clause-untouched g c = rw c.in-Add.is c.add.ensures.ends.untouched

pub returns-in-Write-clause-untouched : goal.returns-in-Write-clause-untouched
returns-in-Write-clause-untouched g c = rw c.in-Write.is c.write.ensures.ends.untouched

pub returns-in-Remove-clause-untouched : goal.returns-in-Remove-clause-untouched
returns-in-Remove-clause-untouched g c = rw c.in-Remove.is c.remove.ensures.ends.untouched

pub returns-in-Retag-clause-untouched : goal.returns-in-Retag-clause-untouched
returns-in-Retag-clause-untouched g c = rw c.in-Retag.is c.retag.ensures.ends.untouched

pub returns-in-Rename-clause-untouched : goal.returns-in-Rename-clause-untouched
returns-in-Rename-clause-untouched g c = rw c.in-Rename.is c.rename.ensures.ends.untouched

pub add-requires-clause-whole : goal.add-requires-clause-whole
add-requires-clause-whole g c = rw c.in-Add.is at c.requires.whole

pub write-requires-clause-whole : goal.write-requires-clause-whole
write-requires-clause-whole g c = rw c.in-Write.is at c.requires.whole
