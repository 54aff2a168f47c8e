-- A change that is made and committed leaves nothing held back.
use Rattle.std.proofs.Common.{◌≡◌, ◌∙◌, [], true, Result, Ok, Err, OnOk, ap}
use Rattle.lis_store.specs.declared.change_fault.ChangeFault.{ChangeFault}
use Rattle.lis_store.specs.declared.change_fault.ChangeFault.TheVariants.{Refused, Disk}
use Rattle.lis_store.specs.Changes.{ChangeLeft}
use Rattle.lis_store.specs.Stored.{Stored}
use Rattle.lis_session.specs.Settled.{StaysSettled}

pub settled_applied : (old new : Stored) (result : Result (Unit {0}) ChangeFault) → ChangeLeft old new result → OnOk result (new.journal.staged ≡ []) → StaysSettled old new
settled_applied old new (Ok u) left settled = λ held whole. settled
settled_applied old new (Err (Refused refusal)) left settled = λ held whole. ap (λ (k : Stored). k.journal.staged) left ∙ held
settled_applied old new (Err Disk) left settled = λ held whole. absurd (let e : new.is_broken ≡ true = left in cc)
