use Rattle.lis_store.proofs.Common.{ℕ, Option, IfSome, IsSome, sym, subst, rec_at}
use Rattle.lis_store.specs.ReplacingIn.{IsVacant}
use Rattle.lis_store.proofs.Unfiled.{vacant_left}
use Rattle.lis_store.proofs.Refiled.{vacant_free}
use Rattle.lis_store.proofs.Vacated.{rec_there}
use Rattle.lis_store.proofs.replacing.make_room.Goals as goal

pub free_slot-requires-clause-room : goal.free_slot-requires-clause-room
free_slot-requires-clause-room c = c.requires.free c.in-None.is

pub returns-in-None-clause-vacant : goal.returns-in-None-clause-vacant
returns-in-None-clause-vacant c =
    subst (λ ns. IsVacant c.free_slot.result ns c.args.metadata.now) (sym c.new.ensures)
    (vacant_free c.args.metadata.now c.free_slot.result c.requires.form c.free_slot.ensures.below c.free_slot.ensures.free (c.requires.free c.in-None.is))

pub returns-in-Some-clause-vacant : goal.returns-in-Some-clause-vacant
returns-in-Some-clause-vacant c =
    let p = c.args.metadata.now in
    let T : Option ℕ → Type 0 = λ o. IfSome o (λ slot. IsSome (rec_at p.catalog slot)) in
    let found = rec_there (rec_at p.catalog c.in-Some.slot) (subst T c.in-Some.is c.requires.there) in
    subst (λ ns. IsVacant c.in-Some.slot ns c.unfile.new.metadata) (sym c.unfile.ensures.numbers)
    (vacant_left p c.unfile.new.metadata c.in-Some.slot found.0 c.requires.form (c.unfile.ensures.vacated found.0 found.1))
