use Rattle.lis_store.proofs.Common.{◌≤◌, ℕ, Option, IsSome, IfSome, length, sym, subst, rec_at, blocks_taken, FileRecord}
use Rattle.lis_store.specs.Contents.{ContentRenewed}
use Rattle.lis_store.specs.Instead.{free_for}
use Rattle.lis_store.specs.ReplacingIn.{record_in}
use Rattle.lis_store.proofs.FreeAgain.{rec_some}
use Rattle.lis_store.proofs.Renewed.{put_alone}
use Rattle.lis_store.proofs.memory.Memory.put_anew.Goals as goal

pub put_content-requires-clause-enough : goal.put_content-requires-clause-enough
put_content-requires-clause-enough g c =
    let p = c.args.self.now.metadata in
    subst (λ (o : Option ℕ). blocks_taken p.limits.version (length c.args.payload.now) ≤ free_for p (record_in p o)) c.in-None.is c.requires.enough

pub returns-in-None-clause-renewed : goal.returns-in-None-clause-renewed
returns-in-None-clause-renewed g c =
    let p = c.args.self.now.metadata in
    let m = g.D.Disk.meaning c.args.disk.now in
    let after = g.D.Disk.meaning c.put_content.new.disk in
    let R : Option ℕ → Type 0 = λ o. ContentRenewed c.args.payload.now (record_in p o) p c.put_content.new.self.metadata c.args.self.now.journal c.put_content.new.self.journal m after c.put_content.result in
    subst R (sym c.in-None.is) (put_alone p c.put_content.new.self.metadata c.args.payload.now c.args.self.now.journal c.put_content.new.self.journal m after c.put_content.result c.requires.sound c.put_content.ensures.put)

pub put_instead-requires-clause-there : goal.put_instead-requires-clause-there
put_instead-requires-clause-there g c = subst (λ (o : Option ℕ). IfSome o (λ slot. IsSome (rec_at c.args.self.now.metadata.catalog slot))) c.in-Some.is c.requires.there

pub put_instead-requires-clause-enough : goal.put_instead-requires-clause-enough
put_instead-requires-clause-enough g c = λ rec there.
    let p = c.args.self.now.metadata in
    let E : Option FileRecord → Type 0 = λ gone. blocks_taken p.limits.version (length c.args.payload.now) ≤ free_for p gone in
    subst E there (subst (λ (o : Option ℕ). E (record_in p o)) c.in-Some.is c.requires.enough)

pub returns-in-Some-clause-renewed : goal.returns-in-Some-clause-renewed
returns-in-Some-clause-renewed g c =
    let p = c.args.self.now.metadata in
    let m = g.D.Disk.meaning c.args.disk.now in
    let after = g.D.Disk.meaning c.put_instead.new.disk in
    let R : Option FileRecord → Type 0 = λ gone. ContentRenewed c.args.payload.now gone p c.put_instead.new.self.metadata c.args.self.now.journal c.put_instead.new.self.journal m after c.put_instead.result in
    let found = rec_some (rec_at p.catalog c.in-Some.slot) (subst (λ (o : Option ℕ). IfSome o (λ slot. IsSome (rec_at p.catalog slot))) c.in-Some.is c.requires.there) in
    subst (λ (o : Option ℕ). R (record_in p o)) (sym c.in-Some.is) (subst R (sym found.1) (c.put_instead.ensures.renewed found.0 found.1))
