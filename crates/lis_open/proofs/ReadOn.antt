-- A run that only reads, after one that ended well.
use Rattle.std.proofs.Common.{◌≡◌, ◌∙◌, Result, Ok, Err, arith}
use Rattle.lis_ports.specs.Meaning.{Meaning}
use Rattle.lis_ports.specs.Calls.{OnlyReads, DiskFaultEnds, ReadsDisk}
use Rattle.lis_ports.proofs.Ending.{ends_then}
use Rattle.lis_ports.proofs.OnlyReading.{reads_then}

-- a run that read and had no fault
pub record HasRead (a b : Meaning) : Type 0 where
  pub reads : OnlyReads a b
  pub faults : b.disk_faults ≡ a.disk_faults
  pub first_fault : DiskFaultEnds a b

pub read_well : {T E : Type 0} {a b : Meaning} {done : T} → ReadsDisk {T = T} {E = E} a b (Ok done) → HasRead a b
read_well is = record { reads = is.reads; faults = is.cause.stays; first_fault = is.first_fault }

pub read_then : {a b c : Meaning} → HasRead a b → HasRead b c → HasRead a c
read_then ab bc = record { reads = reads_then ab.reads bc.reads; faults = bc.faults ∙ ab.faults; first_fault = ends_then ab.first_fault ab.faults bc.first_fault }

-- whatever it returns if it succeeds
pub reads_disk : {T E : Type 0} {a b : Meaning} (done : T) → HasRead a b → ReadsDisk {T = T} {E = E} a b (Ok done)
reads_disk done is = record { reads = is.reads; cause = record { later = omega (arith, is.faults); stays = is.faults; rose = tt }; first_fault = is.first_fault }

-- and if the later run fails, its failure is passed on
pub fails_then : {T U E F : Type 0} {a b c : Meaning} {fault : E} (other : F) → HasRead a b → ReadsDisk {T = T} {E = E} b c (Err fault) → ReadsDisk {T = U} {E = F} a c (Err other)
fails_then other ab bc = record {
  reads = reads_then ab.reads bc.reads;
  cause = record { later = omega (arith, ab.faults, bc.cause.later); stays = tt; rose = omega (arith, ab.faults, bc.cause.rose) };
  first_fault = ends_then ab.first_fault ab.faults bc.first_fault;
}
