-- The first fault ends runs in sequence as well: what follows calls that all succeeded.
use Rattle.std.proofs.Common.{◌≡◌, Ok, Err, refl, subst, ◌∙◌, arith}
use Rattle.lis_ports.specs.Meaning.{Meaning}
use Rattle.lis_ports.specs.Calls.{HasCause, StationFaultEnds, DiskFaultEnds, IsDiskCall, UsesDisk}
use Rattle.lis_ports.proofs.Moments.{run_none, run_then}
use Rattle.std.specs.Prelude.{Result}

-- no call at all
pub ends_none : (m : Meaning) → DiskFaultEnds m m
ends_none m = record { shows = refl; ends = omega arith }

pub ends_call : {T E : Type 0} {a b : Meaning} {result : Result T E} → IsDiskCall a b result → DiskFaultEnds a b
ends_call call = record { shows = call.run.show_faults; ends = omega (arith, call.began) }

-- two runs in sequence, of which the first met no fault
pub ends_then : {a b c : Meaning} → DiskFaultEnds a b → b.disk_faults ≡ a.disk_faults → DiskFaultEnds b c → DiskFaultEnds a c
ends_then ab stays bc = record {
  shows = bc.shows ∙ ab.shows;
  ends = omega (arith, ab.ends, ab.shows, stays, bc.ends);
}

-- the same of all that holds of a run
pub uses_none : {T E : Type 0} (m : Meaning) (done : T) → UsesDisk {T = T} {E = E} m m (Ok done)
uses_none m done = record {
  run = run_none m;
  cause = record { later = omega arith; stays = refl; rose = tt };
  first_fault = ends_none m;
}

pub uses_then : {T U E F : Type 0} {a b c : Meaning} {done : T} {result : Result U F} → UsesDisk {T = T} {E = E} a b (Ok done) → UsesDisk b c result → UsesDisk a c result
uses_then {c = c} {result = result} ab bc = record {
  run = run_then ab.run bc.run;
  cause = subst (λ n. HasCause n c.disk_faults result) ab.cause.stays bc.cause;
  first_fault = ends_then ab.first_fault ab.cause.stays bc.first_fault;
}

-- whatever it returns if it succeeds
pub uses_as : {T U E F : Type 0} {a b : Meaning} {done : T} (other : U) → UsesDisk {T = T} {E = E} a b (Ok done) → UsesDisk {T = U} {E = F} a b (Ok other)
uses_as other ab = record { run = ab.run; cause = record { later = ab.cause.later; stays = ab.cause.stays; rose = tt }; first_fault = ab.first_fault }

-- and if it fails
pub fails_as : {T U E F : Type 0} {a b : Meaning} {failed : E} (other : F) → UsesDisk {T = T} {E = E} a b (Err failed) → UsesDisk {T = U} {E = F} a b (Err other)
fails_as other ab = record { run = ab.run; cause = record { later = ab.cause.later; stays = tt; rose = ab.cause.rose }; first_fault = ab.first_fault }

-- the same of a station
pub station_ends_then : (a b c : Meaning) → b.disk_faults ≡ a.disk_faults → b.show_faults ≡ a.show_faults → StationFaultEnds a b → StationFaultEnds b c → StationFaultEnds a c
station_ends_then a b c disk show ab bc = omega (arith, disk, show, ab, bc)
