-- Runs that only read, in sequence.
use Rattle.std.proofs.Common.{refl, sym, ◌∙◌}
use Rattle.lis_ports.specs.Meaning.{Meaning}
use Rattle.lis_ports.specs.Runs.{IsDiskRun}
use Rattle.lis_ports.specs.Calls.{IsUnchanged, OnlyReads}
use Rattle.lis_ports.proofs.Moments.{run_none, run_then, leaves_none, leaves_weaken, leaves_then}

pub unchanged_none : (m : Meaning) → IsUnchanged m m
unchanged_none m = record {
  bytes = refl;
  images = record { only = λ image is. is; each = λ told image is. is };
}

pub unchanged_then : {a b c : Meaning} → IsDiskRun b c → IsUnchanged a b → IsUnchanged b c → IsUnchanged a c
unchanged_then {a} {b} {c} run ab bc = record {
  bytes = bc.bytes ∙ ab.bytes;
  images = record {
    only = λ image is. ab.images.only image (bc.images.only image is);
    each = λ told image is. bc.images.each told image (ab.images.each (sym run.recorded ∙ told) image is);
  };
}

pub reads_none : (m : Meaning) → OnlyReads m m
reads_none m = record { run = run_none m; same = λ honest. unchanged_none m; moments = λ honest. leaves_none m m.images }

pub reads_then : {a b c : Meaning} → OnlyReads a b → OnlyReads b c → OnlyReads a c
reads_then {a} ab bc = record {
  run = run_then ab.run bc.run;
  same = λ honest. unchanged_then bc.run (ab.same honest) (bc.same (ab.run.honest ∙ honest));
  moments = λ honest. leaves_then (ab.moments honest) (leaves_weaken a.images (bc.moments (ab.run.honest ∙ honest)) (ab.same honest).images.only);
}
