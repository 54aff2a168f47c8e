-- Runs that leave the disk as it is, one after another.
use Rattle.std.proofs.Common.{◌≡◌, ℕ, List, Result, IsTrue, sym, ◌∙◌}
use Rattle.lis_ports.specs.Meaning.{Meaning}
use Rattle.lis_ports.specs.Calls.{OnlyReads}
use Rattle.lis_ports.specs.Since.{IsShowRun}
use Rattle.lis_ports.proofs.Moments.{adds_none, adds_then, adds_weaken}
use Rattle.lis_ports.proofs.OnlyReading.{unchanged_none}
use Rattle.lis_session.specs.Showing.{DiskStays}

pub stays_none : (m : Meaning) → DiskStays m m
stays_none m = record { same = unchanged_none m; moments = adds_none m (λ image bytes. m.images image) }

pub stays_then : {a b c : Meaning} → c.is_recorded ≡ b.is_recorded → DiskStays a b → DiskStays b c → DiskStays a c
stays_then {a} recorded ab bc = record {
  same = record {
    bytes = bc.same.bytes ∙ ab.same.bytes;
    images = record {
      only = λ image is. ab.same.images.only image (bc.same.images.only image is);
      each = λ told image is. bc.same.images.each told image (ab.same.images.each (sym recorded ∙ told) image is);
    };
  };
  moments = adds_then ab.moments (adds_weaken (λ image bytes. a.images image) bc.moments (λ image bytes there. ab.same.images.only image there));
}

-- a run that only reads, and one that shows
pub reads_stay : {old new : Meaning} → OnlyReads old new → IsTrue old.is_honest → DiskStays old new
reads_stay {old} reads honest = record {
  same = reads.same honest;
  moments = adds_weaken (λ image bytes. old.images image) (reads.moments honest).adds (λ image bytes had. had.0);
}

pub shows_stay : {T E : Type 0} {old new : Meaning} {piece : List ℕ} {result : Result T E} → IsShowRun old new piece result → IsTrue old.is_honest → DiskStays old new
shows_stay {old = old} run honest = record {
  same = run.call.same honest;
  moments = adds_weaken (λ image bytes. old.images image) (run.moments honest) (λ image bytes since. since.2.0);
}
