-- How an image of version 1 becomes one of version 2.
use Rattle.std.specs.Prelude.{ℕ, ◌==◌, max, List, [], ◌∷◌, if◌then◌else◌, Result, Ok, Err}
use Rattle.lis_ports.specs.Bytes.{put}
use Rattle.lis_ports.specs.Meaning.{Meaning}
use Rattle.lis_ports.specs.Runs.{Always, IsSettled}
use Rattle.lis_journal.specs.Record.{recovered}
use Rattle.lis_model.specs.declared.limits.Limits.{Limits}
use Rattle.lis_model.specs.State.{State}
use Rattle.lis_store.specs.Stands.{Stands}
use Rattle.lis_open.specs.declared.mounting.OpenFault.{OpenFault}
use Rattle.lis_open.specs.Opens.{HasSuper, IsLongEnough, OpenRefused, FaultLeft}
use Rattle.lis_kept.specs.Image.{image_layout}

-- the same state in an image of version 2, or of version 3 if it was of that
abbrev pub upgraded : State → State
upgraded s = record s { limits = record s.limits { version = max 2 s.limits.version } }

-- The image represented a state, and every image represents it in version 2, or in version 3 if it was of that. Or it is refused as opening refuses it.
abbrev pub UpgradeEnded : {T : Type 0} → Meaning → Meaning → Result T OpenFault → Type 0
UpgradeEnded old new (Ok done) = IsLongEnough old × ((s : State) × Stands old.bytes s × Always new (λ image. Stands image (upgraded s)))
UpgradeEnded old new (Err fault) = OpenRefused old new fault

-- what becomes of the bytes of an image with these limits: in version 1 the gate is put, and in versions 2 and 3 all bytes stay
abbrev pub with_gate : Limits → List ℕ → List ℕ
with_gate limits bytes = if limits.version == 1 then put bytes 24 (2 ∷ []) else bytes

-- The disk reads as what opening leaves with the gate put, and a crash leaves just this.
abbrev pub GateLeft : Meaning → Meaning → Type 0
GateLeft old new = (limits : Limits) × HasSuper limits old.bytes × IsSettled new (with_gate limits (recovered (image_layout limits) old.bytes))

-- what is left; if the image is refused, this is what opening leaves
abbrev pub UpgradeLeft : {T : Type 0} → Meaning → Meaning → Result T OpenFault → Type 0
UpgradeLeft old new (Ok done) = GateLeft old new
UpgradeLeft old new (Err fault) = FaultLeft old new fault
