-- What is held back after a call.
use Rattle.std.specs.Prelude.{◌≡◌, false, []}
use Rattle.lis_store.specs.Stored.{Stored}

-- If nothing was held back, nothing is, on any disk, unless the store is broken.
abbrev pub StaysSettled : Stored → Stored → Type 0
StaysSettled old new = old.journal.staged ≡ [] → new.is_broken ≡ false → new.journal.staged ≡ []
