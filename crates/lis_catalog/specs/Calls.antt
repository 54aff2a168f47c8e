-- What a call does that may refuse.
use Rattle.std.specs.Prelude.{◌≡◌, ◌≢◌, ℕ, ◌<◌, length, Some, None, Result, Ok, Err, IsSome}
use Rattle.lis_fields.specs.Records.{FileRecord}
use Rattle.lis_catalog.specs.Catalog.{Catalog, slot_of, rec_at, with_filed, without_slot}
use Rattle.lis_catalog.specs.declared.catalog.CatalogFault.{CatalogFault}
use Rattle.lis_catalog.specs.declared.catalog.CatalogFault.TheVariants.{NameTaken, NoFileRoom}

-- A file is added in a slot that was free, or its name is there, or each slot has a file.
abbrev pub Adds : Catalog → FileRecord → Catalog → Result ℕ CatalogFault → Type 0
Adds old rec new (Ok n) =
    (slot_of old rec.name ≡ None) × (n < old.files) × (rec_at old n ≡ None) × (new ≡ with_filed old n rec)
Adds old rec new (Err NameTaken) = IsSome (slot_of old rec.name) × (new ≡ old)
Adds old rec new (Err NoFileRoom) = (slot_of old rec.name ≡ None) × (length old.entries ≡ old.files) × (new ≡ old)

-- a file in another slot has the name
abbrev pub HasOther : Catalog → ℕ → FileRecord → Type 0
HasOther c slot rec = (n : ℕ) × (slot_of c rec.name ≡ Some n) × (n ≢ slot)

-- The file in the slot has this record now, or a file in another slot has the name.
abbrev pub Replaces : {T : Type 0} → Catalog → ℕ → FileRecord → Catalog → Result T CatalogFault → Type 0
Replaces old slot rec new (Ok done) =
    (HasOther old slot rec → ⊥) × (new ≡ with_filed (without_slot old slot) slot rec)
Replaces old slot rec new (Err NameTaken) = HasOther old slot rec × (new ≡ old)
Replaces old slot rec new (Err NoFileRoom) = ⊥
