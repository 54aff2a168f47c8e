-- Parts of a dump worked out by the definitions alone, by what a store keeps.
use Rattle.std.proofs.Common.{◌≡◌, ℕ, true, false, Option, Some, None, List, [], ◌∷◌, codes, refl}
use Rattle.std.specs.List.{find, flat_map}
use Rattle.lis_fields.specs.declared.slots.AxiomSlot.TheVariants.{Free as FreeAxiom, Pair}
use Rattle.lis_model.specs.declared.limits.Limits.{Limits}
use Rattle.lis_kept.specs.Behind.{rights_of, is_behind}
use Rattle.lis_kept.specs.Metadata.{Metadata}
use Rattle.lis_kept.specs.Telling.{axioms_of}
use Rattle.lis_store.specs.Stored.{empty_metadata}
use Rattle.lis_dump.specs.Showing.{declaring_line, entry_axioms}

abbrev small : Limits
small = record { files = 64; props = 64; blocks = 8; version = 2 }

-- five words, the valued one not declared, and three axioms in their slots
abbrev kept : Metadata
kept = record (empty_metadata small 0) {
  dict = record { props = 64; entries = (codes "band", 4) ∷ (codes "music", 2) ∷ (codes "rock", 0) ∷ (codes "year:", 1) ∷ (codes "year:1971", 3) ∷ [] };
  declared = true ∷ true ∷ true ∷ false ∷ true ∷ [];
  axioms = Pair 3 0 ∷ FreeAxiom ∷ Pair 0 2 ∷ Pair 0 4 ∷ [];
}

words_shown : flat_map (declaring_line kept) kept.dict.entries ≡ codes "mkdir band\nmkdir music\nmkdir rock\nmkdir year:\n"
words_shown = refl

axioms_shown : flat_map (entry_axioms kept) kept.dict.entries ≡ codes "axiom rock band\naxiom rock music\naxiom year:1971 rock\n"
axioms_shown = refl

-- how a loop gets the axioms of a word
abbrev behind : Option (List ℕ) → Option (List ℕ)
behind last = find (is_behind last) (rights_of (axioms_of kept) (codes "rock"))

first_axiom : behind None ≡ Some (codes "band")
first_axiom = refl

next_axiom : behind (Some (codes "band")) ≡ Some (codes "music")
next_axiom = refl

no_axiom : behind (Some (codes "music")) ≡ None
no_axiom = refl
