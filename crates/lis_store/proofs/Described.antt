-- What a store says of one file of the state.
use Rattle.lis_store.proofs.Common.{◌≡◌, ℕ, Option, Some, IsSomeAnd, List, sym, ap, ◌∙◌, subst, find, Among, contains_from_among, among_filter, Filed, slot_of, rec_at, rec_at-slot_of, numbers_at, FileRecord, same_word, Formula, State, File, description, same_word_decides, among_map, file_of, words_told}
use Rattle.lis_model.specs.Table.{Entry, entry_of, table}
use Rattle.lis_model.specs.Listing.{holds_all, extension}
use Rattle.lis_model.specs.Step.{entry_at}
use Rattle.lis_kept.proofs.Filing.{find_among}
use Rattle.lis_store.specs.Stored.{Stored, IsSound}
use Rattle.lis_store.proofs.ToldBy.{ToldBy}
use Rattle.lis_store.proofs.StoreSays.{filed_named, slot_of_file, file_in_slot}

module _ (k : Stored) (s : State) (sound : IsSound k) (fits : ToldBy k s) where
  -- the numbers in the slot of a name are those of the file's description
  pub description_told : (name : List ℕ) (slot : ℕ) → slot_of k.metadata.catalog name ≡ Some slot
      → words_told k.metadata.dict (numbers_at k.metadata.ext slot) ≡ description s (file_of s.files name)
  description_told name slot is =
      let found = rec_at-slot_of k.metadata.catalog name slot sound.metadata.catalog is in
      let f : Filed = record { slot = slot; rec = found.0 } in
      let there = (filed_named k.metadata sound.metadata name slot found.0 is found.1).0 in
      fits.tells.described f (contains_from_among k.metadata.catalog.entries f there)
      ∙ ap (description s) (sym (file_in_slot k.metadata fits.kept s sound.metadata sound.free fits.tells name slot found.0 is found.1))

  -- and the words of its record are those assigned to the file
  pub tags_told : (name : List ℕ) (slot : ℕ) → slot_of k.metadata.catalog name ≡ Some slot
      → IsSomeAnd (rec_at k.metadata.catalog slot) (λ (rec : FileRecord). words_told k.metadata.dict rec.tags ≡ (file_of s.files name).assigned)
  tags_told name slot is =
      let found = rec_at-slot_of k.metadata.catalog name slot sound.metadata.catalog is in
      let file = file_in_slot k.metadata fits.kept s sound.metadata sound.free fits.tells name slot found.0 is found.1 in
      subst (λ (o : Option FileRecord). IsSomeAnd o (λ (rec : FileRecord). words_told k.metadata.dict rec.tags ≡ (file_of s.files name).assigned)) (sym found.1)
      (ap (λ (f : File). f.assigned) (sym file))

  -- a file of the state is the one of its name
  file_named : (file : File) → Among s.files file → file_of s.files file.name ≡ file
  file_named file there =
      let at = slot_of_file k.metadata fits.kept s sound.metadata sound.free fits.tells file there in
      file_in_slot k.metadata fits.kept s sound.metadata sound.free fits.tells file.name (at.0).slot (at.0).rec at.1 at.2 ∙ at.3

  -- what a place finds under a name is that file
  pub entry_found : (place : List Formula) (name : List ℕ) (entry : Entry) → find (λ (e : Entry). same_word e.name name) (extension (table s) place) ≡ Some entry
      → entry ≡ entry_at s name
  entry_found place name entry is =
      let found = find_among (λ (e : Entry). same_word e.name name) (extension (table s) place) entry is in
      let kept = among_filter (holds_all place) (table s).files entry found.0 in
      let file = among_map (entry_of s.declared s.axioms) s.files entry kept.0 in
      let named : (file.0).name ≡ name = ap (λ (e : Entry). e.name) file.2 ∙ (same_word_decides entry.name name).0 found.1 in
      sym file.2 ∙ ap (entry_of s.declared s.axioms) (sym (file_named file.0 file.1) ∙ ap (file_of s.files) named)
