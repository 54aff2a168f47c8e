-- The files of a state, by what a store keeps.
use Rattle.std.proofs.Common.{◌≡◌, ◌⊎◌, inl, inr, ℕ, ◌<◌, ◌≤◌, min, Option, Some, None, IsSomeAnd, option_to_list, List, [], ◌∷◌, ◌++◌, length, map, take, drop, slice_get, codes, decimal, refl, sym, ap, ap₂, ◌∙◌, append_assoc, arith}
use Rattle.std.specs.List.{flat_map}
use Rattle.std.specs.Option.{option_map}
use Rattle.std.proofs.lemmas.Bool.{cases_lt}
use Rattle.std.proofs.lemmas.List.{append-nil, take_all, drop_all}
use Rattle.std.proofs.lemmas.Option.{same_Some, slice_get-map}
use Rattle.lis_ports.specs.Meaning.{Meaning}
use Rattle.lis_catalog.specs.Catalog.{Filed, slot_of, rec_at}
use Rattle.lis_fields.specs.Records.{FileRecord}
use Rattle.lis_eval.specs.View.{name_and_slot}
use Rattle.lis_laws.proofs.Named.{file_of_name}
use Rattle.lis_model.specs.declared.limits.Limits.{Limits}
use Rattle.lis_model.specs.State.{State}
use Rattle.lis_model.specs.Changes.{file_of}
use Rattle.lis_model.specs.Replies.{line}
use Rattle.lis_kept.specs.Metadata.{Metadata}
use Rattle.lis_kept.specs.Telling.{words_told, file_told}
use Rattle.lis_kept.proofs.Filing.{filed_slot, filed_rec}
use Rattle.lis_kept.proofs.Known.{among_place}
use Rattle.lis_replay.specs.Dump.{words_line, mv_lines, file_lines}
use Rattle.lis_store.specs.Seen.{placed}
use Rattle.lis_store.specs.Stored.{Stored, IsSound, StoreFits}
use Rattle.lis_store.proofs.ToldBy.{told_fits}
use Rattle.lis_store.proofs.Described.{tags_told}
use Rattle.lis_store.proofs.FilesHere.{file_seen as entry_seen}
use Rattle.lis_store.proofs.StoreSays.{limits_told, files_told, file_in_slot}
use Rattle.lis_session.specs.Item.{FitsAt}
use Rattle.lis_session.proofs.Blocks.{size_is}

-- ---- the n-th file
abbrev file_seen : Metadata → ℕ → Option (List ℕ × ℕ)
file_seen k n = option_map name_and_slot (slice_get (map (placed k) k.catalog.entries) n)

-- what is seen of it is what is kept
seen_filed : (k : Metadata) (n : ℕ) (o : Option Filed) → slice_get k.catalog.entries n ≡ o → file_seen k n ≡ option_map (λ (f : Filed). (f.rec.name, f.slot)) o
seen_filed k n o is = entry_seen k k.catalog.entries n ∙ ap (option_map (λ (f : Filed). (f.rec.name, f.slot))) is

filed : (k : Metadata) (n : ℕ) (name : List ℕ) (slot : ℕ) → file_seen k n ≡ Some (name, slot) → (f : Filed) × (slice_get k.catalog.entries n ≡ Some f) × (f.rec.name ≡ name) × (f.slot ≡ slot)
filed k n name slot seen = by (slice_get k.catalog.entries n) refl
  where
    by : (o : Option Filed) → slice_get k.catalog.entries n ≡ o → (f : Filed) × (slice_get k.catalog.entries n ≡ Some f) × (f.rec.name ≡ name) × (f.slot ≡ slot)
    by None is = let none : ◌≡◌ {A = Option (List ℕ × ℕ)} (Some (name, slot)) None = sym seen ∙ seen_filed k n None is in absurd cc
    by (Some f) is =
        let same : (f.rec.name, f.slot) ≡ (name, slot) = same_Some (f.rec.name, f.slot) (name, slot) (sym (seen_filed k n (Some f) is) ∙ seen) in
        (f, is, ap (λ (x : List ℕ × ℕ). x.0) same, ap (λ (x : List ℕ × ℕ). x.1) same)

not_filed : (k : Metadata) (n : ℕ) → file_seen k n ≡ None → slice_get k.catalog.entries n ≡ None
not_filed k n seen = by (slice_get k.catalog.entries n) refl
  where
    by : (o : Option Filed) → slice_get k.catalog.entries n ≡ o → slice_get k.catalog.entries n ≡ None
    by None is = is
    by (Some f) is = let none : ◌≡◌ {A = Option (List ℕ × ℕ)} None (Some (f.rec.name, f.slot)) = sym seen ∙ seen_filed k n (Some f) is in absurd cc

pub slot_seen : (k : Stored) → IsSound k → (n : ℕ) (name : List ℕ) (slot : ℕ) → file_seen k.metadata n ≡ Some (name, slot) → slot_of k.metadata.catalog name ≡ Some slot
slot_seen k sound n name slot seen =
    let f = filed k.metadata n name slot seen in
    ap (slot_of k.metadata.catalog) (sym f.2)
    ∙ (filed_slot k.metadata.catalog sound.metadata.catalog f.0 (among_place k.metadata.catalog.entries n f.0 f.1) ∙ ap Some f.3)

module _ {k : Stored} {m : Meaning} (sound : IsSound k) (state : State) (fitting : FitsAt (StoreFits k m) m state) where
  fits : StoreFits k m state
  fits = fitting.own

  nth_told : (n : ℕ) → slice_get state.files n ≡ option_map (file_told k.metadata.limits k.metadata.dict fits.kept) (slice_get k.metadata.catalog.entries n)
  nth_told n =
      ap (λ files. slice_get files n) (sym (files_told k.metadata fits.kept state sound.metadata sound.free fits.tells))
      ∙ slice_get-map (file_told k.metadata.limits k.metadata.dict fits.kept) k.metadata.catalog.entries n

  pub few_files : length state.files ≤ k.metadata.limits.files
  few_files = omega (arith, fits.tells.formed.few_files, ap (λ (l : Limits). l.files) (limits_told k.metadata fits.kept state sound.metadata sound.free fits.tells))

  -- there is none at that index
  pub no_file_at : (n : ℕ) → file_seen k.metadata n ≡ None → [] ≡ flat_map file_lines (option_to_list (slice_get state.files n))
  no_file_at n seen = sym (ap (λ o. flat_map file_lines (option_to_list o)) (nth_told n ∙ ap (option_map (file_told k.metadata.limits k.metadata.dict fits.kept)) (not_filed k.metadata n seen)))

  -- it is the file of its name
  pub file_at : (n : ℕ) (name : List ℕ) (slot : ℕ) → file_seen k.metadata n ≡ Some (name, slot) → file_lines (file_of state.files name) ≡ flat_map file_lines (option_to_list (slice_get state.files n))
  file_at n name slot seen =
      let f = filed k.metadata n name slot seen in
      let file = file_told k.metadata.limits k.metadata.dict fits.kept f.0 in
      let there : slice_get state.files n ≡ Some file = nth_told n ∙ ap (option_map (file_told k.metadata.limits k.metadata.dict fits.kept)) f.1 in
      let among = among_place k.metadata.catalog.entries n f.0 f.1 in
      let here = filed_slot k.metadata.catalog sound.metadata.catalog f.0 among in
      let same : file_of state.files name ≡ file =
      ap (file_of state.files) (sym f.2)
      ∙ file_in_slot k.metadata fits.kept state sound.metadata sound.free fits.tells (f.0).rec.name (f.0).slot (f.0).rec here (filed_rec k.metadata.catalog sound.metadata.catalog f.0 among) in
      ap file_lines same ∙ (sym (append-nil (file_lines file)) ∙ sym (ap (λ o. flat_map file_lines (option_to_list o)) there))

  -- ---- its lines
  module _ (name : List ℕ) (slot : ℕ) (is_slot : slot_of k.metadata.catalog name ≡ Some slot) where
    assigned_is : (words : List (List ℕ)) → IsSomeAnd (rec_at k.metadata.catalog slot) (λ (rec : FileRecord). words ≡ words_told k.metadata.dict rec.tags) → words ≡ (file_of state.files name).assigned
    assigned_is words told = by (rec_at k.metadata.catalog slot) (tags_told k state sound (told_fits k m state sound fits) name slot is_slot) told
      where
        by : (o : Option FileRecord) → IsSomeAnd o (λ (rec : FileRecord). words_told k.metadata.dict rec.tags ≡ (file_of state.files name).assigned)
            → IsSomeAnd o (λ (rec : FileRecord). words ≡ words_told k.metadata.dict rec.tags) → words ≡ (file_of state.files name).assigned
        by None none also = absurd none
        by (Some rec) is same = same ∙ is

    -- the line that adds it, its bytes, and what follows them
    pub lines_are : (size len count : ℕ) (words seen first others : List (List ℕ)) → IsSomeAnd (rec_at k.metadata.catalog slot) (λ (rec : FileRecord). size ≡ rec.size)
        → IsSomeAnd (rec_at k.metadata.catalog slot) (λ (rec : FileRecord). words ≡ words_told k.metadata.dict rec.tags) → seen ≡ words → len ≡ length words → count ≡ min len 8 → first ≡ take count seen → others ≡ drop count seen
        → words_line (codes "add" ∷ name ∷ decimal size ∷ first) ++ ((file_of state.files name).bytes ++ 10 ∷ mv_lines name others) ≡ file_lines (file_of state.files name)
    lines_are size len count words seen first others is_size are_words seen_is len_is count_is first_is others_are =
        let file = file_of state.files name in
        let assigned = assigned_is words are_words in
        let whole : size ≡ length file.bytes = sym (size_is name slot size sound fits is_slot is_size) in
        let front : first ≡ take 8 file.assigned = first_is ∙ (ap (take count) seen_is ∙ take_front count words (count_is ∙ ap (λ n. min n 8) len_is) ∙ ap (take 8) assigned) in
        let back : others ≡ drop 8 file.assigned = others_are ∙ (ap (drop count) seen_is ∙ drop_front count words (count_is ∙ ap (λ n. min n 8) len_is) ∙ ap (drop 8) assigned) in
        let named : name ≡ file.name = sym (file_of_name state.files name) in
        let added : words_line (codes "add" ∷ name ∷ decimal size ∷ first) ≡ words_line (codes "add" ∷ file.name ∷ decimal (length file.bytes) ∷ take 8 file.assigned) =
        ap (λ n. words_line (codes "add" ∷ n ∷ decimal size ∷ first)) named ∙ ap₂ (λ n ws. words_line (codes "add" ∷ file.name ∷ decimal n ∷ ws)) whole front in
        let moved : mv_lines name others ≡ mv_lines file.name (drop 8 file.assigned) = ap₂ mv_lines named back in
        ap₂ (λ text more. text ++ (file.bytes ++ 10 ∷ more)) added moved
        ∙ parted (words_line (codes "add" ∷ file.name ∷ decimal (length file.bytes) ∷ take 8 file.assigned)) file.bytes (mv_lines file.name (drop 8 file.assigned))
      where
        parted : (front bytes behind : List ℕ) → front ++ (bytes ++ 10 ∷ behind) ≡ (front ++ line bytes) ++ behind
        parted front bytes behind = sym (append_assoc front (line bytes) behind ∙ ap (λ text. front ++ text) (append_assoc bytes (10 ∷ []) behind))

        counted : (count len : ℕ) → count ≡ min len 8 → (count ≡ 8) ⊎ ((count ≡ len) × (len ≤ 8))
        counted count len is = by (cases_lt 8 len)
          where
            by : (8 < len) ⊎ (len ≤ 8) → (count ≡ 8) ⊎ ((count ≡ len) × (len ≤ 8))
            by (inl more) = inl (omega (arith, is, more))
            by (inr le) = inr (omega (arith, is, le), le)

        take_front : (count : ℕ) (words : List (List ℕ)) → count ≡ min (length words) 8 → take count words ≡ take 8 words
        take_front count words is = by (counted count (length words) is)
          where
            by : (count ≡ 8) ⊎ ((count ≡ length words) × (length words ≤ 8)) → take count words ≡ take 8 words
            by (inl eight) = ap (λ n. take n words) eight
            by (inr all) = take_all count words (omega (arith, all.0)) ∙ sym (take_all 8 words all.1)

        drop_front : (count : ℕ) (words : List (List ℕ)) → count ≡ min (length words) 8 → drop count words ≡ drop 8 words
        drop_front count words is = by (counted count (length words) is)
          where
            by : (count ≡ 8) ⊎ ((count ≡ length words) × (length words ≤ 8)) → drop count words ≡ drop 8 words
            by (inl eight) = ap (λ n. drop n words) eight
            by (inr all) = drop_all count words (omega (arith, all.0)) ∙ sym (drop_all 8 words all.1)
