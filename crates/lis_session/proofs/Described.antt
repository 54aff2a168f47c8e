-- The words that a file has, and the route to it.
use Rattle.std.proofs.Common.{◌≡◌, ℕ, ◌+◌, Bool, Option, Some, None, is_some, option_to_list, List, [], ◌∷◌, ◌++◌, filter, drop, slice_get, refl, sym, ap, ◌∙◌, arith, ◌<◌}
use Rattle.std.specs.List.{flat_map}
use Rattle.std.proofs.lemmas.Cmp.{nat_list_cmp_total}
use Rattle.std.proofs.lemmas.Grind.{flat_map-append}
use Rattle.std.proofs.lemmas.List.{drop_more, drop_all, map-append}
use Rattle.std.proofs.lemmas.List.Elements.{filter-append}
use Rattle.std.proofs.lemmas.Option.{slice_get_within, get_or_from_slice_get}
use Rattle.lis_graph.proofs.Members.{among_filter, filter_among, among_map, map_among}
use Rattle.lis_graph.proofs.Sets.{sorted_from_rising}
use Rattle.lis_ports.specs.Meaning.{Meaning}
use Rattle.lis_dict.proofs.Laws.{among_from_word, word_from_among, number_from_among, number_below}
use Rattle.lis_catalog.specs.Catalog.{slot_of}
use Rattle.lis_ext.specs.Ext.{has, set_of as numbers_at}
use Rattle.lis_words.specs.Words.{word_cmp, same_word}
use Rattle.lis_model.specs.Replies.{body_line}
use Rattle.lis_model.specs.State.{description}
use Rattle.lis_model.specs.Changes.{file_of}
use Rattle.lis_model.specs.Table.{Table, Entry, table}
use Rattle.lis_model.specs.Listing.{extension}
use Rattle.lis_model.specs.Route.{route}
use Rattle.lis_model.specs.Step.{Situation, entry_at}
use Rattle.lis_eval.proofs.Members.{past_end}
use Rattle.lis_incr.specs.Ways.{IsWay, file_here}
use Rattle.lis_kept.specs.Metadata.{Metadata}
use Rattle.lis_kept.specs.Sound.{AreSound}
use Rattle.lis_kept.specs.Telling.{words_told}
use Rattle.lis_kept.proofs.Filing.{rising_kept}
use Rattle.lis_kept.proofs.Known.{among_place}
use Rattle.lis_kept.proofs.Numbered.{Numbers, numbers_are}
use Rattle.lis_store.specs.Stored.{Stored, IsSound, StoreFits}
use Rattle.lis_store.specs.Seen.{table_of}
use Rattle.lis_store.specs.Judging.{is_among}
use Rattle.lis_store.proofs.ToldBy.{told_fits}
use Rattle.lis_store.proofs.StoreSays.{any_is_found, table_told}
use Rattle.lis_store.proofs.Described.{description_told, entry_found}
use Rattle.lis_session.specs.Described.{words_had}

-- ---- a list from an index on
pub split_at : {X : Type 0} (xs : List X) (n : ℕ) → drop n xs ≡ option_to_list (slice_get xs n) ++ drop (n + 1) xs
split_at xs n = by (slice_get xs n) refl
  where
    by : (o : Option _) → slice_get xs n ≡ o → drop n xs ≡ option_to_list o ++ drop (n + 1) xs
    by None none = let past = past_end xs n none in drop_all n xs past ∙ sym (drop_all (n + 1) xs (omega (arith, past)))
    by (Some x) at = drop_more xs n x (slice_get_within xs n x at) ∙ ap (λ y. y ∷ drop (n + 1) xs) (get_or_from_slice_get xs n x x at)

pub drop_none : {X : Type 0} (xs : List X) → drop 0 xs ≡ xs
drop_none [] = refl
drop_none (x ∷ xs) = refl

module _ (k : Metadata) (slot : ℕ) where
  abbrev Numbered : Type 0
  Numbered = List ℕ × ℕ

  had_of_both : (xs ys : List Numbered) → flat_map (body_line 112) (words_had k slot (xs ++ ys)) ≡ flat_map (body_line 112) (words_had k slot xs) ++ flat_map (body_line 112) (words_had k slot ys)
  had_of_both xs ys = simp (filter-append, map-append, flat_map-append)

  -- ---- the word at one index
  abbrev pub text_at : ℕ → List ℕ
  text_at n = flat_map (body_line 112) (words_had k slot (option_to_list (slice_get k.dict.entries n)))

  -- the number of a word is one of the rows
  pub number_in : (n : ℕ) (word : List ℕ) (number : ℕ) → slice_get k.dict.entries n ≡ Some (word, number) → AreSound k → number < k.ext.props
  number_in n word number at sound =
      omega (arith, number_below k.dict sound.dict word number (number_from_among k.dict sound.dict word number (among_place k.dict.entries n (word, number) at)), sound.numbers, sound.rows)

  -- ---- the words from an index on
  abbrev pub text_from : ℕ → List ℕ
  text_from n = flat_map (body_line 112) (words_had k slot (drop n k.dict.entries))

  pub text_start : text_from 0 ≡ flat_map (body_line 112) (words_had k slot k.dict.entries)
  text_start = ap (λ ws. flat_map (body_line 112) (words_had k slot ws)) (drop_none k.dict.entries)

  pub text_next : (n : ℕ) → text_from n ≡ text_at n ++ text_from (n + 1)
  text_next n =
      ap (λ ws. flat_map (body_line 112) (words_had k slot ws)) (split_at k.dict.entries n)
      ∙ had_of_both (option_to_list (slice_get k.dict.entries n)) (drop (n + 1) k.dict.entries)

  -- ---- the words are those that have the numbers of the slot
  module _ (sound : AreSound k) where
    abbrev is_had : Numbered → Bool
    is_had w = has k.ext w.1 slot

    had_numbers : Numbers k.dict (λ n. has k.ext n slot) (words_had k slot k.dict.entries)
    had_numbers = record {
      numbered = λ w m.
          let e = among_map (λ (x : Numbered). x.0) (filter is_had k.dict.entries) w m in
          let kept = among_filter is_had k.dict.entries e.0 e.1 in
          ((e.0).1, word_from_among k.dict sound.dict (e.0).0 (e.0).1 kept.0 ∙ ap Some e.2, kept.1);
      worded = λ n w is has_it.
          map_among (λ (x : Numbered). x.0) (filter is_had k.dict.entries) (w, n) (filter_among is_had k.dict.entries (w, n) (among_from_word k.dict w n is) has_it);
    }

    pub had_told : words_had k slot k.dict.entries ≡ words_told k.dict (numbers_at k.ext slot)
    had_told =
        sym (numbers_are k sound (numbers_at k.ext slot) (words_had k slot k.dict.entries)
        (sorted_from_rising word_cmp nat_list_cmp_total (words_had k slot k.dict.entries) (rising_kept (λ (x : Numbered). x.0) is_had word_cmp k.dict.entries sound.dict.rising)) had_numbers)

module _ {k : Stored} {m : Meaning} (now : Situation) (name : List ℕ) (sound : IsSound k) (fits : StoreFits k m now.state) where
  -- ---- the description of a file
  pub had_described : (slot : ℕ) → slot_of k.metadata.catalog name ≡ Some slot → words_had k.metadata slot k.metadata.dict.entries ≡ description now.state (file_of now.state.files name)
  had_described slot is = had_told k.metadata slot sound.metadata ∙ description_told k now.state sound (told_fits k m now.state sound fits) name slot is

  -- ---- the route to a file
  pub way_here : is_among k.metadata now.place name ≡ is_some (file_here (table_of k.metadata) now.place name)
  way_here = any_is_found (λ (e : Entry). same_word e.name name) (extension (table_of k.metadata) now.place)

  pub way_is : (words : List (List ℕ)) → IsWay (table_of k.metadata) now.place name words → words ≡ route (table now.state) now.place (entry_at now.state name)
  way_is words is =
      let told = table_told k now.state sound (told_fits k m now.state sound fits) in
      let entry = entry_found k now.state sound (told_fits k m now.state sound fits) now.place name is.file (ap (λ (t : Table). file_here t now.place name) (sym told) ∙ is.here) in
      is.steps ∙ (ap (λ (t : Table). route t now.place is.file) told ∙ ap (route (table now.state) now.place) entry)
