-- The derived words of a file, and their heads, are the built-in words of its description: no other word leads to one of them.
use Rattle.std.proofs.Common.{rules}
use Rattle.lis_store.proofs.Common.{◌≡◌, ◌⊎◌, sym, ap, ◌∙◌, subst, inl, inr, refl, ℕ, suc, zero, true, false, List, ◌++◌, option_to_list, Some, length, list_all, Among, among_append, among_filter, among_flat_map, among_left, among_right, contains_from_among, filter_among, Filed, slot_of, rec_at, numbers_at, word_of, FileRecord, State, WellFormed, File, all_up, up, description, met_tests, derived_words, derived_built_in, new_file, file_of_name, is_built_in, is_plain_word, is_test, is_valued, head_bytes, plain_not_valued, entails_from_up, up_self, entailing, sorted_all_up, OwnWord, own_word, Assigned, Derived, Met, Head, Weaker, Metadata, filed_at_slot, among_word, word_among, both_ways, false_from_ne_true, Chain, flat_map_among, file_of, links, built_in_not_plain, declarable_not_valued, OwnLink, up_trans, entailed_in, all_among, all_from, link_cases, same_words, words_told, file_told, among_from_number, number_from_among, only_word}
use Rattle.lis_model.specs.State.{is_declarable}
use Rattle.lis_laws.proofs.Apart.{head_built_in, built_in_not_test, declarable_not_built_in}
use Rattle.lis_laws.proofs.Chains.{weaker_tests_are}
use Rattle.lis_laws.proofs.Leads.{chain_last, valued_leads}
use Rattle.lis_laws.proofs.Sources.{right_plain, rights_are, words_of_file, file_has, Assignable, assignable_cases, assigned_are}
use Rattle.lis_laws.proofs.Sources.Assignable.{Plain, Valued}
use Rattle.lis_store.specs.Stored.{Stored, IsSound}
use Rattle.lis_store.specs.Drafts.{AreOwnWords, own_word as kept_word, own_kept}
use Rattle.lis_store.proofs.ToldBy.{ToldBy}
use Rattle.lis_store.proofs.StoreSays.{file_in_slot, file_of_filed}

-- ---- in a state
module _ (s : State) (formed : WellFormed s) where
  abbrev D : List (List ℕ)
  D = s.declared

  abbrev A : List (List ℕ × List ℕ)
  A = s.axioms

  rights_plain : (e : List ℕ × List ℕ) → Among A e → is_plain_word e.1 ≡ true
  rights_plain e m = right_plain s e.1 (rights_are s formed e m)

  declared_apart : (w : List ℕ) → Among D w → is_built_in w ≡ false
  declared_apart w m = declarable_not_built_in w (all_among is_declarable D w formed.declared m)

  -- to a built-in word a word leads whose head it is, and no other
  leads_to_own : (p w : List ℕ) → is_built_in w ≡ true → Among (up D A p) w → (p ≡ w) ⊎ ((is_valued p ≡ true) × (head_bytes p ≡ w))
  leads_to_own p w own m = let chain = entails_from_up D A p w m in by chain.0 chain.1
    where
      last : (n : ℕ) (r : List ℕ) → Chain (links D) A n p r → OwnLink D r w ⊎ Among A (r, w) → (p ≡ w) ⊎ ((is_valued p ≡ true) × (head_bytes p ≡ w))
      last n r c (inl (Head valued same)) =
          let is = valued_leads is_plain_word (λ v h. h) A rights_plain D n p r valued c in
          inr (subst (λ v. (is_valued v ≡ true) × (head_bytes v ≡ w)) (sym is) (valued, same))
      last n r c (inl (Weaker weaker)) = absurd (both_ways (is_test w) (built_in_not_test w own) (weaker_tests_are D r w weaker).1)
      last n r c (inr edge) = absurd (both_ways (is_plain_word w) (built_in_not_plain w own) (rights_plain (r, w) edge))

      by : (n : ℕ) → Chain (links D) A n p w → (p ≡ w) ⊎ ((is_valued p ≡ true) × (head_bytes p ≡ w))
      by zero same = inl same
      by (suc n) c = let end = chain_last D A n p w c in last n end.0 end.1 (link_cases D A end.0 w end.2)

  -- a word that is declared, or whose head is declared, leads to none
  none_to_own : (p w : List ℕ) → is_built_in w ≡ true → is_built_in p ≡ false → (is_valued p ≡ true → Among D (head_bytes p)) → Among (up D A p) w → ⊥
  none_to_own p w own apart head leads = search (rules, leads_to_own, both_ways, declared_apart)

  built_in_from : (file : File) → Among s.files file → (w : List ℕ) → is_built_in w ≡ true → Among (description s file) w
      → (d : List ℕ) × Among (derived_words file.name file.bytes) d × Among (up D A d) w
  built_in_from file m w own there = let found = words_of_file s file w there in by found.0 (own_word D file found.0 found.1) found.2
    where
      assigned : (p : List ℕ) → Assignable D p → Among (up D A p) w → ⊥
      assigned p (Plain plain known) = none_to_own p w own (declared_apart p known) (λ valued. absurd (both_ways (is_valued p) (plain_not_valued p plain) valued))
      assigned p (Valued valued known) =
          none_to_own p w own (false_from_ne_true (is_built_in p) (λ h. both_ways (is_built_in (head_bytes p)) (declared_apart (head_bytes p) known) (head_built_in p valued h))) (λ _. known)

      by : (p : List ℕ) → OwnWord D file p → Among (up D A p) w → (d : List ℕ) × Among (derived_words file.name file.bytes) d × Among (up D A d) w
      by p (Assigned given) leads = absurd (assigned p (assignable_cases D p (assigned_are s formed file m p given)) leads)
      by p (Derived of) leads = (p, of, leads)
      by p (Met known met) leads =
          absurd (none_to_own p w own (declared_apart p known) (λ valued. absurd (both_ways (is_valued p) (declarable_not_valued p (all_among is_declarable D p formed.declared known)) valued)) leads)

  -- if one of the others leads to each of some words, the others lead to all that these lead to
  swapped : (words some others tests : List (List ℕ)) → ((w : List ℕ) → Among some w → (d : List ℕ) × Among others d × Among (up D A d) w)
      → (q : List ℕ) → Among (all_up D A (words ++ some ++ tests)) q → Among (all_up D A (words ++ others ++ tests)) q
  swapped words some others tests to q m = let found = entailing D A (words ++ some ++ tests) q m in by found.0 (among_append (words ++ some) tests found.0 found.1) found.2
    where
      of_all : (w : List ℕ) → Among (words ++ others) w ⊎ Among tests w → Among (up D A w) q → Among (all_up D A (words ++ others ++ tests)) q
      of_all w (inl m) = entailed_in D A (words ++ others ++ tests) w q (among_left (words ++ others) tests w m)
      of_all w (inr m) = entailed_in D A (words ++ others ++ tests) w q (among_right (words ++ others) tests w m)

      front : (w : List ℕ) → Among words w ⊎ Among some w → Among (up D A w) q → Among (all_up D A (words ++ others ++ tests)) q
      front w (inl old) leads = of_all w (inl (among_left words others w old)) leads
      front w (inr new) leads = let d = to w new in of_all d.0 (inl (among_right words others d.0 d.1)) (up_trans D A d.0 w q d.2 leads)

      by : (w : List ℕ) → Among (words ++ some) w ⊎ Among tests w → Among (up D A w) q → Among (all_up D A (words ++ others ++ tests)) q
      by w (inl m) leads = front w (among_append words some w m) leads
      by w (inr m) leads = of_all w (inr m) leads

  -- whatever words are assigned to it
  own_described : (file : File) → Among s.files file → (own : List (List ℕ)) → ((w : List ℕ) → Among own w → (is_built_in w ≡ true) × Among (description s file) w)
      → ((w : List ℕ) → is_built_in w ≡ true → Among (description s file) w → Among own w) → (words : List (List ℕ)) → AreOwnWords D A own (new_file file.name words file.bytes)
  own_described file m own are all words =
      let derived = derived_words file.name file.bytes in
      let tests = met_tests D (length file.bytes) in
      same_words (all_up D A (words ++ own ++ tests)) (all_up D A (words ++ derived ++ tests)) (sorted_all_up D A (words ++ own ++ tests)) (sorted_all_up D A (words ++ derived ++ tests))
      (swapped words own derived tests (λ w of. let h = are w of in built_in_from file m w h.0 h.1))
      (swapped words derived own tests (λ w of. (w, all w (derived_built_in file.name file.bytes w of) (file_has s file w w (Derived of) (up_self D A w)), up_self D A w)))

-- ---- in memory
pub own_built_in : (k : Metadata) (slot : ℕ) → list_all is_built_in (own_kept k slot) ≡ true
own_built_in k slot = search (rules, all_from, among_flat_map, among_filter)

module _ (k : Stored) (s : State) (sound : IsSound k) (fits : ToldBy k s) (name : List ℕ) (slot : ℕ) (rec : FileRecord)
    (is_slot : slot_of k.metadata.catalog name ≡ Some slot) (is_rec : rec_at k.metadata.catalog slot ≡ Some rec) where
  abbrev p : Metadata
  p = k.metadata

  abbrev filed : Filed
  filed = record { slot = slot; rec = rec }

  abbrev old : File
  old = file_of s.files name

  abbrev numbers : List ℕ
  numbers = numbers_at p.ext slot

  of : Among p.catalog.entries filed
  of = filed_at_slot p.catalog sound.metadata.catalog slot rec is_rec

  old_is : old ≡ file_told p.limits p.dict fits.kept filed
  old_is = file_in_slot p fits.kept s sound.metadata sound.free fits.tells name slot rec is_slot is_rec

  old_there : Among s.files old
  old_there = subst (λ f. Among s.files f) (sym old_is) (file_of_filed p fits.kept s sound.metadata sound.free fits.tells filed of)

  described : words_told p.dict numbers ≡ description s old
  described = fits.tells.described filed (contains_from_among p.catalog.entries filed of) ∙ ap (description s) (sym old_is)

  kept_described : (w : List ℕ) → Among (own_kept p slot) w → (is_built_in w ≡ true) × Among (description s old) w
  kept_described w m =
      let found = among_flat_map (kept_word p) numbers w m in
      let both = among_filter is_built_in (option_to_list (word_of p.dict found.0)) w found.2 in
      (both.1, subst (λ ws. Among ws w) described (word_among p sound.metadata numbers found.0 w (only_word (word_of p.dict found.0) w both.0) (number_from_among numbers found.0 found.1)))

  described_kept : (w : List ℕ) → is_built_in w ≡ true → Among (description s old) w → Among (own_kept p slot) w
  described_kept w own m =
      let found = among_word p sound.metadata numbers w (subst (λ ws. Among ws w) (sym described) m) in
      flat_map_among (kept_word p) numbers found.0 w (among_from_number numbers found.0 found.2)
      (filter_among is_built_in (option_to_list (word_of p.dict found.0)) w (subst (λ o. Among (option_to_list o) w) (sym found.1) (inl refl)) own)

  -- the built-in words of the file's description give it the description that it has under other words
  pub own_told : (words : List (List ℕ)) → AreOwnWords s.declared s.axioms (own_kept p slot) (new_file name words old.bytes)
  own_told words = search (rules, file_of_name, own_described, old_there, kept_described, described_kept)
