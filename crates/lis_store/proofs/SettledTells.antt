-- What memory represents after a file is put into a vacant slot.
use Rattle.std.proofs.Common.{rules}
use Rattle.lis_store.proofs.Common.{◌≡◌, ◌⊎◌, refl, sym, ap, ap₂, ◌∙◌, subst, inl, inr, ℕ, ◌+◌, ◌<◌, ◌≤◌, not, ◌&&◌, ◌||◌, Bool, true, false, List, [], ◌++◌, length, is_some, IsSome, arith, list_all, Contains, and_parts, or_cases, length-map, same_Some, Among, among_from_contains, contains_from_among, among_left, among_insert_key, insert_key_old, sorted_from_rising, is_taken, Filed, slot_of, rec_at, numbers_at, FileRecord, SpellsSuper, Limits, data_start, State, File, file_cmp, all_up, met_tests, description, is_assignable, file_limit, blocks_taken, used_blocks, new_file, file_added, word_order, sorted_all_up, among_from_has_word, Metadata, AreSound, emptied, declared_of, axioms_of, bytes_told, blocks_told, state_of, HasIndex, Tells, filed_rec, filed_slot, filed_at_slot, words_known, both_ways, or_left, or_right, and_from, false_from_ne_true, map_among, has_number, are_distinct, known, has_word_from_among, words_told, file_told, number_from_among}
use Rattle.lis_content.proofs.Laying.{home_new}
use Rattle.lis_catalog.specs.Catalog.{filed_cmp}
use Rattle.lis_laws.specs.Changes.{FileFits}
use Rattle.lis_kept.specs.Telling.{IsFileBlock}
use Rattle.lis_store.specs.Drafts.{Draft, with_own, AreOwnWords}
use Rattle.lis_store.specs.Admitting.{described_by}
use Rattle.lis_store.specs.ReplacingIn.{MayComeIn, IsVacant, SettlesIn}
use Rattle.lis_store.proofs.Elsewhere.{AreFilesSame, blocks_there, index_there, state_there, no_home_before}
use Rattle.lis_store.proofs.StoreSays.{limits_told, files_counted, filed_of_file}
use Rattle.lis_store.proofs.Housed.{IsHoused}
use Rattle.lis_store.proofs.Learnt.{word_stays}
use Rattle.lis_store.proofs.Naming.{named_told}
use Rattle.lis_store.proofs.PutIn.{own_numbered}
use Rattle.lis_store.proofs.Settled.{end, end_is, rec, rec_here, set_here, set_other, described_is, form_end, described_numbered}
use Rattle.lis_store.proofs.Told.{words_same}
use Rattle.lis_laws.proofs.Forms as forms

-- Memory without the description of the slot represented s by what blocks hold. Then blocks hold the bytes of a file, which is put into the
-- slot.
module _ (file : File) (own : List (List ℕ)) {slot : ℕ} {old : List ℕ} {blocks : List ℕ} {v q : Metadata} (vacant : IsVacant slot old v) (may : MayComeIn v (with_own file own))
    (settles : SettlesIn slot (with_own file own) blocks v q) (was : List Bool) (sound_o : AreSound (record (emptied v slot) { taken = was })) {at there : ℕ → List ℕ} {s : State} (tells : Tells (record (emptied v slot) { taken = was }) at s)
    (are_own : AreOwnWords s.declared s.axioms own file) {held : List ℕ} (housed : IsHoused v.limits was v.taken [] held file.bytes blocks at there) where
  abbrev o : Metadata
  o = record (emptied v slot) { taken = was }

  abbrev k : Metadata
  k = end vacant may settles

  abbrev filed : Filed
  filed = record { slot = slot; rec = rec vacant may settles }

  abbrev t : State
  t = file_added s file

  abbrev draft : Draft
  draft = with_own file own

  described_same : described_by v draft ≡ description s file
  described_same = ap (λ (x : State). all_up x.declared x.axioms (file.assigned ++ own ++ met_tests x.declared (length file.bytes))) tells.state ∙ are_own

  sound : AreSound k
  sound = (form_end vacant may settles).sound

  -- ---- blocks of the files that were there
  taken_before : (f : Filed) → Among o.catalog.entries f → (n : ℕ) → has_number (blocks_told o.limits at f.rec) n ≡ true → (n < o.limits.blocks) × (is_taken was n ≡ true)
  taken_before f m = tells.given f (contains_from_among o.catalog.entries f m)

  not_new : (f : Filed) → Among o.catalog.entries f → (n : ℕ) → has_number (blocks_told o.limits at f.rec) n ≡ true → has_number held n ≡ false
  not_new f m n here = false_from_ne_true (has_number held n) (λ new. both_ways (has_number [] n) refl (housed.vacant n new (taken_before f m n here).1))

  same_files : AreFilesSame o at there
  same_files f m b among =
      housed.same (data_start o.limits + b) (home_new (data_start o.limits) held b (not_new f m b (number_from_among (blocks_told o.limits at f.rec) b among)))

  blocks_old : (f : Filed) → Among o.catalog.entries f → blocks_told o.limits there f.rec ≡ blocks_told o.limits at f.rec
  blocks_old = blocks_there o at there sound_o same_files

  was_there : (f : Filed) → Among o.catalog.entries f → (n : ℕ) → has_number (blocks_told o.limits there f.rec) n ≡ true → has_number (blocks_told o.limits at f.rec) n ≡ true
  was_there f of n has_it = ap (λ ns. has_number ns n) (sym (blocks_old f of)) ∙ has_it

  -- ---- the state
  tags_told : words_told k.dict filed.rec.tags ≡ file.assigned
  tags_told = search (rules, named_told, sound, sorted_from_rising, word_order, own_numbered, has_word_from_among, among_left, among_from_has_word)

  state_then : state_of k there ≡ t
  state_then =
      let before = described_is vacant may settles in
      ap (λ (x : Metadata). state_of x there) (sym (end_is vacant may settles))
      ∙ (settles.files.state there
      ∙ (ap₂ (λ (ws : List (List ℕ)) (bs : List ℕ). file_added (state_of settles.described there) (new_file file.name ws bs))
      (ap (λ (x : Metadata). words_told x.dict filed.rec.tags) before ∙ tags_told)
      (ap (λ (x : Metadata). bytes_told x.limits there filed.rec) before ∙ housed.holds.reads)
      ∙ ap (λ (x : State). file_added x file)
      (ap (λ (x : Metadata). state_of x there) settles.describes.metadata ∙ (settles.own.learns.state there ∙ (state_there o at there sound_o same_files ∙ tells.state)))))

  -- ---- its files
  abbrev told : Filed → File
  told = file_told o.limits o.dict at

  abbrev told_then : Filed → File
  told_then = file_told k.limits k.dict there

  new_or_old : (f : Filed) → Contains k.catalog.entries f → (filed ≡ f) ⊎ Among o.catalog.entries f
  new_or_old f m = among_insert_key filed_cmp o.catalog.entries filed f (among_from_contains k.catalog.entries f m)

  new_there : Contains k.catalog.entries filed
  new_there = contains_from_among k.catalog.entries filed (filed_at_slot k.catalog sound.catalog slot filed.rec (rec_here vacant may settles))

  old_there : (f : Filed) → Among o.catalog.entries f → Contains k.catalog.entries f
  old_there f m = contains_from_among k.catalog.entries f (insert_key_old filed_cmp o.catalog.entries filed f m)

  old_slot : (f : Filed) → Among o.catalog.entries f → f.slot ≡ slot → ⊥
  old_slot f m same = search (rules, both_ways, filed_rec)

  old_name : (f : Filed) → Among o.catalog.entries f → f.rec.name ≡ file.name → ⊥
  old_name f m same = search (rules, both_ways, filed_slot)

  -- a file of the state is that of a record
  of_state : (other : File) → Among s.files other → (f : Filed) × Among o.catalog.entries f × (told f ≡ other)
  of_state = filed_of_file o at s sound_o vacant.form.free tells

  -- a filed record represents the new file or an old one
  told_of : (f : Filed) → Contains k.catalog.entries f → (file ≡ told_then f) ⊎ Among s.files (told_then f)
  told_of f m =
      among_insert_key file_cmp s.files file (told_then f)
      (subst (λ (x : State). Among x.files (told_then f)) state_then (map_among told_then k.catalog.entries f (among_from_contains k.catalog.entries f m)))

  told_new : told_then filed ≡ file
  told_new = by (told_of filed new_there)
    where
      by : (file ≡ told_then filed) ⊎ Among s.files (told_then filed) → told_then filed ≡ file
      by (inl same) = sym same
      by (inr m) = let found = of_state (told_then filed) m in absurd (old_name found.0 found.1 (ap (λ (x : File). x.name) found.2))

  told_old : (f : Filed) → Among o.catalog.entries f → told_then f ≡ told f
  told_old f m = by (told_of f (old_there f m))
    where
      same_filed : (g : Filed) → Among o.catalog.entries g → g.rec.name ≡ f.rec.name → g ≡ f
      same_filed g of_g same =
          let slots : g.slot ≡ f.slot = same_Some g.slot f.slot (sym (filed_slot o.catalog sound_o.catalog g of_g) ∙ (ap (slot_of o.catalog) same ∙ filed_slot o.catalog sound_o.catalog f m)) in
          let recs : g.rec ≡ f.rec = same_Some g.rec f.rec (sym (filed_rec o.catalog sound_o.catalog g of_g) ∙ (ap (rec_at o.catalog) slots ∙ filed_rec o.catalog sound_o.catalog f m)) in
          let make : ℕ → FileRecord → Filed = λ n r. record { slot = n; rec = r } in
          ap₂ make slots recs

      by : (file ≡ told_then f) ⊎ Among s.files (told_then f) → told_then f ≡ told f
      by (inl same) = absurd (old_name f m (sym (ap (λ (x : File). x.name) same)))
      by (inr of) = let found = of_state (told_then f) of in sym found.2 ∙ ap told (same_filed found.0 found.1 (ap (λ (x : File). x.name) found.2))

  -- ---- for each file: the new one, or one that was there
  each : (P : Filed → Type 0) → P filed → ((f : Filed) → Among o.catalog.entries f → P f) → (f : Filed) → Contains k.catalog.entries f → P f
  each P new others f m = elim (new_or_old f m) [ inl same ↦ subst P same new | inr of ↦ others f of ]

  described_then : (f : Filed) → Contains k.catalog.entries f → words_told k.dict (numbers_at k.ext f.slot) ≡ description t (told_then f)
  described_then =
      each (λ f. words_told k.dict (numbers_at k.ext f.slot) ≡ description t (told_then f))
      (ap (words_told k.dict) (set_here vacant may settles)
      ∙ (named_told k.dict sound.dict (described_by v draft) (sorted_all_up (declared_of v) (axioms_of v) (file.assigned ++ own ++ met_tests (declared_of v) (length file.bytes))) (described_numbered vacant may settles)
      ∙ (described_same ∙ ap (description s) (sym told_new))))
      (λ f of.
      let ns = numbers_at o.ext f.slot in
      let here : IsSome (rec_at v.catalog f.slot) = ap is_some (filed_rec o.catalog sound_o.catalog f of) in
      ap (words_told k.dict) (set_other vacant may settles f.slot (old_slot f of))
      ∙ (words_same v.dict k.dict ns (λ n has_it. word_stays v settles.learnt _ settles.own.learns vacant.sound n (sound_o.named n f.slot here (number_from_among ns n has_it)))
      ∙ (tells.described f (contains_from_among o.catalog.entries f of) ∙ ap (description s) (sym (told_old f of)))))

  -- ---- data blocks
  taken_is : (n : ℕ) → n < k.limits.blocks → is_taken k.taken n ≡ (has_number held n || (is_taken was n && not (has_number [] n)))
  taken_is = housed.marks

  still_taken : (n : ℕ) → n < k.limits.blocks → is_taken was n ≡ true → is_taken k.taken n ≡ true
  still_taken n lt is = taken_is n lt ∙ or_right (has_number held n) (is_taken was n && not (has_number [] n)) (and_from (is_taken was n) true is refl)

  taken_then : (n : ℕ) → n < k.limits.blocks → is_taken k.taken n ≡ true → IsFileBlock k there n
  taken_then n lt is = by (or_cases (has_number held n) (is_taken was n && not (has_number [] n)) (sym (taken_is n lt) ∙ is))
    where
      by : (has_number held n ≡ true) ⊎ ((is_taken was n && not (has_number [] n)) ≡ true) → IsFileBlock k there n
      by (inl new) = record { file = filed; kept = new_there; has = ap (λ ns. has_number ns n) housed.holds.all ∙ new }
      by (inr before) =
          let b = tells.taken n lt (and_parts (is_taken was n) true before).0 in
          let m = among_from_contains o.catalog.entries b.file b.kept in
          record { file = b.file; kept = old_there b.file m; has = ap (λ ns. has_number ns n) (blocks_old b.file m) ∙ b.has }

  given_then : (f : Filed) → Contains k.catalog.entries f → (n : ℕ) → has_number (blocks_told k.limits there f.rec) n ≡ true → (n < k.limits.blocks) × (is_taken k.taken n ≡ true)
  given_then =
      each (λ f. (n : ℕ) → has_number (blocks_told k.limits there f.rec) n ≡ true → (n < k.limits.blocks) × (is_taken k.taken n ≡ true))
      (λ n has_it.
      let new = ap (λ ns. has_number ns n) (sym housed.holds.all) ∙ has_it in
      let lt = housed.below n new in
      (lt, taken_is n lt ∙ or_left (has_number held n) (is_taken was n && not (has_number [] n)) new))
      (λ f of n has_it. let before = taken_before f of n (was_there f of n has_it) in (before.0, still_taken n before.0 before.1))

  one_use_then : (f g : Filed) → Contains k.catalog.entries f → Contains k.catalog.entries g → (n : ℕ)
      → has_number (blocks_told k.limits there f.rec) n ≡ true → has_number (blocks_told k.limits there g.rec) n ≡ true → f ≡ g
  one_use_then f g mf mg n has_f has_g = by (new_or_old f mf) (new_or_old g mg)
    where
      two : (x y : Filed) → filed ≡ x → Among o.catalog.entries y → has_number (blocks_told k.limits there x.rec) n ≡ true → has_number (blocks_told k.limits there y.rec) n ≡ true → ⊥
      two x y same of has_x has_y =
          let F : Filed → Type 0 = λ z. has_number (blocks_told k.limits there z.rec) n ≡ true in
          both_ways (has_number held n) (not_new y of n (was_there y of n has_y)) (ap (λ ns. has_number ns n) (sym housed.holds.all) ∙ subst F (sym same) has_x)

      by : (filed ≡ f) ⊎ Among o.catalog.entries f → (filed ≡ g) ⊎ Among o.catalog.entries g → f ≡ g
      by (inl a) (inl b) = sym a ∙ b
      by (inl a) (inr b) = absurd (two f g a b has_f has_g)
      by (inr a) (inl b) = absurd (two g f b a has_g has_f)
      by (inr a) (inr b) =
          tells.one_use f g (contains_from_among o.catalog.entries f a) (contains_from_among o.catalog.entries g b) n (was_there f a n has_f) (was_there g b n has_g)

  -- ---- the state is well formed
  module _ (room : used_blocks s + blocks_taken s.limits.version (length file.bytes) ≤ s.limits.blocks) where
    limits_are : v.limits ≡ s.limits
    limits_are = limits_told o at s sound_o vacant.form.free tells

    fits : FileFits s file
    fits = record {
      name = may.name;
      assigned_set = may.set;
      assigned = subst (λ (x : State). list_all (is_assignable x.declared) file.assigned ≡ true) tells.state may.assignable;
      few_assigned = may.few;
      few_words = omega (arith, ap (λ (ws : List (List ℕ)). length ws) described_same, may.short);
      short = subst (λ (x : Limits). length file.bytes ≤ file_limit x) limits_are may.small;
      few_files = omega (arith, files_counted o at s sound_o vacant.form.free tells, vacant.spare, ap (λ (x : Limits). x.files) limits_are);
      few_known = known_then;
      few_blocks = room;
    }
      where
        -- the known words are those of memory
        known_then : length (known t) ≤ s.limits.props
        known_then =
            let D : State → Type 0 = λ x. (f : Filed) → Contains k.catalog.entries f → words_told k.dict (numbers_at k.ext f.slot) ≡ description x (told_then f) in
            let form = form_end vacant may settles in
            omega (
              arith,
              ap (λ (ws : List (List ℕ)). length ws) (words_known k sound form.free there form.in_use.used (subst D (sym state_then) described_then)),
              ap (λ (x : State). length (known x)) state_then,
              length-map k.dict.entries (λ (e : List ℕ × ℕ). e.0),
              sound.dict.few,
              sound.numbers,
              ap (λ (x : Limits). x.props) limits_are,
            )

    pub tells_settled : Tells q there t
    tells_settled = subst (λ (x : Metadata). Tells x there t) (sym (end_is vacant may settles)) (record {
      super = subst (λ (block : List ℕ). SpellsSuper s.limits block) (sym (housed.same 0 (no_home_before (data_start o.limits) 0 held (omega arith)))) tells.super;
      state = state_then;
      formed = forms.adds_file s tells.formed file fits;
      used = (form_end vacant may settles).in_use.used;
      described = described_then;
      taken = taken_then;
      given = given_then;
      indexed = each (λ f. HasIndex k.limits there f.rec) housed.holds.index
          (λ f of. index_there o at there sound_o same_files f of (tells.indexed f (contains_from_among o.catalog.entries f of)));
      apart = each (λ f. are_distinct (blocks_told k.limits there f.rec) ≡ true) (ap are_distinct housed.holds.all ∙ housed.distinct)
          (λ f of. ap are_distinct (blocks_old f of) ∙ tells.apart f (contains_from_among o.catalog.entries f of));
      one_use = one_use_then;
    })
