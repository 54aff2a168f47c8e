-- If the words of a file are refused for nothing, it may replace another.
use Rattle.std.proofs.Common.{rules}
use Rattle.lis_store.proofs.Common.{◌≡◌, ◌≢◌, sym, ap, subst, ℕ, ◌≤◌, Bool, true, option_to_list, Some, None, List, ◌++◌, length, arith, flat_map, list_all, ltb-false, not-false, is_rising, Among, Filed, slot_of, rec_at, word_of, FileRecord, word_cmp, is_built_in, is_file_name, Refusal, State, File, is_assignable, file_limit, word_order, sorted_set_of, rising_from_sorted, Metadata, declared_of, Tells, filed_at_slot, record_in_form, all_among, words_told, file_told}
use Rattle.lis_store.specs.Stored.{Stored, IsSound}
use Rattle.lis_store.specs.Drafts.{Draft}
use Rattle.lis_store.specs.Instead.{instead_checks}
use Rattle.lis_store.specs.Replacing.{MayReplace}
use Rattle.lis_store.proofs.StoreSays.{file_of_filed}
use Rattle.lis_store.proofs.Relates.{told_few}
use Rattle.lis_store.proofs.Judged.{AllPass}
use Rattle.lis_fields.proofs.Parts.{few_tags}

module _ (k : Stored) (sound : IsSound k) (slot : ℕ) (rec : FileRecord) (is_rec : rec_at k.metadata.catalog slot ≡ Some rec) where
  abbrev p : Metadata
  p = k.metadata

  abbrev given : List (List ℕ)
  given = words_told p.dict rec.tags

  abbrev filed : Filed
  filed = record { slot = slot; rec = rec }

  there : Among p.catalog.entries filed
  there = filed_at_slot p.catalog sound.metadata.catalog slot rec is_rec

  -- ---- the words that were assigned to it
  pub given_set : is_rising word_cmp given ≡ true
  given_set = rising_from_sorted word_cmp word_order given (sorted_set_of (flat_map (λ n. option_to_list (word_of p.dict n)) rec.tags))

  pub given_few : length given ≤ 16
  given_few =
      let few = few_tags p.limits.version rec.tags (record_in_form p.limits p.dict p.limits.blocks rec (sound.metadata.records slot rec is_rec)).tags in
      omega (arith, few, told_few p.dict rec.tags)

  -- These words are assignable, since memory represents a state.
  pub given_assignable : (at : ℕ → List ℕ) (s : State) → Tells p at s → list_all (is_assignable (declared_of p)) given ≡ true
  given_assignable at s tells =
      let m = file_of_filed p at s sound.metadata sound.free tells filed there in
      subst (λ declared. list_all (is_assignable declared) given ≡ true) (sym (ap (λ (t : State). t.declared) tells.state))
      (all_among (λ (f : File). list_all (is_assignable s.declared) f.assigned) s.files (file_told p.limits p.dict at filed) tells.formed.files.assigned m)

  -- ---- a row that refuses nothing
  pub may_stand : (draft : Draft) → is_file_name draft.name ≡ true → (draft.name ≢ rec.name → slot_of p.catalog draft.name ≡ None) → is_rising word_cmp draft.assigned ≡ true → length draft.assigned ≤ 16
      → list_all is_built_in draft.own ≡ true → length draft.own ≤ 128 → draft.size ≤ file_limit p.limits → (more : List (Bool × Refusal)) → AllPass (instead_checks p slot draft ++ more)
      → MayReplace p slot rec draft
  may_stand draft name new set few own few_own small more row = search (rules, there, not-false, ltb-false)

  pub sized_small : (size : ℕ) → size ≤ rec.size → size ≤ file_limit p.limits
  sized_small size sized = omega (arith, sized, (record_in_form p.limits p.dict p.limits.blocks rec (sound.metadata.records slot rec is_rec)).small)
