-- What is in use after a file is removed whose slot is still described, and which words may then be removed.
use Rattle.std.proofs.Common.{rules}
use Rattle.lis_store.proofs.Common.{◌≡◌, ◌⊎◌, refl, sym, ap, ◌∙◌, subst, inl, inr, ℕ, ◌<◌, ◌==◌, not, ◌&&◌, Bool, true, false, if◌then◌else◌, [], ◌∷◌, length, set, Option, Some, None, is_some, IsSome, slice_get, Pair, arith, length-set, get_or-set_same, get_or-set_other, IsStrictlyIncreasing, cases_eq, ne_eqb, is_taken, stays_marked, word_of, slot_of, rec_at, has, numbers_at, FileRecord, same_word, same_word_decides, Metadata, block_of, AreSound, state_of, is_used, MayForget, emptied, among_slots, left_out, used_flagged, used_had, both_ways, eq-eqb, has_number, Files, used_left}
use Rattle.std.proofs.lemmas.Map.Entries.{option_filter}
use Rattle.lis_catalog.specs.Catalog.{without_slot}
use Rattle.lis_catalog.proofs.Laws.{rec_at-without_slot, slot_of-without_slot, slot_of-rec_at, filtered_none, filtered_one}
use Rattle.lis_kept.specs.Forgetting.{ForgetsWithout}
use Rattle.lis_kept.specs.Changes.{Drops}
use Rattle.lis_kept.specs.Sound.{IsSoundAxiom}
use Rattle.lis_kept.proofs.Dropped.{file_slot_below}
use Rattle.lis_kept.proofs.Without.{none_here, same_elsewhere}
use Rattle.lis_store.specs.Stored.{AreClosed}
use Rattle.lis_store.specs.Removing.{Vacates}
use Rattle.lis_store.specs.Drafts.{Draft}
use Rattle.lis_store.specs.Replacing.{MayReplace}
use Rattle.lis_store.specs.ReplacingIn.{AreInForm}
use Rattle.lis_store.proofs.Differing.{none_rising}
use Rattle.lis_store.proofs.HeadsUsed.{IsUsedFor, used_for, head_used}
use Rattle.lis_store.proofs.HeadsUsed.IsUsedFor.{Flagged, HadAt, NamedLeft}

-- the metadata without the file, with the slot described as before
abbrev pub vacated : Metadata → ℕ → Metadata
vacated p slot = record p {
  catalog = without_slot p.catalog slot;
  marks = set p.marks (block_of p.limits Files slot) true;
}

pub rec_there : (o : Option FileRecord) → is_some o ≡ true → (rec : FileRecord) × (o ≡ Some rec)
rec_there o none = search (rules, both_ways)

-- memory stays sound if a slot without a file is not described
pub sound_emptied : (k : Metadata) (slot : ℕ) → AreSound k → AreSound (emptied k slot)
sound_emptied k slot sound = assumption (axioms, length-set k.ext.sets slot [] ∙ sound.files, rising, named)
  where
    axioms : (at left right : ℕ) → slice_get k.axioms at ≡ Some (Pair left right) → IsSoundAxiom (emptied k slot) at left right
    axioms at left right is = assumption (sound.axioms at left right is)

    rising : (at : ℕ) → at < length (set k.ext.sets slot []) → IsStrictlyIncreasing (numbers_at (left_out k.ext slot) at)
    rising at lt = by (cases_eq at slot)
      where
        by : (at ≡ slot) ⊎ (at ≡ slot → ⊥) → IsStrictlyIncreasing (numbers_at (left_out k.ext slot) at)
        by (inl same) =
            let emptied_so : numbers_at (left_out k.ext slot) at ≡ [] =
            ap (numbers_at (left_out k.ext slot)) same ∙ get_or-set_same k.ext.sets slot [] [] (omega (arith, lt, same, length-set k.ext.sets slot [])) in
            subst IsStrictlyIncreasing (sym emptied_so) none_rising
        by (inr differ) = subst IsStrictlyIncreasing (sym (get_or-set_other k.ext.sets slot at [] [] differ)) (sound.rising at (omega (arith, lt, length-set k.ext.sets slot [])))

    other_slot : (n at : ℕ) → has (left_out k.ext slot) n at ≡ true → at ≡ slot → ⊥
    other_slot n at h same = both_ways (has (left_out k.ext slot) n at) (ap (has (left_out k.ext slot) n) same ∙ none_here k.ext slot n) h

    named : (n at : ℕ) → IsSome (rec_at k.catalog at) → has (left_out k.ext slot) n at ≡ true → IsSome (word_of k.dict n)
    named n at some h = sound.named n at some (sym (same_elsewhere k.ext slot n at (other_slot n at h)) ∙ h)

module _ (p : Metadata) (slot : ℕ) (rec : FileRecord) (form : AreInForm p) (there : rec_at p.catalog slot ≡ Some rec) where
  pub slot_below : slot < p.limits.files
  slot_below = file_slot_below p form.sound slot rec there

  pub slot_vacant : rec_at (without_slot p.catalog slot) slot ≡ None
  slot_vacant = rec_at-without_slot p.catalog slot slot ∙ ap (λ b. if b then None else rec_at p.catalog slot) (eq-eqb slot slot refl)

  pub rec_before : (at : ℕ) (r : FileRecord) → rec_at (without_slot p.catalog slot) at ≡ Some r → (at ≡ slot → ⊥) × (rec_at p.catalog at ≡ Some r)
  rec_before at r is = search (rules, rec_at-without_slot, eq-eqb, ne_eqb)

  pub none_before : (at : ℕ) → (at ≡ slot → ⊥) → rec_at (without_slot p.catalog slot) at ≡ None → rec_at p.catalog at ≡ None
  none_before at differ none = sym (rec_at-without_slot p.catalog slot at ∙ ap (λ c. if c then None else rec_at p.catalog at) (ne_eqb at slot differ)) ∙ none

  pub name_vacant : (draft : Draft) → MayReplace p slot rec draft → slot_of (without_slot p.catalog slot) draft.name ≡ None
  name_vacant draft may = slot_of-without_slot p.catalog slot draft.name form.sound.catalog ∙ by (same_word draft.name rec.name) refl
    where
      by : (b : Bool) → same_word draft.name rec.name ≡ b → option_filter (λ (n : ℕ). not (n == slot)) (slot_of p.catalog draft.name) ≡ None
      by true same =
          filtered_one slot slot (slot_of p.catalog draft.name)
          (ap (slot_of p.catalog) ((same_word_decides draft.name rec.name).0 same) ∙ slot_of-rec_at p.catalog slot rec form.sound.catalog there) refl
      by false other =
          filtered_none slot (slot_of p.catalog draft.name) (may.new (λ same. both_ways (same_word draft.name rec.name) other ((same_word_decides draft.name rec.name).1 same)))

  -- ---- what is in use without the description
  pub used_elsewhere : (n at : ℕ) → (at ≡ slot → ⊥) → has p.ext n at ≡ true → is_used (emptied p slot) n ≡ true
  used_elsewhere n at differ h = used_had (emptied p slot) n at (same_elsewhere p.ext slot n at differ ∙ h)

  pub used_or_here : (n : ℕ) → is_used p n ≡ true → (is_used (emptied p slot) n ≡ true) ⊎ (has_number (numbers_at p.ext slot) n ≡ true)
  used_or_here n used = by (used_for p n used)
    where
      place : (at : ℕ) → has p.ext n at ≡ true → (at ≡ slot) ⊎ (at ≡ slot → ⊥) → (is_used (emptied p slot) n ≡ true) ⊎ (has_number (numbers_at p.ext slot) n ≡ true)
      place at h (inl same) = inr (ap (has p.ext n) (sym same) ∙ h)
      place at h (inr differ) = inl (used_elsewhere n at differ h)

      by : IsUsedFor p n → (is_used (emptied p slot) n ≡ true) ⊎ (has_number (numbers_at p.ext slot) n ≡ true)
      by (Flagged bit) = inl (used_flagged (emptied p slot) n bit)
      by (HadAt at h) = place at h (cases_eq at slot)
      by (NamedLeft left) = inl (used_left (emptied p slot) n left)

  -- ---- words that may be removed
  abbrev e : Metadata
  e = emptied (vacated p slot) slot

  may_forget : AreSound (vacated p slot) → MayForget (numbers_at p.ext slot) (emptied (vacated p slot) slot)
  may_forget sound = record {
    given = λ n some unused. given n unused (used_or_here n (form.in_use.used n some));
    tags = λ at r is n tag. let before = rec_before at r is in used_elsewhere n at before.0 (form.in_use.tags at r before.1 n tag);
    rights = λ at left right is. used_flagged e right (form.in_use.rights at left right is);
    heads = λ n head used is. head_used e (sound_emptied (vacated p slot) slot sound) closed_emptied n head is used;
  }
    where
      given : (n : ℕ) → is_used e n ≡ false → (is_used e n ≡ true) ⊎ (has_number (numbers_at p.ext slot) n ≡ true) → has_number (numbers_at p.ext slot) n ≡ true
      given n unused (inl used) = absurd (both_ways (is_used e n) unused used)
      given n unused (inr here) = here

      closed_emptied : AreClosed e
      closed_emptied at a b h linked = by (cases_eq at slot)
        where
          by : (at ≡ slot) ⊎ (at ≡ slot → ⊥) → has e.ext b at ≡ true
          by (inl same) = absurd (both_ways (has e.ext a at) (ap (has e.ext a) same ∙ none_here p.ext slot a) h)
          by (inr differ) = same_elsewhere p.ext slot b at differ ∙ form.closed at a b (sym (same_elsewhere p.ext slot a at differ) ∙ h) linked

  -- ---- the record is removed, and then the words
  abbrev home : ℕ
  home = block_of p.limits Files slot

  module _ (dropped : Metadata) (drops : Drops slot rec p dropped) where
    pub below_dropped : slot < dropped.limits.files
    below_dropped = omega (arith, ap (λ (x : Metadata). x.limits.files) drops.metadata, slot_below)

    pub free_dropped : rec_at dropped.catalog slot ≡ None
    free_dropped = ap (λ (x : Metadata). rec_at x.catalog slot) drops.metadata ∙ slot_vacant

    pub may_forget_dropped : AreSound dropped → MayForget (numbers_at p.ext slot) (emptied dropped slot)
    may_forget_dropped sound = search (rules, may_forget)

    pub vacates : (q : Metadata) → IsStrictlyIncreasing (numbers_at p.ext slot) → ForgetsWithout slot (numbers_at p.ext slot) dropped q → AreSound q → Vacates slot rec p q
    vacates q rising forgets sound = record {
      there = there;
      rising = rising;
      metadata = forgets.metadata ∙ ap (λ (x : Metadata). record x { dict = q.dict; marks = q.marks }) drops.metadata;
      words = λ n. subst (λ (x : Metadata). word_of q.dict n ≡ (if has_number (numbers_at p.ext slot) n && not (is_used (emptied x slot) n) then None else word_of x.dict n)) drops.metadata (forgets.words n);
      used = λ n some. forgets.used n some ∙ ap (λ (x : Metadata). is_used (emptied x slot) n) drops.metadata;
      told = λ at. forgets.state at ∙ ap (λ (x : Metadata). state_of x at) drops.metadata;
      state = λ at. ap (λ (x : Metadata). state_of x at) (sym drops.metadata) ∙ drops.state at;
      marks = record { saved = λ at saved. forgets.marks.saved at (drops.marks.saved at saved); few = omega (arith, drops.marks.few, forgets.marks.few) };
      marked = λ block is. forgets.marked block (kept block is);
      slot_marked = forgets.marked home (ap (λ (x : Metadata). is_taken x.marks home) drops.metadata ∙ get_or-set_same p.marks home true false in_marks);
      sound = sound;
    }
      where
        in_marks : home < length p.marks
        in_marks = omega (arith, (among_slots p.limits form.sound.range Files slot slot_below).1, form.sound.marks)

        kept : (block : ℕ) → is_taken p.marks block ≡ true → is_taken dropped.marks block ≡ true
        kept block is = ap (λ (x : Metadata). is_taken x.marks block) drops.metadata ∙ stays_marked p.marks (home ∷ []) block is
