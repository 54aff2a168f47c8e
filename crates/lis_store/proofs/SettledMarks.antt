-- How much is marked after a file is put into a vacant slot, and how often rows are edited.
use Rattle.std.proofs.Common.{rules}
use Rattle.lis_store.proofs.Common.{◌≡◌, sym, ap, ◌∙◌, subst, ℕ, ◌+◌, ◌<◌, ◌≤◌, Bool, true, List, [], ◌∷◌, length, set, map, count_by, arith, sum_by-set, is_taken, stays_marked, Ext, numbers_at, differs, Metadata, IsSaved, block_of, is_marked, marked_count, numbers_where, words, Files}
use Rattle.lis_content.proofs.Numbers.{below_if_taken}
use Rattle.lis_kept.specs.Areas.{description_home}
use Rattle.lis_store.specs.Drafts.{Draft}
use Rattle.lis_store.specs.Admitting.{described_by}
use Rattle.lis_store.specs.Adding.{numbers_named}
use Rattle.lis_store.specs.ReplacingIn.{MayComeIn, IsVacant, SettlesIn}
use Rattle.lis_store.specs.Changes.{AreEditsFew}
use Rattle.lis_store.proofs.Differing.{differ_few}
use Rattle.lis_store.proofs.Edits.{edits_at}
use Rattle.lis_store.proofs.Fitting.{most_own, own_few}
use Rattle.lis_store.proofs.PutIn.{no_more_known, named_rising}
use Rattle.lis_store.proofs.Told.{few_with}
use Rattle.lis_store.proofs.Settled.{described_is, set_here}

-- a mark that is there already
kept_true : (bits : List Bool) (n : ℕ) → is_taken bits n ≡ true → count_by (λ (b : Bool). b) (set bits n true) ≡ count_by (λ (b : Bool). b) bits
kept_true bits n is = search (rules, sum_by-set, below_if_taken)

module _ {slot : ℕ} {old : List ℕ} {draft : Draft} {blocks : List ℕ} {v q : Metadata} (vacant : IsVacant slot old v) (may : MayComeIn v draft) (settles : SettlesIn slot draft blocks v q) where
  abbrev l : Metadata
  l = settles.learnt

  abbrev d : Metadata
  d = settles.described

  abbrev numbers : List ℕ
  numbers = numbers_named l.dict (described_by v draft)

  abbrev changed : ℕ
  changed = length (numbers_where v.ext.props (differs old numbers))

  ext_before : l.ext ≡ v.ext
  ext_before = ap (λ (x : Metadata). x.ext) settles.own.learns.metadata

  was : old ≡ numbers_at l.ext slot
  was = sym (ap (λ (e : Ext). numbers_at e slot) ext_before ∙ vacant.was)

  pub saved_settled : (at : ℕ → List ℕ) → IsSaved v at → IsSaved q at
  saved_settled at saved = settles.files.marks.saved at ((settles.describes.marks old was).saved at (settles.own.learns.marks.saved at saved))

  few_described : marked_count d ≤ marked_count v + 128 + most_own v.limits 256
  few_described =
      let learnt : marked_count l ≤ marked_count v + 128 = omega (arith, settles.own.learns.few, ap (λ (ws : List (List ℕ)). length ws) settles.own.learns.words, no_more_known vacant.sound may, few_with (words v.dict) (described_by v draft), may.short) in
      let turned : length (numbers_where l.ext.props (differs old numbers)) ≤ 256 =
      omega (arith, differ_few l.ext.props old numbers vacant.rising (named_rising l settles.own.sound (described_by v draft)), vacant.few, settles.own.few) in
      let two = own_few slot numbers l d old 256 settles.describes was turned in
      omega (arith, learnt, two, ap (λ (x : Metadata). most_own x.limits 256) settles.own.learns.metadata)

  pub few_settled : marked_count q ≤ marked_count v + 129 + most_own v.limits 256
  few_settled = omega (arith, few_described, settles.files.marks.few)

  -- what is marked stays marked
  still_marked : (block : ℕ) → is_marked v block ≡ true → is_marked d block ≡ true
  still_marked block is =
      ap (λ ms. is_taken ms block) (settles.describes.touched old was)
      ∙ stays_marked l.marks (map (description_home l.limits slot) (numbers_where l.ext.props (differs old numbers))) block (settles.own.learns.marked block is)

  pub marked_settled : (block : ℕ) → is_marked v block ≡ true → is_marked q block ≡ true
  marked_settled block is =
      ap (λ (x : Metadata). is_marked x block) settles.files.metadata ∙ stays_marked d.marks (block_of d.limits Files slot ∷ []) block (still_marked block is)

  -- and the block of the slot is marked once
  pub few_again : is_marked v (block_of v.limits Files slot) ≡ true → marked_count q ≤ marked_count v + 128 + most_own v.limits 256
  few_again is = search (rules, described_is, still_marked, few_described, kept_true)

  pub edits_settled : AreEditsFew v.ext q.ext
  edits_settled =
      let same = ap (λ (x : Metadata). x.ext.edits) settles.files.metadata in
      let made = subst (λ (e : Ext). d.ext.edits ≤ e.edits + length (numbers_where e.props (differs old numbers))) ext_before (settles.describes.edits old was) in
      let no_fewer = subst (λ (e : Ext). e.edits ≤ d.ext.edits) ext_before settles.describes.no_fewer in
      let slot_in : slot < length v.ext.sets = omega (arith, vacant.below, vacant.sound.files) in
      edits_at v.ext q.ext slot old numbers slot_in vacant.was (set_here vacant may settles) (omega (arith, no_fewer, same)) (omega (arith, made, same))
