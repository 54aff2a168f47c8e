-- What each step requires when a file is put into a vacant slot.
use Rattle.lis_store.proofs.Common.{◌≡◌, ap, sym, ◌∙◌, ℕ, ◌<◌, nat_lt, true, List, [], length, None, is_some, IsSome, arith, get_or, get_or-set_same, list_all, slot_of, rec_at, word_of, has, numbers_at, are_blocks, Metadata, is_sound_record, Describes, has_number, all_among, among_from_number}
use Rattle.lis_store.specs.Drafts.{Draft}
use Rattle.lis_store.specs.Admitting.{described_by}
use Rattle.lis_store.specs.ReplacingIn.{MayComeIn, IsVacant, LearnsOwn, record_of}
use Rattle.lis_store.proofs.PutIn.{named_worded, record_sound}

module _ {slot : ℕ} {old : List ℕ} {draft : Draft} {tags numbers : List ℕ} {p l d : Metadata} (vacant : IsVacant slot old p) (may : MayComeIn p draft) (own : LearnsOwn draft tags numbers p l) (describes : Describes slot numbers l d) where
  d_is : d ≡ record p { dict = l.dict; ext = d.ext; marks = d.marks }
  d_is = describes.metadata ∙ ap (λ (x : Metadata). record x { ext = d.ext; marks = d.marks }) own.learns.metadata

  pub below_described : slot < d.limits.files
  below_described = omega (arith, vacant.below, ap (λ (x : Metadata). x.limits.files) d_is)

  pub free_described : rec_at d.catalog slot ≡ None
  free_described = ap (λ (x : Metadata). rec_at x.catalog slot) d_is ∙ vacant.free

  pub name_described : slot_of d.catalog draft.name ≡ None
  name_described = ap (λ (x : Metadata). slot_of x.catalog draft.name) d_is ∙ may.new

  pub numbers_described : (n : ℕ) → has d.ext n slot ≡ true → IsSome (word_of d.dict n)
  numbers_described n h =
      let lt : slot < length l.ext.sets = omega (arith, vacant.below, vacant.sound.files, ap (λ (x : Metadata). length x.ext.sets) own.learns.metadata) in
      let set_is : numbers_at d.ext slot ≡ numbers = ap (λ ss. get_or ss slot []) describes.sets ∙ get_or-set_same l.ext.sets slot numbers [] lt in
      ap (λ (x : Metadata). is_some (word_of x.dict n)) d_is
      ∙ all_among (λ m. is_some (word_of l.dict m)) numbers n (ap (list_all (λ m. is_some (word_of l.dict m))) own.numbered ∙ named_worded l own.sound (described_by p draft))
      (among_from_number numbers n (sym (ap (λ ns. has_number ns n) set_is) ∙ h))

  pub record_described : (blocks : List ℕ) → are_blocks p.limits.version draft.size blocks ≡ true → list_all (λ n. nat_lt n p.limits.blocks) blocks ≡ true
      → is_sound_record d.limits d.dict d.limits.blocks (record_of tags draft blocks) ≡ true
  record_described blocks formed below =
      ap (λ (x : Metadata). is_sound_record x.limits x.dict x.limits.blocks (record_of tags draft blocks)) describes.metadata
      ∙ (ap (λ ts. is_sound_record l.limits l.dict l.limits.blocks (record_of ts draft blocks)) own.tagged
      ∙ record_sound may own.sound own.learns blocks formed below)
