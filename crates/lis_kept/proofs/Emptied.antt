-- The numbers of a file that was removed: those of their words that are not in use may be forgotten.
use Rattle.lis_kept.proofs.Common.{rules, ◌≡◌, ap, ◌∙◌, ℕ, ◌<◌, true, false, List, [], length, set, get_or, Some, word_of, Ext, has, is_valued, declarable_not_valued, both_ways}
use Rattle.lis_blockmap.specs.Bitmap.{is_taken}
use Rattle.lis_kept.specs.Metadata.{Metadata}
use Rattle.lis_kept.specs.Sound.{AreSound}
use Rattle.lis_kept.proofs.Without.{left_out, none_here, same_elsewhere}
use Rattle.lis_model.specs.Sets.{has_number}

-- the word of a number that is declared is not valued
pub flagged_not_valued : (k : Metadata) → AreSound k → (n : ℕ) (w : List ℕ) → word_of k.dict n ≡ Some w → is_taken k.declared n ≡ true → is_valued w ≡ false
flagged_not_valued k sound n w is bit = search (rules, declarable_not_valued)

-- ---- a slot whose set was emptied
emptied_has : (old new : Ext) (slot : ℕ) → new.sets ≡ set old.sets slot [] → (n at : ℕ) → has new n at ≡ has (left_out old slot) n at
emptied_has old new slot sets n at = ap (λ ss. has_number (get_or ss at []) n) sets

pub emptied_before : (old new : Ext) (slot : ℕ) → slot < length old.sets → new.sets ≡ set old.sets slot [] → (n at : ℕ) → has new n at ≡ true → (at ≡ slot → ⊥) × (has old n at ≡ true)
emptied_before old new slot lt sets n at h = search (rules, emptied_has, both_ways, left_out, none_here, same_elsewhere)

pub emptied_stays : (old new : Ext) (slot : ℕ) → new.sets ≡ set old.sets slot [] → (n at : ℕ) → (at ≡ slot → ⊥) → has old n at ≡ true → has new n at ≡ true
emptied_stays old new slot sets n at differ h = emptied_has old new slot sets n at ∙ (same_elsewhere old slot n at differ ∙ h)
