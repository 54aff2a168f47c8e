-- The passes over numbers that are forgotten. No public clause cites this module.
use Rattle.std.specs.Prelude.{◌≡◌, ℕ, Bool, true, false, ◌&&◌, not, if◌then◌else◌, Option, is_some, Some, None, List, [], slice_set, count_by}
use Rattle.lis_dict.specs.Dict.{word_of}
use Rattle.lis_ext.specs.Ext.{Ext}
use Rattle.lis_words.specs.Words.{is_valued}
use Rattle.lis_kept.specs.Metadata.{Metadata}
use Rattle.lis_kept.specs.Telling.{state_of, is_named_left, is_used}
use Rattle.lis_kept.specs.Areas.{is_marked}
use Rattle.lis_kept.specs.Changes.{Marks}
use Rattle.lis_model.specs.Sets.{has_number}

-- what memory keeps, without the description in a slot, if one is given
abbrev pub ext_beside : Option ℕ → Ext → Ext
ext_beside None e = e
ext_beside (Some slot) e = record e { sets = slice_set e.sets slot [] }

abbrev pub beside : Option ℕ → Metadata → Metadata
beside slot k = record k { ext = ext_beside slot k.ext }

-- a known word, one that is valued or one that is not
abbrev pub is_of_pass : Bool → Option (List ℕ) → Bool
is_of_pass valued None = false
is_of_pass valued (Some word) = if valued then is_valued word else not (is_valued word)

-- the word of the number is forgotten in the pass: nothing uses it except the slot
abbrev pub is_due : Option ℕ → Metadata → Bool → ℕ → Bool
is_due slot k valued n = is_of_pass valued (word_of k.dict n) && not (is_used (beside slot k) n)

-- The numbers that pass a test have no word any more.
pub record ForgetsWhere (test : ℕ → Bool) (most : ℕ) (p q : Metadata) : Type 0 where
  pub metadata : q ≡ record p { dict = q.dict; marks = q.marks }
  pub props : q.dict.props ≡ p.dict.props
  pub marks : Marks most p q
  pub marked : (block : ℕ) → is_marked p block ≡ true → is_marked q block ≡ true
  pub words : (n : ℕ) → word_of q.dict n ≡ (if test n then None else word_of p.dict n)
  pub state : (at : ℕ → List ℕ) → state_of q at ≡ state_of p at
  pub lefts : (n : ℕ) → is_some (word_of q.dict n) ≡ true → is_named_left q n ≡ is_named_left p n

-- those of the numbers that are due have no word any more
abbrev pub ForgetsDue : Option ℕ → Bool → List ℕ → Metadata → Metadata → Type 0
ForgetsDue slot valued numbers p q = ForgetsWhere (λ n. has_number numbers n && is_due slot p valued n) (count_by (is_due slot p valued) numbers) p q
