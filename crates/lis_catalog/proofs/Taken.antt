-- Where all slots below one have files, a search for a free slot starts from that one.
use Rattle.std.proofs.Common.{◌≡◌, ◌⊎◌, ℕ, zero, suc, ◌+◌, ◌<◌, ◌≤◌, Bool, true, false, cond, nat_lt, is_some, is_none, Option, Some, None, [], ◌∷◌, length, drop, get_or, set, refl, sym, ap, subst, ◌∙◌, inl, inr, arith, length-drop, get_or-set_same, get_or-set_other}
use Rattle.std.specs.List.{position, position_or_len}
use Rattle.std.proofs.lemmas.Bool.{cases_eq, ltb-true, ltb-false, lt-ltb, le-ltb}
use Rattle.std.proofs.lemmas.List.Quantifiers.{position-Some}
use Rattle.lis_fields.specs.Records.{FileRecord}
use Rattle.lis_catalog.specs.Inside.{Records, AreTaken}

pub within : (records : Records) (from : ℕ) → AreTaken records from → from ≤ length records
within records zero taken = omega arith
within [] (suc from) taken = let none = taken 0 (omega arith) in absurd cc
within (r ∷ rs) (suc from) taken = omega (arith, within rs from (λ n lt. taken (suc n) (omega (arith, lt))))

skips : (records : Records) (from : ℕ) → AreTaken records from → position_or_len is_none records ≡ from + position_or_len is_none (drop from records)
skips records zero taken = omega arith
skips [] (suc from) taken = let none = taken 0 (omega arith) in absurd cc
skips (None ∷ rs) (suc from) taken = let none = taken 0 (omega arith) in absurd cc
skips (Some rec ∷ rs) (suc from) taken = omega (arith, skips rs from (λ n lt. taken (suc n) (omega (arith, lt))))

module _ (records : Records) (from : ℕ) (taken : AreTaken records from) where
  abbrev rest : ℕ
  rest = position_or_len is_none (drop from records)

  pub found_from : (found : ℕ) → position is_none (drop from records) ≡ Some found → position is_none records ≡ Some (from + found)
  found_from found is = by (nat_lt rest (length (drop from records))) refl is
    where
      by : (b : Bool) → nat_lt rest (length (drop from records)) ≡ b → cond b (Some rest) None ≡ Some found → position is_none records ≡ Some (from + found)
      by true lt some =
          let here : rest ≡ found = cc in
          let low : position_or_len is_none records < length records = omega (arith, skips records from taken, ltb-true rest (length (drop from records)) lt, length-drop from records) in
          rw (lt-ltb (position_or_len is_none records) (length records) low) (ap Some (skips records from taken ∙ ap (λ n. from + n) here))
      by false ge none = absurd cc

  pub none_from : position is_none (drop from records) ≡ None → position is_none records ≡ None
  none_from is = by (nat_lt rest (length (drop from records))) refl is
    where
      by : (b : Bool) → nat_lt rest (length (drop from records)) ≡ b → cond b (Some rest) None ≡ None → position is_none records ≡ None
      by true lt some = absurd cc
      by false ge none =
          let high : length records ≤ position_or_len is_none records = omega (arith, skips records from taken, ltb-false rest (length (drop from records)) ge, length-drop from records, within records from taken) in
          rw (le-ltb (position_or_len is_none records) (length records) high) refl

-- a slot with a file
held : (o : Option FileRecord) → is_none o ≡ false → is_some o ≡ true
held None is = absurd cc
held (Some rec) is = refl

pub taken_first : (records : Records) (slot : ℕ) → position is_none records ≡ Some slot → AreTaken records slot
taken_first records slot is n lt = held (get_or records n None) ((position-Some is_none records slot None is).2 n lt)

pub taken_put : (records : Records) (from slot : ℕ) (rec : FileRecord) → AreTaken records from → slot < length records → AreTaken (set records slot (Some rec)) from
taken_put records from slot rec taken below n lt = by (cases_eq slot n)
  where
    by : (slot ≡ n) ⊎ (slot ≡ n → ⊥) → is_some (get_or (set records slot (Some rec)) n None) ≡ true
    by (inl same) = subst (λ m. is_some (get_or (set records slot (Some rec)) m None) ≡ true) same (ap is_some (get_or-set_same records slot (Some rec) None below))
    by (inr differ) = ap is_some (get_or-set_other records slot n (Some rec) None (λ same. differ (sym same))) ∙ taken n lt

pub taken_cut : (records : Records) (from less slot : ℕ) → AreTaken records from → less ≤ from → less ≤ slot → AreTaken (set records slot None) less
taken_cut records from less slot taken low other n lt = ap is_some (get_or-set_other records slot n None None (λ same. absurd (omega (arith, same, lt, other)))) ∙ taken n (omega (arith, lt, low))
