-- Rows of bits that are kept in step with lists, and how often they are changed.
use Rattle.std.proofs.Common.{◌≡◌, ◌⊎◌, ℕ, ◌+◌, ◌<◌, ◌≤◌, ◌==◌, Bool, true, false, not, ◌&&◌, if◌then◌else◌, List, [], length, get_or, set, refl, sym, ap, ◌∙◌, inl, inr, arith, eq-eqb, get_or-set_same, get_or-set_other}
use Rattle.std.proofs.lemmas.Bool.{cases_eq, ne_eqb}
use Rattle.lis_bits.specs.Rows.{Rows, HasShape, get, with_row}
use Rattle.lis_bits.proofs.Laws.{shaped, new_row, get-with_row_other}
use Rattle.lis_ext.specs.Numbers.{has_number, numbers_where, differs}
use Rattle.lis_ext.specs.Inside.{PutsBits, AreInStep, has_alone}
use Rattle.lis_ext.proofs.Numbers.{numbers_more, numbers_le, numbers_apart}
use Rattle.lis_ext.proofs.Touched.{PassesMore}
use Rattle.lis_ext.proofs.Counted.{where_zero}

and_false : (b : Bool) → (b && false) ≡ false
and_false true = refl
and_false false = refl

module _ (old : Rows) (props files file : ℕ) (value : Bool) where
  pub puts_none : (others : List ℕ) → HasShape old props files → PutsBits old old props files file (has_alone [] others) value
  puts_none others shape = record {
    shape = shape;
    bits = λ p i p_in i_in. sym (ap (λ b. if b then value else get old p i) (and_false (i == file)));
    edits = omega arith;
    no_fewer = omega arith;
  }

  module _ (touched touched' : ℕ → Bool) (now : Rows) (h : PutsBits old now props files file touched value) where
    pub puts_more : (q : ℕ) → q < props → PassesMore touched touched' q → PutsBits old (with_row now q (λ i. if i == file then value else get now q i)) props files file touched' value
    puts_more q q_in more = record {
      shape = shaped now props files q (λ i. if i == file then value else get now q i) h.shape;
      bits = λ p i p_in i_in. bit p i p_in i_in (cases_eq p q);
      edits = omega (arith, h.edits, numbers_more props touched touched' q q_in more.fresh more.passes (λ p p_in was. kept p was (cases_eq p q)));
      no_fewer = omega (arith, h.no_fewer);
    }
      where
        kept : (p : ℕ) → touched p ≡ true → (p ≡ q) ⊎ (p ≡ q → ⊥) → touched' p ≡ true
        kept p was (inl same) = ap touched' same ∙ more.passes
        kept p was (inr differ) = more.others p differ ∙ was

        at : (i : ℕ) → i < files → (i ≡ file) ⊎ (i ≡ file → ⊥) → (if i == file then value else get now q i) ≡ (if (i == file) && touched' q then value else get old q i)
        at i i_in (inl same) = rw (eq-eqb i file same, more.passes) refl
        at i i_in (inr differ) = rw (ne_eqb i file differ) (h.bits q i q_in i_in ∙ rw (ne_eqb i file differ) refl)

        bit : (p i : ℕ) → p < props → i < files → (p ≡ q) ⊎ (p ≡ q → ⊥) → get (with_row now q (λ i. if i == file then value else get now q i)) p i ≡ (if (i == file) && touched' p then value else get old p i)
        bit p i p_in i_in (inl same) = rw same (new_row now props files q i (λ i. if i == file then value else get now q i) h.shape q_in i_in ∙ at i i_in (cases_eq i file))
        bit p i p_in i_in (inr differ) = get-with_row_other now q p i (λ i. if i == file then value else get now q i) differ
            ∙ (h.bits p i p_in i_in ∙ ap (λ b. if (i == file) && b then value else get old p i) (sym (more.others p differ)))

    pub puts_same : ((p : ℕ) → touched' p ≡ touched p) → PutsBits old now props files file touched' value
    puts_same same = record {
      shape = h.shape;
      bits = λ p i p_in i_in. h.bits p i p_in i_in ∙ ap (λ b. if (i == file) && b then value else get old p i) (sym (same p));
      edits = omega (arith, h.edits, numbers_le props touched touched' (λ p p_in was. same p ∙ was));
      no_fewer = h.no_fewer;
    }

-- a file's list is replaced
pub in_step_set : (lists : List (List ℕ)) (rows mid after : Rows) (props files file : ℕ) (old new : List ℕ) → length lists ≡ files → file < files → get_or lists file [] ≡ old → AreInStep lists rows props files
    → PutsBits rows mid props files file (has_alone old new) false → PutsBits mid after props files file (has_alone new old) true → AreInStep (set lists file new) after props files
in_step_set lists rows mid after props files file old new long file_in was step down up p i p_in i_in = by (cases_eq i file)
  where
    turned : (o n : Bool) → (if n && not o then true else (if o && not n then false else o)) ≡ n
    turned true true = refl
    turned true false = refl
    turned false true = refl
    turned false false = refl

    here : (i ≡ file) → get after p i ≡ has_number new p
    here same =
        let below = down.bits p i p_in i_in in
        let above = up.bits p i p_in i_in in
        let set : get rows p i ≡ has_number old p = step p i p_in i_in ∙ ap (λ numbers. has_number numbers p) (ap (λ k. get_or lists k []) same ∙ was) in
        above ∙ (rw (below, set, eq-eqb i file same) (turned (has_number old p) (has_number new p)))

    by : (i ≡ file) ⊎ (i ≡ file → ⊥) → get after p i ≡ has_number (get_or (set lists file new) i []) p
    by (inl same) = here same ∙ ap (λ numbers. has_number numbers p) (sym (ap (λ k. get_or (set lists file new) k []) same ∙ get_or-set_same lists file new [] (omega arith)))
    by (inr differ) =
        let below = rw (ne_eqb i file differ) at (down.bits p i p_in i_in) in
        let above = rw (ne_eqb i file differ) at (up.bits p i p_in i_in) in
        above ∙ (below ∙ (step p i p_in i_in ∙ ap (λ numbers. has_number numbers p) (sym (get_or-set_other lists file i new [] differ))))

pub edits_set : (rows mid after : Rows) (props files file : ℕ) (old new : List ℕ) → PutsBits rows mid props files file (has_alone old new) false → PutsBits mid after props files file (has_alone new old) true
    → after.edits ≤ rows.edits + length (numbers_where props (differs old new))
edits_set rows mid after props files file old new down up = omega (arith, down.edits, up.edits, numbers_apart props (has_alone new old) (has_alone old new) (λ p. apart (has_number new p) (has_number old p)))
  where
    apart : (x y : Bool) → (x && not y) ≡ true → (y && not x) ≡ false
    apart true y e = and_false y
    apart false y e = absurd cc

-- rows of fewer numbers have no more edits
pub edits_all : (rows after : Rows) (kept props : ℕ) (test : ℕ → Bool) → (kept ≡ 0) ⊎ (kept ≡ props) → after.edits ≤ rows.edits + length (numbers_where kept test) → after.edits ≤ rows.edits + length (numbers_where props test)
edits_all rows after kept props test (inl none) few = omega (arith, few, where_zero test, ap (λ n. length (numbers_where n test)) none)
edits_all rows after kept props test (inr all) few = omega (arith, few, ap (λ n. length (numbers_where n test)) all)
