-- What a view keeps, of one file or word, and rows of bits on files.
use Rattle.std.proofs.Common.{◌≡◌, ℕ, ◌+◌, ◌<◌, ◌==◌, Bool, true, false, ◌&&◌, ◌||◌, ◌⊎◌, if◌then◌else◌, Some, None, List, length, take, refl, sym, ap, subst, ◌∙◌, inl, inr, arith, eq-eqb}
use Rattle.std.specs.Bool.{one_answer}
use Rattle.std.specs.List.{slice_get, find, Contains}
use Rattle.std.specs.Option.{option_map}
use Rattle.std.proofs.lemmas.Bool.{eqb-true, cases_eq, ne_eqb, and_parts, and_from}
use Rattle.std.proofs.lemmas.List.Folds.{list_any_more}
use Rattle.std.proofs.lemmas.Option.{slice_get_within, get_or_from_slice_get}
use Rattle.std.proofs.lemmas.Slice.Eq.{bytes_eq-Decides}
use Rattle.lis_graph.proofs.Members.{among_from_contains, contains_from_among, among_from_any, any_from_among}
use Rattle.lis_words.specs.Words.{same_word, has_word}
use Rattle.lis_bits.specs.Rows.{Rows, HasShape, get, SetsBits}
use Rattle.lis_model.specs.Table.{Entry}
use Rattle.lis_eval.specs.View.{Placed, Seen, number_of, file_in, name_and_slot, slot_passes, IsView}
use Rattle.lis_eval.proofs.Members.{contains_at, find_first, find_is, find_none, mapped_some}

-- ---- rows with other values that are the same
pub bits_same : (old new : Rows) (rows bits row : ℕ) (f g : ℕ → Bool) → SetsBits old new rows bits row f → ((bit : ℕ) → bit < bits → f bit ≡ g bit) → SetsBits old new rows bits row g
bits_same old new rows bits row f g sets same = record { shape = sets.shape; at = λ bit lt. sets.at bit lt ∙ same bit lt; others = sets.others }

-- rows whose shape is known
pub bits_shaped : (old new : Rows) (rows bits row : ℕ) (f : ℕ → Bool) → HasShape old rows bits → SetsBits old new (length old.rows) old.bits row f → SetsBits old new rows bits row f
bits_shaped old new rows bits row f shape sets = record {
  shape = record { tall = sets.shape.tall ∙ shape.tall; wide = sets.shape.wide ∙ shape.wide };
  at = λ bit lt. sets.at bit (omega (arith, shape.wide));
  others = sets.others;
}

pub bits_stay : (old : Rows) (rows bits row : ℕ) (g : ℕ → Bool) → HasShape old rows bits → ((bit : ℕ) → bit < bits → get old row bit ≡ g bit) → SetsBits old old rows bits row g
bits_stay old rows bits row g shape same = record { shape = shape; at = same; others = λ other bit differ. refl }

-- one bit set, or none
pub set_passes : (old passes : Bool) (bit at slot : ℕ) → at ≡ slot → passes ≡ true → (if bit == at then true else old) ≡ (old || ((slot == bit) && passes))
set_passes old passes bit at slot same large = by (cases_eq bit at)
  where
    end : (b : Bool) → true ≡ (b || true)
    end true = refl
    end false = refl

    plain : (b : Bool) → b ≡ (b || false)
    plain true = refl
    plain false = refl

    by : (bit ≡ at) ⊎ (bit ≡ at → ⊥) → (if bit == at then true else old) ≡ (old || ((slot == bit) && passes))
    by (inl e) = rw (eq-eqb bit at e, eq-eqb slot bit (sym (e ∙ same)), large) (end old)
    by (inr differ) = rw (ne_eqb bit at differ, ne_eqb slot bit (λ e. differ (sym (same ∙ e)))) (plain old)

pub stay_passes : (old passes same : Bool) → passes ≡ false → old ≡ (old || (same && passes))
stay_passes old passes same small = rw small (by old same)
  where
    by : (a b : Bool) → a ≡ (a || (b && false))
    by true b = refl
    by false true = refl
    by false false = refl

-- ---- files and slots
pub file_is : (v : Seen) → IsView v → (f : Placed) → Contains v.files f → file_in v f.slot ≡ Some f
file_is v kept f there =
    let found = find_first (λ (g : Placed). g.slot == f.slot) v.files f (among_from_contains v.files f there) (eq-eqb f.slot f.slot refl) in
    found.1 ∙ ap Some (kept.one_slot found.0 f (contains_from_among v.files found.0 found.2) there (eqb-true found.0.slot f.slot found.3))

-- the file at an index, as the view gives it
pub record IsAt (v : Seen) (k : ℕ) (name : List ℕ) (slot : ℕ) (f : Placed) : Type 0 where
  pub at : slice_get v.files k ≡ Some f
  pub there : Contains v.files f
  pub named : f.entry.name ≡ name
  pub placed : f.slot ≡ slot
  pub in_slot : file_in v slot ≡ Some f

pub file_given : (v : Seen) → IsView v → (k : ℕ) (name : List ℕ) (slot : ℕ) → Some (name, slot) ≡ option_map name_and_slot (slice_get v.files k) → (f : Placed) × IsAt v k name slot f
file_given v kept k name slot e =
    let found = mapped_some name_and_slot (slice_get v.files k) (name, slot) e in
    let there = contains_at v.files k found.0 found.1 in
    let placed : found.0.slot ≡ slot = ap (λ (p : List ℕ × ℕ). p.1) found.2 in (
      found.0,
      record {
        at = found.1;
        there = there;
        named = ap (λ (p : List ℕ × ℕ). p.0) found.2;
        placed = placed;
        in_slot = subst (λ n. file_in v n ≡ Some found.0) placed (file_is v kept found.0 there);
      },
    )

-- a file's slot passes exactly if the file does
pub passes_at : (v : Seen) → IsView v → (test : Entry → Bool) (f : Placed) → Contains v.files f → slot_passes v.files test f.slot ≡ test f.entry
passes_at v kept test f there = one_answer (slot_passes v.files test f.slot) (test f.entry) (only, all) (λ e. e, λ e. e)
  where
    only : slot_passes v.files test f.slot ≡ true → test f.entry ≡ true
    only any =
        let found = among_from_any (λ (g : Placed). (g.slot == f.slot) && test g.entry) v.files any in
        let parts = and_parts (found.0.slot == f.slot) (test found.0.entry) found.2 in
        let same = kept.one_slot found.0 f (contains_from_among v.files found.0 found.1) there (eqb-true found.0.slot f.slot parts.0) in
        ap (λ (g : Placed). test g.entry) (sym same) ∙ parts.1

    all : test f.entry ≡ true → slot_passes v.files test f.slot ≡ true
    all passes = any_from_among (λ (g : Placed). (g.slot == f.slot) && test g.entry) v.files f (among_from_contains v.files f there) (and_from (f.slot == f.slot) (test f.entry) (eq-eqb f.slot f.slot refl) passes)

pub passes_none : (v : Seen) (test : Entry → Bool) (slot : ℕ) → file_in v slot ≡ None → slot_passes v.files test slot ≡ false
passes_none v test slot none = find_none (λ (g : Placed). g.slot == slot) (λ (g : Placed). test g.entry) v.files none

-- one more file
pub passes_more : (files : List Placed) (test : Entry → Bool) (k slot : ℕ) (f : Placed) → slice_get files k ≡ Some f → (slot_passes (take k files) test slot || ((f.slot == slot) && test f.entry)) ≡ slot_passes (take (k + 1) files) test slot
passes_more files test k slot f at =
    sym (list_any_more (λ (g : Placed). (g.slot == slot) && test g.entry) files k f (slice_get_within files k f at)
    ∙ ap (λ (g : Placed). slot_passes (take k files) test slot || ((g.slot == slot) && test g.entry)) (get_or_from_slice_get files k f f at))

-- ---- words and numbers
pub word_numbered : (v : Seen) (word : List ℕ) (number : ℕ) → Some number ≡ number_of v word → (w : List ℕ × ℕ) × Contains v.words w × (w.0 ≡ word) × (w.1 ≡ number)
word_numbered v word number e =
    let found = mapped_some (λ (w : List ℕ × ℕ). w.1) (find (λ (w : List ℕ × ℕ). same_word w.0 word) v.words) number e in
    let first = find_is (λ (w : List ℕ × ℕ). same_word w.0 word) v.words found.0 found.1 in
    (found.0, contains_from_among v.words found.0 first.0, (bytes_eq-Decides found.0.0 word).0 first.1, found.2)

-- a word without a number is in no description
pub unknown_word : (v : Seen) → IsView v → (word : List ℕ) → find (λ (w : List ℕ × ℕ). same_word w.0 word) v.words ≡ None → (f : Placed) → Contains v.files f → has_word f.entry.words word ≡ false
unknown_word v kept word none f there = by (has_word f.entry.words word) refl
  where
    by : (b : Bool) → has_word f.entry.words word ≡ b → b ≡ false
    by false e = refl
    by true e =
        let found = among_from_any (λ (w : List ℕ). same_word w word) f.entry.words e in
        let known = kept.known f found.0 there (contains_from_among f.entry.words found.0 found.1) in
        let test : same_word known.0.0 word ≡ true = ap (λ (k : List ℕ). same_word k word) known.2 ∙ found.2 in
        let first = find_first (λ (w : List ℕ × ℕ). same_word w.0 word) v.words known.0 (among_from_contains v.words known.0 known.1) test in
        absurd (let some = first.1 in cc)
