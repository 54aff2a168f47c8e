-- No two values of a part have one spelling.
use Rattle.std.proofs.Common.{◌≡◌, refl, sym, ap, ap₂, ◌∙◌, subst, ℕ, ◌*◌, ◌-◌, ◌≤◌, true, ◌&&◌, List, [], ◌∷◌, ◌++◌, length, get_or, take, drop, IsTrue, nat_le, ◌==◌, nat_cmp, arith}
use Rattle.std.proofs.lemmas.Bool.{and_parts}
use Rattle.byteorder.specs.Endian.{little_bytes}
use Rattle.lis_graph.specs.Graph.{is_rising}
use Rattle.lis_model.specs.Ranges.{are_in_range}
use Rattle.lis_words.specs.Bytes.{padded}
use Rattle.lis_fields.specs.Records.{FileRecord}
use Rattle.lis_fields.specs.Layouts.{zeros, text_bytes, number_width, numbers, is_gate, SpellsSuper, prop_bytes, is_prop, axiom_bytes, is_axiom, file_start, record_bytes, is_record, file_bytes, is_file, are_tags, slot_blocks, are_blocks, set_bytes, is_set}
use Rattle.lis_model.specs.declared.limits.Limits.{Limits}
use Rattle.lis_fields.specs.declared.slots.PropSlot.{PropSlot}
use Rattle.lis_fields.specs.declared.slots.PropSlot.TheVariants.{Free as FreeProp, Known, Declared}
use Rattle.lis_fields.specs.declared.slots.AxiomSlot.{AxiomSlot}
use Rattle.lis_fields.specs.declared.slots.AxiomSlot.TheVariants.{Free as FreeAxiom, Pair}
use Rattle.lis_fields.specs.declared.slots.FileSlot.{FileSlot}
use Rattle.lis_fields.specs.declared.slots.FileSlot.TheVariants.{Free as FreeFile, Used}
use Rattle.lis_fields.proofs.Widths.{front_is, same_number}
use Rattle.lis_fields.proofs.NumberLists.{wide, length_wide, same_wide}
use Rattle.lis_words.proofs.Tests.{property_short}
use Rattle.lis_fields.proofs.Texts.{name_short}
use Rattle.lis_fields.proofs.Pairs.{left_number, right_number, axiom_spelled, axiom_fits}
use Rattle.lis_fields.proofs.Parts.{text_parts, length_start, length_numbers, few_tags, few_blocks, few_numbers, size_fits, gap, record_tests, file_parts, same_record, undeclared_word, declarable_word}
use Rattle.lis_fields.proofs.SetNumbers.{held_by, set_tests, before_zeros, set_held, fit_held, length_held, same_held}
use Rattle.lis_fields.proofs.Supers.{super_fits, super_parts, same_super, same_version}
use Rattle.lis_model.specs.Sets.{are_distinct, fit}

same_text : (a b : List ℕ) → length a ≤ 60 → text_bytes a ≡ text_bytes b → a ≡ b
unfolding zeros
same_text a b short e =
    let size : length a ≡ length b = ap (λ xs. get_or xs 0 0) e in
    let rest : padded 60 a ≡ padded 60 b = ap (λ xs. drop 1 xs) e in
    sym (front_is (length a) (padded 60 a) a (zeros (60 - length a)) refl refl) ∙ front_is (length a) (padded 60 a) b (zeros (60 - length b)) rest (sym size)

same_numbers : (width : ℕ) (ms ns : List ℕ) → length ms ≡ length ns → fit width ms ≡ true → fit width ns ≡ true → numbers width ms ≡ numbers width ns → ms ≡ ns
unfolding zeros
same_numbers width ms ns len fm fn e =
    let size : length (wide width ns) ≡ length (wide width ms) = length_wide width ns ∙ (ap (λ n. width * n) (sym len) ∙ sym (length_wide width ms)) in
    same_wide width ms ns fm fn len
    (sym (front_is (length (wide width ms)) (numbers width ms) (wide width ms) (zeros (16 * width - length (wide width ms))) refl refl)
    ∙ front_is (length (wide width ms)) (numbers width ms) (wide width ns) (zeros (16 * width - length (wide width ns))) e size)

-- a text between a byte and more bytes
same_framed : (k j : ℕ) (a b end : List ℕ) (more : List ℕ) → length a ≤ 60 → length b ≤ 60 → k ∷ (text_bytes a ++ end) ≡ j ∷ (text_bytes b ++ more) → (a ≡ b) × (end ≡ more)
same_framed k j a b end more sa sb e =
    let left = text_parts k (text_bytes a ++ end) k a end sa refl in
    let right = text_parts k (text_bytes a ++ end) j b more sb e in
    (same_text a b sa (sym left.is_text ∙ right.is_text), sym left.is_end ∙ right.is_end)

-- limits that one super block spells, whatever its gate
pub super_once : (a b : Limits) (bytes : List ℕ) → IsTrue (are_in_range a) → IsTrue (are_in_range b) → SpellsSuper a bytes → SpellsSuper b bytes → a ≡ b
super_once a b bytes is_a is_b of_a of_b =
    let left = super_parts bytes of_a.gate a of_a.spelled in
    let right = super_parts bytes of_b.gate b of_b.spelled in
    let gate : of_a.gate ≡ of_b.gate = ap (λ xs. get_or xs 0 0) (sym left.end ∙ right.end) in
    let version = same_version a.version b.version of_b.gate (sym left.start ∙ right.start) (subst (λ g. IsTrue (is_gate a.version g)) gate of_a.tells) of_b.tells in
    same_super a b (super_fits a is_a) (super_fits b is_b) version (sym left.spelled ∙ right.spelled)

pub axiom_once : (a b : AxiomSlot) → IsTrue (is_axiom a) → IsTrue (is_axiom b) → axiom_bytes a ≡ axiom_bytes b → a ≡ b
axiom_once a b is_a is_b e =
    let spelled = sym (axiom_spelled a) ∙ (e ∙ axiom_spelled b) in
    let fits_a = axiom_fits a is_a in
    let fits_b = axiom_fits b is_b in
    from a b (same_number 4 (left_number a) (left_number b) fits_a.0 fits_b.0 (ap (λ xs. take 4 xs) spelled)) (same_number 4 (right_number a) (right_number b) fits_a.1 fits_b.1 (ap (λ xs. drop 4 xs) spelled))
  where
    from : (x y : AxiomSlot) → left_number x ≡ left_number y → right_number x ≡ right_number y → x ≡ y
    from FreeAxiom FreeAxiom left right = refl
    from FreeAxiom (Pair l r) left right = absurd (omega (arith, left))
    from (Pair l r) FreeAxiom left right = absurd (omega (arith, left))
    from (Pair l r) (Pair k q) left right =
        let one : l ≡ k = omega (arith, left) in
        let two : r ≡ q = omega (arith, right) in
        ap₂ (λ x y. Pair x y) one two

pub prop_once : (a b : PropSlot) → IsTrue (is_prop a) → IsTrue (is_prop b) → prop_bytes a ≡ prop_bytes b → a ≡ b
unfolding prop_bytes zeros
prop_once FreeProp FreeProp is_a is_b e = refl
prop_once FreeProp (Known w) is_a is_b e = let first : 0 ≡ 1 = ap (λ xs. get_or xs 0 0) e in absurd (omega (arith, first))
prop_once FreeProp (Declared w) is_a is_b e = let first : 0 ≡ 2 = ap (λ xs. get_or xs 0 0) e in absurd (omega (arith, first))
prop_once (Known v) FreeProp is_a is_b e = let first : 1 ≡ 0 = ap (λ xs. get_or xs 0 0) e in absurd (omega (arith, first))
prop_once (Known v) (Known w) is_a is_b e =
    ap Known (same_framed 1 1 v w (zeros 2) (zeros 2) (property_short v (undeclared_word v is_a)) (property_short w (undeclared_word w is_b)) e).0
prop_once (Known v) (Declared w) is_a is_b e = let first : 1 ≡ 2 = ap (λ xs. get_or xs 0 0) e in absurd (omega (arith, first))
prop_once (Declared v) FreeProp is_a is_b e = let first : 2 ≡ 0 = ap (λ xs. get_or xs 0 0) e in absurd (omega (arith, first))
prop_once (Declared v) (Known w) is_a is_b e = let first : 2 ≡ 1 = ap (λ xs. get_or xs 0 0) e in absurd (omega (arith, first))
prop_once (Declared v) (Declared w) is_a is_b e =
    ap Declared (same_framed 2 2 v w (zeros 2) (zeros 2) (property_short v (declarable_word v is_a)) (property_short w (declarable_word w is_b)) e).0

fit_tags : (version : ℕ) (tags : List ℕ) → IsTrue (are_tags version tags) → fit (number_width version) tags ≡ true
fit_tags version tags h =
    let fits = fit (number_width version) tags in
    (and_parts (nat_le (length tags) 16) fits (and_parts (nat_le (length tags) 16 && fits) (is_rising nat_cmp tags) h).0).1

fit_blocks : (version size : ℕ) (blocks : List ℕ) → IsTrue (are_blocks version size blocks) → fit (number_width version) blocks ≡ true
fit_blocks version size blocks h =
    let count = length blocks == slot_blocks version size in
    let fits = fit (number_width version) blocks in
    (and_parts count fits (and_parts (count && fits) (are_distinct blocks) h).0).1

record_once : (limits : Limits) (a b : FileRecord) → IsTrue (is_record limits a) → IsTrue (is_record limits b) → record_bytes limits.version a ≡ record_bytes limits.version b → a ≡ b
record_once limits a b is_a is_b e =
    let version = limits.version in
    let width = number_width version in
    let of_a = record_tests limits a is_a in
    let of_b = record_tests limits b is_b in
    let few = few_numbers limits a of_a in
    let parts = file_parts (file_start a.name (length a.tags)) (little_bytes 4 a.size) (numbers width a.tags) (numbers width a.blocks) (zeros (gap version)) limits b is_b e
    (length_start a.name (length a.tags) (name_short a.name of_a.name)) refl (length_numbers width a.tags (few_tags version a.tags of_a.tags)) (length_numbers width a.blocks few) in
    let start = same_framed 1 1 a.name b.name (length a.tags ∷ 0 ∷ []) (length b.tags ∷ 0 ∷ []) (name_short a.name of_a.name) (name_short b.name of_b.name) parts.is_start in
    let count : length a.tags ≡ length b.tags = ap (λ xs. get_or xs 0 0) start.1 in
    let fits_a = size_fits limits a.size of_a.small in
    let fits_b = size_fits limits b.size of_b.small in
    let size = same_number 4 a.size b.size (omega (arith, fits_a)) (omega (arith, fits_b)) parts.is_size in
    let blocks : length a.blocks ≡ length b.blocks = few_blocks version a.size a.blocks of_a.blocks ∙ (ap (slot_blocks version) size ∙ sym (few_blocks version b.size b.blocks of_b.blocks)) in
    same_record a b start.0 size (same_numbers width a.tags b.tags count (fit_tags version a.tags of_a.tags) (fit_tags version b.tags of_b.tags) parts.is_tags)
    (same_numbers width a.blocks b.blocks blocks (fit_blocks version a.size a.blocks of_a.blocks) (fit_blocks version b.size b.blocks of_b.blocks) parts.is_blocks)

pub file_once : (limits : Limits) (a b : FileSlot) → IsTrue (is_file limits a) → IsTrue (is_file limits b) → file_bytes limits.version a ≡ file_bytes limits.version b → a ≡ b
unfolding file_bytes zeros
file_once limits FreeFile FreeFile is_a is_b e = refl
file_once limits FreeFile (Used rec) is_a is_b e = let first : 0 ≡ 1 = ap (λ xs. get_or xs 0 0) e in absurd (omega (arith, first))
file_once limits (Used rec) FreeFile is_a is_b e = let first : 1 ≡ 0 = ap (λ xs. get_or xs 0 0) e in absurd (omega (arith, first))
file_once limits (Used rec) (Used other) is_a is_b e = ap Used (record_once limits rec other is_a is_b e)

pub set_once : (a b : List ℕ) → IsTrue (is_set a) → IsTrue (is_set b) → set_bytes a ≡ set_bytes b → a ≡ b
set_once a b is_a is_b e =
    let of_a = set_tests a is_a in
    sym (before_zeros a (128 - length a)) ∙ same_held (held_by a) b (set_tests b is_b) (length_held a of_a.few) (fit_held a of_a.small) (sym (set_held a of_a.few) ∙ e)
