-- The parts of a slot that has a word, of a super block and of a slot that has a file, read back from their spelling.
use Rattle.std.proofs.Common.{◌≡◌, refl, sym, ap, ap₂, ◌∙◌, subst, ℕ, ◌≤◌, ◌==◌, nat_le, Bool, true, false, not, ◌&&◌, ◌||◌, if◌then◌else◌, inl, inr, take_at, drop_at, List, [], ◌∷◌, ◌++◌, length, get_or, take, drop, IsTrue, Option, Some, arith, length-append, ◌-◌, ◌+◌, ◌*◌, ◌/◌, min, mul_comm, mul-le-mul_right}
use Rattle.std.proofs.lemmas.Bool.{and_parts, and_from, or_cases, or_left, or_right, leb-true, le-leb, eqb-true}
use Rattle.byteorder.specs.Endian.{little_bytes}
use Rattle.lis_words.specs.Words.{is_word, is_plain_word, is_head, is_valued, is_test, is_property, is_built_in, is_file_name}
use Rattle.lis_words.proofs.Bytes.{length_padded}
use Rattle.lis_words.proofs.Tests.{word_is_property, property_short}
use Rattle.lis_model.specs.State.{is_declarable, file_limit, blocks_needed}
use Rattle.lis_model.specs.declared.limits.Limits.{Limits}
use Rattle.lis_model.proofs.Ranges.{limit_le}
use Rattle.lis_fields.specs.Records.{FileRecord}
use Rattle.lis_fields.specs.Layouts.{zeros, text_bytes, named, prop_bytes, is_prop, is_undeclared, file_start, number_width, numbers, record_bytes, file_bytes, are_tags, slot_blocks, are_blocks, is_record, is_file}
use Rattle.lis_fields.specs.declared.slots.PropSlot.{PropSlot}
use Rattle.lis_fields.specs.declared.slots.PropSlot.TheVariants.{Free as FreeProp, Known, Declared}
use Rattle.lis_fields.specs.declared.slots.FileSlot.{FileSlot}
use Rattle.lis_fields.specs.declared.slots.FileSlot.TheVariants.{Free as FreeFile, Used}
use Rattle.lis_fields.proofs.Widths.{front_is, behind_is, joined, length_zeros}
use Rattle.lis_fields.proofs.Texts.{length_text, name_short}
use Rattle.lis_fields.proofs.NumberLists.{wide, length_wide}
use Rattle.lis_fields.proofs.Supers.{with_version}
use Rattle.lis_model.specs.Sets.{are_distinct, fit}

pub same_found : {A B : Type 0} (a c : A) (b d : B) → ◌≡◌ {A = Option (A × B)} (Some (a, b)) (Some (c, d)) → (a ≡ c) × (b ≡ d)
same_found {A} {B} a c b d e = let pair : ◌≡◌ {A = A × B} (a, b) (c, d) = cc in (ap (λ p. p.0) pair, ap (λ p. p.1) pair)

-- a text between a byte and more bytes
pub record TextParts (first : ℕ) (rest : List ℕ) (kind : ℕ) (text end : List ℕ) : Type 0 where
  pub is_kind : first ≡ kind
  pub is_text : take 61 rest ≡ text_bytes text
  pub is_end : drop 61 rest ≡ end

pub text_parts : (first : ℕ) (rest : List ℕ) (kind : ℕ) (text end : List ℕ) → length text ≤ 60 → first ∷ rest ≡ kind ∷ (text_bytes text ++ end) → TextParts first rest kind text end
text_parts first rest kind text end short e =
    let tail : rest ≡ text_bytes text ++ end = ap (λ xs. drop 1 xs) e in
    record {
      is_kind = ap (λ xs. get_or xs 0 0) e;
      is_text = front_is 61 rest (text_bytes text) end tail (length_text text short);
      is_end = behind_is 61 rest (text_bytes text) end tail (length_text text short);
    }

pub text_joined : (rest text end : List ℕ) → take 61 rest ≡ text_bytes text → drop 61 rest ≡ end → rest ≡ text_bytes text ++ end
text_joined rest text end front behind = joined 61 rest (text_bytes text) end front behind

pub length_named : (kind : ℕ) (word : List ℕ) → length word ≤ 60 → length (named kind word) ≡ 64
length_named kind word short = omega (arith, length_text word short, length-append (text_bytes word) (zeros 2), length_zeros 2)

pub length_start : (name : List ℕ) (count : ℕ) → length name ≤ 60 → length (file_start name count) ≡ 64
length_start name count short = omega (arith, length_text name short, length-append (text_bytes name) (count ∷ 0 ∷ []))

pub length_numbers : (width : ℕ) (ns : List ℕ) → length ns ≤ 16 → length (numbers width ns) ≡ 16 * width
length_numbers width ns few =
    length_padded (16 * width) (wide width ns)
    (subst (λ n. n ≤ 16 * width) (sym (length_wide width ns ∙ mul_comm width (length ns))) (mul-le-mul_right width few))

-- a number has at most four bytes
pub narrow : (version : ℕ) → number_width version ≤ 4
narrow version = by (version == 3)
  where
    by : (three : Bool) → (if three then 4 else 2) ≤ 4
    by true = omega arith
    by false = omega arith

-- up to 16 numbers have room in their field
pub numbers_room : (version count : ℕ) → count ≤ 16 → number_width version * count ≤ 16 * number_width version
numbers_room version count few = subst (λ n. n ≤ 16 * number_width version) (mul_comm count (number_width version)) (mul-le-mul_right (number_width version) few)

-- how many bytes are behind the fields of a file slot
abbrev pub gap : ℕ → ℕ
gap version = 256 - (64 + 4 + 2 * (16 * number_width version))

-- the fields of a file slot are those of the record
pub record FileParts (version : ℕ) (start size tags blocks end : List ℕ) (rec : FileRecord) : Type 0 where
  pub is_start : start ≡ file_start rec.name (length rec.tags)
  pub is_size : size ≡ little_bytes 4 rec.size
  pub is_tags : tags ≡ numbers (number_width version) rec.tags
  pub is_blocks : blocks ≡ numbers (number_width version) rec.blocks
  pub is_end : end ≡ zeros (gap version)

-- what the test of a file slot's value says
pub record IsFileRecord (limits : Limits) (rec : FileRecord) : Type 0 where
  pub name : IsTrue (is_file_name rec.name)
  pub small : rec.size ≤ file_limit limits
  pub tags : IsTrue (are_tags limits.version rec.tags)
  pub blocks : IsTrue (are_blocks limits.version rec.size rec.blocks)

pub record_tests : (limits : Limits) (rec : FileRecord) → IsTrue (is_record limits rec) → IsFileRecord limits rec
record_tests limits rec h =
    let most = and_parts (is_file_name rec.name && nat_le rec.size (file_limit limits) && are_tags limits.version rec.tags) (are_blocks limits.version rec.size rec.blocks) h in
    let more = and_parts (is_file_name rec.name && nat_le rec.size (file_limit limits)) (are_tags limits.version rec.tags) most.0 in
    let two = and_parts (is_file_name rec.name) (nat_le rec.size (file_limit limits)) more.0 in
    record { name = two.0; small = leb-true rec.size (file_limit limits) two.1; tags = more.1; blocks = most.1 }

pub few_tags : (version : ℕ) (tags : List ℕ) → IsTrue (are_tags version tags) → length tags ≤ 16
few_tags version tags h = leb-true (length tags) 16 (and_parts _ _ (and_parts _ _ h).0).0

pub few_blocks : (version size : ℕ) (blocks : List ℕ) → IsTrue (are_blocks version size blocks) → length blocks ≡ slot_blocks version size
few_blocks version size blocks h = eqb-true (length blocks) (slot_blocks version size) (and_parts _ _ (and_parts _ _ h).0).0

-- a file of any version has at most 67,108,864 bytes
pub size_fits : (limits : Limits) (size : ℕ) → size ≤ file_limit limits → size ≤ 67108864
size_fits limits size small = omega (arith, small, limit_le limits)

-- the numbers of a slot: those of the blocks of the content, if it may number these itself, and otherwise those of the index blocks
abbrev numbers_by : Bool → ℕ → ℕ
numbers_by own needed = let index = if own then 0 else (needed + 1023) / 1024 in if index == 0 then needed else index

-- if the content has few blocks, the slot numbers them itself, in each version
pub slot_small : (version size : ℕ) → blocks_needed size ≤ 16 → slot_blocks version size ≡ blocks_needed size
slot_small version size few =
    ap (λ own. numbers_by own (blocks_needed size)) (or_right (version == 1) (nat_le (blocks_needed size) 16) (le-leb (blocks_needed size) 16 few))

-- in each version a slot has room for the block numbers
pub slot_room : (limits : Limits) (size : ℕ) → size ≤ file_limit limits → slot_blocks limits.version size ≤ 16
slot_room limits size small = by ((limits.version == 1) || nat_le (blocks_needed size) 16) refl
  where
    first : (limits.version == 1) ≡ true → blocks_needed size ≤ 16
    first one =
        let little : size ≤ 65536 = subst (λ b. size ≤ (if b then 65536 else if limits.version == 2 then 1048576 else min 67108864 (4096 * limits.blocks))) one small in
        omega (arith, little)

    numbered : (none : Bool) → ((blocks_needed size + 1023) / 1024 == 0) ≡ none → (if none then blocks_needed size else (blocks_needed size + 1023) / 1024) ≤ 16
    numbered true e = let no = eqb-true ((blocks_needed size + 1023) / 1024) 0 e in omega (arith, no)
    numbered false e = omega (arith, size_fits limits size small)

    by : (own : Bool) → ((limits.version == 1) || nat_le (blocks_needed size) 16) ≡ own → numbers_by own (blocks_needed size) ≤ 16
    by true e = elim (or_cases (limits.version == 1) (nat_le (blocks_needed size) 16) e) [ inl one ↦ first one | inr few ↦ leb-true (blocks_needed size) 16 few ]
    by false e = numbered ((blocks_needed size + 1023) / 1024 == 0) refl

-- a file has at most 16 block numbers in its slot
pub few_numbers : (limits : Limits) (rec : FileRecord) → IsFileRecord limits rec → length rec.blocks ≤ 16
few_numbers limits rec tests =
    let room = slot_room limits rec.size tests.small in
    omega (arith, few_blocks limits.version rec.size rec.blocks tests.blocks, room)

-- two spellings of two parts each, the first of one width
same_parts : (a b c d : List ℕ) → a ++ b ≡ c ++ d → length a ≡ length c → (a ≡ c) × (b ≡ d)
same_parts a b c d e len =
    (sym (take_at a b (length a) refl) ∙ front_is (length a) (a ++ b) c d e (sym len), sym (drop_at a b (length a) refl) ∙ behind_is (length a) (a ++ b) c d e (sym len))

pub file_parts : (start size tags blocks end : List ℕ) (limits : Limits) (rec : FileRecord) → IsTrue (is_record limits rec)
    → start ++ (size ++ (tags ++ (blocks ++ end))) ≡ record_bytes limits.version rec
    → length start ≡ 64 → length size ≡ 4 → length tags ≡ 16 * number_width limits.version → length blocks ≡ 16 * number_width limits.version
    → FileParts limits.version start size tags blocks end rec
file_parts start size tags blocks end limits rec is e start_len size_len tags_len blocks_len =
    let width = number_width limits.version in
    let last = zeros (gap limits.version) in
    let tests = record_tests limits rec is in
    let few = few_numbers limits rec tests in
    let one = same_parts start (size ++ (tags ++ (blocks ++ end))) (file_start rec.name (length rec.tags)) (little_bytes 4 rec.size ++ (numbers width rec.tags ++ (numbers width rec.blocks ++ last))) e
    (start_len ∙ sym (length_start rec.name (length rec.tags) (name_short rec.name tests.name))) in
    let two = same_parts size (tags ++ (blocks ++ end)) (little_bytes 4 rec.size) (numbers width rec.tags ++ (numbers width rec.blocks ++ last)) one.1 size_len in
    let three = same_parts tags (blocks ++ end) (numbers width rec.tags) (numbers width rec.blocks ++ last) two.1
    (tags_len ∙ sym (length_numbers width rec.tags (few_tags limits.version rec.tags tests.tags))) in
    let four = same_parts blocks end (numbers width rec.blocks) last three.1 (blocks_len ∙ sym (length_numbers width rec.blocks few)) in
    record { is_start = one.0; is_size = two.0; is_tags = three.0; is_blocks = four.0; is_end = four.1 }

pub file_joined : (version : ℕ) (start size tags blocks end : List ℕ) (rec : FileRecord) → FileParts version start size tags blocks end rec
    → start ++ (size ++ (tags ++ (blocks ++ end))) ≡ record_bytes version rec
file_joined version start size tags blocks end rec parts =
    ap₂ (λ x y. x ++ y) parts.is_start (ap₂ (λ x y. x ++ y) parts.is_size (ap₂ (λ x y. x ++ y) parts.is_tags (ap₂ (λ x y. x ++ y) parts.is_blocks parts.is_end)))

pub length_record : (limits : Limits) (rec : FileRecord) → IsTrue (is_record limits rec) → length (record_bytes limits.version rec) ≡ 256
length_record limits rec is =
    let width = number_width limits.version in
    let tests = record_tests limits rec is in
    let few = few_numbers limits rec tests in
    let start_len = length_start rec.name (length rec.tags) (name_short rec.name tests.name) in
    let tags_len = length_numbers width rec.tags (few_tags limits.version rec.tags tests.tags) in
    let blocks_len = length_numbers width rec.blocks few in
    let last = zeros (gap limits.version) in
    length-append (file_start rec.name (length rec.tags)) (little_bytes 4 rec.size ++ (numbers width rec.tags ++ (numbers width rec.blocks ++ last)))
    ∙ omega (arith, start_len, tags_len, blocks_len, length-append (numbers width rec.tags) (numbers width rec.blocks ++ last), length-append (numbers width rec.blocks) last, length_zeros (gap limits.version), narrow limits.version)

pub length_file : (limits : Limits) (slot : FileSlot) → IsTrue (is_file limits slot) → length (file_bytes limits.version slot) ≡ 256
unfolding file_bytes
length_file limits FreeFile is = length_zeros 256
length_file limits (Used rec) is = length_record limits rec is

pub undeclared_word : (word : List ℕ) → IsTrue (is_undeclared word) → IsTrue (is_property word)
undeclared_word word h =
    word_is_property word
    (elim (or_cases (is_valued word) (is_head word && is_built_in word) h) [
      | inl valued ↦ or_right (is_plain_word word || is_head word) (is_valued word) valued
      | inr head ↦ or_left (is_plain_word word || is_head word) (is_valued word) (or_right (is_plain_word word) (is_head word) (and_parts (is_head word) (is_built_in word) head).0)
    ])

pub declarable_word : (word : List ℕ) → IsTrue (is_declarable word) → IsTrue (is_property word)
declarable_word word h =
    elim (or_cases (is_plain_word word || is_test word) (is_head word && not (is_built_in word)) h) [
      | inl early ↦ elim (or_cases (is_plain_word word) (is_test word) early) [
        | inl plain ↦ word_is_property word (or_left (is_plain_word word || is_head word) (is_valued word) (or_left (is_plain_word word) (is_head word) plain))
        | inr test ↦ or_right (is_word word) (is_test word) test
      ]
      | inr head ↦ word_is_property word (or_left (is_plain_word word || is_head word) (is_valued word) (or_right (is_plain_word word) (is_head word) (and_parts (is_head word) (not (is_built_in word)) head).0))
    ]

pub length_prop : (slot : PropSlot) → IsTrue (is_prop slot) → length (prop_bytes slot) ≡ 64
unfolding prop_bytes
length_prop FreeProp is = length_zeros 64
length_prop (Known word) is = length_named 1 word (property_short word (undeclared_word word is))
length_prop (Declared word) is = length_named 2 word (property_short word (declarable_word word is))

abbrev record_of : List ℕ → ℕ → List ℕ → List ℕ → FileRecord
record_of name size tags blocks = record { name = name; size = size; tags = tags; blocks = blocks }

-- the fields of a record are all of it
pub same_record : (a b : FileRecord) → a.name ≡ b.name → a.size ≡ b.size → a.tags ≡ b.tags → a.blocks ≡ b.blocks → a ≡ b
same_record a b name size tags blocks =
    ap (λ x. record_of x a.size a.tags a.blocks) name ∙ (ap (λ x. record_of b.name x a.tags a.blocks) size
    ∙ (ap (λ x. record_of b.name b.size x a.blocks) tags ∙ ap (λ x. record_of b.name b.size b.tags x) blocks))

pub record_from : (limits : Limits) (rec : FileRecord) → IsTrue (is_file_name rec.name) → rec.size ≤ file_limit limits → IsTrue (are_tags limits.version rec.tags)
    → IsTrue (are_blocks limits.version rec.size rec.blocks) → IsTrue (is_record limits rec)
record_from limits rec name small tags blocks =
    and_from (is_file_name rec.name && nat_le rec.size (file_limit limits) && are_tags limits.version rec.tags) (are_blocks limits.version rec.size rec.blocks)
    (and_from (is_file_name rec.name && nat_le rec.size (file_limit limits)) (are_tags limits.version rec.tags)
    (and_from (is_file_name rec.name) (nat_le rec.size (file_limit limits)) name (le-leb rec.size (file_limit limits) small)) tags)
    blocks

-- what a slot of version 1 may say, one of version 2 may say too
pub file_upgraded : (limits : Limits) (slot : FileSlot) → limits.version ≡ 1 → IsTrue (is_file limits slot) → IsTrue (is_file (with_version 2 limits) slot)
file_upgraded limits FreeFile one is = refl
file_upgraded limits (Used rec) one is =
    let first : IsTrue (is_record (with_version 1 limits) rec) = subst (λ version. IsTrue (is_record (with_version version limits) rec)) one is in
    let tests = record_tests (with_version 1 limits) rec first in
    let few : blocks_needed rec.size ≤ 16 = omega (arith, tests.small) in
    record_from (with_version 2 limits) rec tests.name (omega (arith, tests.small)) tests.tags
    (subst (λ n. IsTrue ((length rec.blocks == n) && fit 2 rec.blocks && are_distinct rec.blocks)) (sym (slot_small 2 rec.size few)) tests.blocks)

-- and both spell it alike
pub file_respelled : (slot : FileSlot) → file_bytes 1 slot ≡ file_bytes 2 slot
unfolding file_bytes
file_respelled FreeFile = refl
file_respelled (Used rec) = refl
