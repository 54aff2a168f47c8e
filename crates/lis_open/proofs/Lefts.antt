-- Rows of the left sides of axioms and of their heads, and the words that are not in use.
use Rattle.std.proofs.Common.{rules}
use Rattle.std.proofs.Common.{min, ◌↔◌}
use Rattle.lis_open.proofs.Common.{◌≡◌, ◌∙◌, inl, inr, sym, ap, ap₂, ℕ, ◌+◌, ◌*◌, ◌/◌, ◌<◌, ◌≤◌, ◌==◌, Bool, are_in_range, image_blocks, false, List, length, IsTrue, arith, subst, refl, if◌then◌else◌, ◌&&◌, ◌||◌, not, true, cond, Some, None, is_some, list_all, bits_bytes, has, Limits, slot, Row, row_slots, both_ways, list_any, or-false, HasShape, get, with_row, is_taken, Dict, IsDict, word_of, AxiomSlot, Metadata, is_head_by, is_had, is_left_of, is_left_head_of, is_used, Rows}
use Rattle.lis_fields.specs.Layouts.{zeros, set_bytes}
use Rattle.std.proofs.lemmas.Bool.Decides.{nat_tests}
use Rattle.lis_bits.proofs.Numbers.{bytes_none}
use Rattle.lis_ext.specs.Ext.{Ext, set_of}
use Rattle.lis_fields.proofs.Widths.{zeros_pass, zeros_of}
use Rattle.lis_kept.specs.Areas.{set_slots}
use Rattle.lis_kept.specs.Areas.Area.{Rows as RowArea, Sets as SetArea}
use Rattle.lis_kept.proofs.InArea.{in_area, some_are_early}
use Rattle.lis_model.specs.Image.{descriptions_start, description_blocks}
use Rattle.lis_model.specs.declared.spot.Spot.TheVariants.{Set}
use Rattle.lis_model.proofs.Ranges.{early_descriptions, early_limits, each_files_limit, few_parts}
use Rattle.lis_open.specs.ReadAll.{IsRowSpelled, IsFirstRow, row_place, IsSetSpelled, IsFirstSet, is_stray}
use Rattle.lis_kept.specs.Rows.{row_bytes}
use Rattle.std.proofs.Math.Bool.{or-true, or_assoc}
use Rattle.std.proofs.lemmas.Bool.{and_right}
use Rattle.lis_bits.proofs.Laws.{get-with_row_same, shaped as still_shaped}
use Rattle.lis_open.proofs.AxiomsRead.{head_test}
use Rattle.lis_kept.proofs.Used.{is_at, any_or}
use Rattle.lis_open.specs.ReadWords.{head_by}

-- a row of which no bit is set is all zeros
pub zero_row : (n : ℕ) (bit : ℕ → Bool) → ((i : ℕ) → bit i ≡ false) → bits_bytes n bit ≡ zeros n
unfolding zeros
zero_row n bit none = sym (bytes_none n bit none)

-- the row of a number that no file has
pub no_file_has : (e : Ext) (files number : ℕ) → length e.sets ≡ files → ((slot : ℕ) → has e number slot ≡ false) → row_bytes e number ≡ zeros (files / 8)
no_file_has e files number count none = ap (λ n. bits_bytes (n / 8) (has e number)) count ∙ zero_row (files / 8) (has e number) none

-- it equals bytes that are all zero
pub zeros_decide : (e : Ext) (files number : ℕ) (bytes : List ℕ) (all : Bool) → length e.sets ≡ files → length bytes ≡ files / 8 → ((slot : ℕ) → has e number slot ≡ false)
    → all ≡ list_all (λ b. b == 0) bytes → IsTrue all ↔ (bytes ≡ row_bytes e number)
zeros_decide e files number bytes all count width none is = search (rules, zeros_of, no_file_has, zeros_pass)

-- ---- rows as they are read
-- there are few of them
pub few_rows : (limits : Limits) → IsTrue (are_in_range limits) → (limits.version == 3) ≡ false → 4096 / (limits.files / 8) * description_blocks limits ≤ 2000000
few_rows limits range early = subst (λ n. 4096 / (limits.files / 8) * n ≤ 2000000) (sym (early_descriptions limits early)) counted
  where
    few : limits.props ≤ 8192
    few = (few_parts limits range early).props

    counted : 4096 / (limits.files / 8) * ((limits.props * limits.files + 32767) / 32768) ≤ 2000000
    counted =
        each_files_limit (λ files. 4096 / (files / 8) * ((limits.props * files + 32767) / 32768) ≤ 2000000) limits.files (early_limits limits range early).files
        (omega (arith, few)) (omega (arith, few)) (omega (arith, few)) (omega (arith, few)) (omega (arith, few)) (omega (arith, few)) (omega (arith, few))

-- if there is a row, it is not wide
pub row_narrow : (limits : Limits) (p : ℕ) → IsTrue (are_in_range limits) → p < (row_slots limits).count → limits.files ≤ 4096
row_narrow limits p range lt = (few_parts limits range (some_are_early limits p lt)).files

-- each has its place before the bitmap
pub row_within : (limits : Limits) (p width first blocks : ℕ) → IsTrue (are_in_range limits) → p < (row_slots limits).count → width ≡ limits.files / 8 → first ≡ descriptions_start limits → blocks ≡ image_blocks limits
    → first + p / (4096 / width) < blocks
row_within limits p width first blocks range lt is_width is_first is_blocks =
    let inside = in_area limits range RowArea p lt in
    let same : p / (4096 / width) ≡ p / (4096 / (limits.files / 8)) = ap (λ w. p / (4096 / w)) is_width in
    omega (arith, inside.1, same, is_first, is_blocks)

pub row_read : (limits : Limits) (kept : ℕ → List ℕ) (ext : Ext) (p first width : ℕ) (buf : List ℕ) (same : Bool) → first ≡ descriptions_start limits → width ≡ limits.files / 8
    → ((count : ℕ) → buf ≡ slot (record { first = first; count = count; width = width }) kept p) → (IsTrue same ↔ (buf ≡ row_bytes ext p)) → IsTrue same ↔ IsRowSpelled limits kept ext p
row_read limits kept ext p first width buf same start wide read test =
    let there : slot (row_slots limits) kept p ≡ buf =
    ap₂ (λ a w. slot (record { first = a; count = (row_slots limits).count; width = w }) kept p) (sym start) (sym wide) ∙ sym (read (row_slots limits).count) in
    (λ yes. there ∙ test.0 yes, λ spelled. test.1 (sym there ∙ spelled))

abbrev pub SameBelow : Limits → (ℕ → List ℕ) → Ext → ℕ → Type 0
SameBelow limits kept ext end = (q : ℕ) → q < end → IsRowSpelled limits kept ext q

pub row_place_is : (limits : Limits) (p : ℕ) → row_place limits p ≡ min p limits.props
row_place_is limits p = grind (arith, nat_tests)

-- the first row that is not spelled as memory requires
pub first_row : (limits : Limits) (kept : ℕ → List ℕ) (ext : Ext) (p place : ℕ) (same : Bool) → p < (row_slots limits).count → place ≡ min p limits.props → (IsTrue same ↔ IsRowSpelled limits kept ext p) → same ≡ false
    → SameBelow limits kept ext p → (q : ℕ) × (Row place ≡ Row (row_place limits q)) × IsFirstRow limits kept ext q
first_row limits kept ext p place same below is test differs before = search (rules, row_place_is, both_ways)

-- ---- sets as they are read
-- each has its place before the bitmap
pub set_within : (limits : Limits) (i first blocks : ℕ) → IsTrue (are_in_range limits) → i < (set_slots limits).count → first ≡ descriptions_start limits → blocks ≡ image_blocks limits → first + i / 8 < blocks
set_within limits i first blocks range lt is_first is_blocks = let inside = in_area limits range SetArea i lt in omega (arith, inside.1, is_first, is_blocks)

pub set_read : (limits : Limits) (kept : ℕ → List ℕ) (ext : Ext) (i first : ℕ) (buf : List ℕ) (same : Bool) → first ≡ descriptions_start limits
    → ((count : ℕ) → buf ≡ slot (record { first = first; count = count; width = 512 }) kept i) → (IsTrue same ↔ (buf ≡ set_bytes (set_of ext i))) → IsTrue same ↔ IsSetSpelled limits kept ext i
set_read limits kept ext i first buf same start read test =
    let there : slot (set_slots limits) kept i ≡ buf = ap (λ a. slot (record { first = a; count = (set_slots limits).count; width = 512 }) kept i) (sym start) ∙ sym (read (set_slots limits).count) in
    (λ yes. there ∙ test.0 yes, λ spelled. test.1 (sym there ∙ spelled))

-- the first set that is not spelled as memory requires
pub first_set : (limits : Limits) (kept : ℕ → List ℕ) (ext : Ext) (i : ℕ) (same : Bool) → i < (set_slots limits).count → (IsTrue same ↔ IsSetSpelled limits kept ext i) → same ≡ false
    → ((j : ℕ) → j < i → IsSetSpelled limits kept ext j) → (j : ℕ) × (Set i ≡ Set j) × IsFirstSet limits kept ext j
first_set limits kept ext i same below test differs before = (i, refl, record { below = below; differs = λ spelled. both_ways same differs (test.1 spelled); same_before = before })

-- ---- rows of the left sides of axioms and of their heads, and the words that are not in use
-- a row keeps its shape when it is set
pub shaped : (r : Rows) (rows bits row : ℕ) (value : ℕ → Bool) (next : Rows) → HasShape r rows bits → next ≡ with_row r row value → HasShape next rows bits
shaped r rows bits row value next shape is = subst (λ (x : Rows). HasShape x rows bits) (sym is) (still_shaped r rows bits row value shape)

put_or : (n m : ℕ) (b : Bool) → cond (n == m) true b ≡ (b || (m == n))
put_or n m b = grind (arith, nat_tests)

-- one bit more
pub bit_put : (r next : Rows) (bits m n : ℕ) → HasShape r 1 bits → next ≡ with_row r 0 (λ j. if j == m then true else get r 0 j) → n < bits → get next 0 n ≡ (get r 0 n || (m == n))
bit_put r next bits m n shape is below = search (rules, get-with_row_same, put_or)

pub no_bit_set : (r next : Rows) (bits n : ℕ) → HasShape r 1 bits → next ≡ with_row r 0 (λ _. false) → n < bits → get next 0 n ≡ false
no_bit_set r next bits n shape is below = search (rules, get-with_row_same)

-- ---- the left side of one axiom
module _ (d : Dict) (dict : IsDict d) (left n : ℕ) where
  abbrev is_marked : Bool
  is_marked = (left == n) || is_head_by (word_of d left) (word_of d n)

  pub left_marked : (old mid : Rows) (bits : ℕ) → HasShape old 1 bits → mid ≡ with_row old 0 (λ j. if j == left then true else get old 0 j) → head_by d (word_of d left) ≡ None → n < bits
      → get mid 0 n ≡ (get old 0 n || is_marked)
  left_marked old mid bits shape is none below =
      bit_put old mid bits left n shape is below
      ∙ ap (λ b. get old 0 n || b) (sym (or-false (left == n)) ∙ ap (λ b. (left == n) || b) (sym (ap (λ o. is_at o n) none) ∙ head_test d dict (word_of d left) n))

  pub both_marked : (old mid new : Rows) (bits head : ℕ) → HasShape old 1 bits → mid ≡ with_row old 0 (λ j. if j == left then true else get old 0 j) → head_by d (word_of d left) ≡ Some head
      → new ≡ with_row mid 0 (λ j. if j == head then true else get mid 0 j) → n < bits → get new 0 n ≡ (get old 0 n || is_marked)
  both_marked old mid new bits head shape is some then_is below =
      bit_put mid new bits head n (shaped old 1 bits 0 _ mid shape is) then_is below
      ∙ (ap (λ b. b || (head == n)) (bit_put old mid bits left n shape is below)
      ∙ (or_assoc (get old 0 n) (left == n) (head == n) ∙ ap (λ b. get old 0 n || ((left == n) || b)) (sym (ap (λ o. is_at o n) some) ∙ head_test d dict (word_of d left) n)))

-- ---- words that are not in use
-- by a row of left sides
pub stray_by_row : (k : Metadata) (n : ℕ) (bit : Bool) → bit ≡ list_any (λ (slot : AxiomSlot). is_left_of n slot || is_left_head_of k.dict n slot) k.axioms
    → (is_some (word_of k.dict n) && not (is_taken k.declared n || is_had k.ext n || bit)) ≡ is_stray k n
stray_by_row k n bit told = ap (λ b. is_some (word_of k.dict n) && not (is_taken k.declared n || is_had k.ext n || b)) (told ∙ any_or (is_left_of n) (is_left_head_of k.dict n) k.axioms)

pub no_stray_past : (k : Metadata) (n : ℕ) → word_of k.dict n ≡ None → is_stray k n ≡ false
no_stray_past k n none = ap (λ o. is_some o && not (is_used k n)) none

-- the test of one number, by its parts
pub stray_not : (named declared had left : Bool) → had ≡ true → false ≡ (named && not (declared || had || left))
stray_not named declared had left is = rw is (sym (and_right named (not (declared || true || left)) (ap (λ b. not (b || left)) (or-true declared))))

pub stray_is : (named declared had left : Bool) → named ≡ true → declared ≡ false → had ≡ false → not left ≡ (named && not (declared || had || left))
stray_is named declared had left is none free = rw (is, none, free) refl
