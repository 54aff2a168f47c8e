-- What holds of limits in range, and of those of versions before 3.
use Rattle.std.proofs.Common.{◌≡◌, ℕ, ◌+◌, ◌*◌, ◌/◌, ◌≤◌, ◌%◌, ◌==◌, ◌||◌, ◌&&◌, ◌⊎◌, nat_le, Bool, true, false, cond, IsTrue, inl, inr, sym, subst, refl, ap, arith, ◌∙◌}
use Rattle.std.specs.List.{list_any, range_with_len}
use Rattle.std.proofs.lemmas.Bool.{and_parts, and_from, or_cases, eqb-true, leb-true, le-leb}
use Rattle.std.proofs.lemmas.Bool.Decides.{nat_tests}
use Rattle.std.specs.Prelude.{◌^◌, min}
use Rattle.std.proofs.Math.Nat.{min-le_left}
use Rattle.std.proofs.lemmas.Nat.{mul-le}
use Rattle.lis_model.specs.declared.limits.Limits.{Limits}
use Rattle.lis_model.specs.Ranges.{most_files, most_props, most_blocks, is_files_limit, is_props_limit, is_blocks_limit, is_version, are_in_range}
use Rattle.lis_model.specs.State.{file_limit}
use Rattle.lis_model.specs.Image.{record_blocks, description_blocks, bitmap_blocks}

-- ---- the limits of a version
pub record AreLimitsOf (version : ℕ) (limits : Limits) : Type 0 where
  pub files : is_files_limit version limits.files ≡ true
  pub props : is_props_limit version limits.props ≡ true
  pub blocks : is_blocks_limit version limits.blocks ≡ true

pub own_limits : (limits : Limits) → IsTrue (are_in_range limits) → AreLimitsOf limits.version limits
own_limits limits h =
    let v = limits.version in
    let three = and_parts (is_files_limit v limits.files && is_props_limit v limits.props && is_blocks_limit v limits.blocks) (is_version v) h in
    let two = and_parts (is_files_limit v limits.files && is_props_limit v limits.props) (is_blocks_limit v limits.blocks) three.0 in
    let one = and_parts (is_files_limit v limits.files) (is_props_limit v limits.props) two.0 in
    record { files = one.0; props = one.1; blocks = two.1 }

pub own_version : (limits : Limits) → IsTrue (are_in_range limits) → is_version limits.version ≡ true
own_version limits h =
    let v = limits.version in
    (and_parts (is_files_limit v limits.files && is_props_limit v limits.props && is_blocks_limit v limits.blocks) (is_version v) h).1

-- versions 1 and 2 have the same limits
pub early_limits : (limits : Limits) → IsTrue (are_in_range limits) → (limits.version == 3) ≡ false → AreLimitsOf 2 limits
early_limits limits h other =
    let own = own_limits limits h in
    record {
      files = sym (ap (λ third. list_any (λ k. limits.files == 2 ^ k) (range_with_len 6 13) && nat_le limits.files (cond third 262144 4096)) other) ∙ own.files;
      props = sym (ap (λ third. nat_le 64 limits.props && nat_le limits.props (cond third 1048576 8192) && (limits.props % 64 == 0)) other) ∙ own.props;
      blocks = sym (ap (λ third. nat_le 1 limits.blocks && nat_le limits.blocks (cond third 16777216 32768)) other) ∙ own.blocks;
    }

-- all of them are limits of version 3
pub wide_limits : (limits : Limits) → IsTrue (are_in_range limits) → AreLimitsOf 3 limits
wide_limits limits h =
    let own = own_limits limits h in
    record {
      files = files_by (limits.version == 3) own.files;
      props = props_by (limits.version == 3) own.props;
      blocks = blocks_by (limits.version == 3) own.blocks;
    }
  where
    powers : Bool
    powers = list_any (λ k. limits.files == 2 ^ k) (range_with_len 6 13)

    files_by : (third : Bool) → (powers && nat_le limits.files (cond third 262144 4096)) ≡ true → (powers && nat_le limits.files 262144) ≡ true
    files_by true is = is
    files_by false is =
        let both = and_parts powers (nat_le limits.files 4096) is in
        and_from powers (nat_le limits.files 262144) both.0 (le-leb limits.files 262144 (omega (arith, leb-true limits.files 4096 both.1)))

    props_by : (third : Bool) → (nat_le 64 limits.props && nat_le limits.props (cond third 1048576 8192) && (limits.props % 64 == 0)) ≡ true → is_props_limit 3 limits.props ≡ true
    props_by true is = is
    props_by false is = grind (arith, nat_tests)

    blocks_by : (third : Bool) → (nat_le 1 limits.blocks && nat_le limits.blocks (cond third 16777216 32768)) ≡ true → is_blocks_limit 3 limits.blocks ≡ true
    blocks_by true is = is
    blocks_by false is = grind (arith, nat_tests)

-- ---- what holds of each limit
pub files_few : (n : ℕ) → is_files_limit 2 n ≡ true → n ≤ 4096
files_few n is = leb-true n 4096 (and_parts (list_any (λ k. n == 2 ^ k) (range_with_len 6 13)) (nat_le n 4096) is).1

pub props_few : (n : ℕ) → is_props_limit 2 n ≡ true → n ≤ 8192
props_few n is = grind (arith, nat_tests)

pub props_some : (n : ℕ) → is_props_limit 3 n ≡ true → 64 ≤ n
props_some n is = grind (arith, nat_tests)

pub props_whole : (n : ℕ) → is_props_limit 3 n ≡ true → n % 64 ≡ 0
props_whole n is = grind (arith, nat_tests)

pub blocks_few : (n : ℕ) → is_blocks_limit 2 n ≡ true → n ≤ 32768
blocks_few n is = grind (arith, nat_tests)

pub blocks_some : (n : ℕ) → is_blocks_limit 3 n ≡ true → 1 ≤ n
blocks_some n is = grind (arith, nat_tests)

either : (P : ℕ → Type 0) (n m : ℕ) (rest : Bool) → ((n == m) || rest) ≡ true → P m → (rest ≡ true → P n) → P n
either P n m rest is here others = elim (or_cases (n == m) rest is) [ inl e ↦ subst P (sym (eqb-true n m e)) here | inr r ↦ others r ]

-- what holds of 13 powers of two holds of a limit of files
each_power : (P : ℕ → Type 0) (n : ℕ) → list_any (λ k. n == 2 ^ k) (range_with_len 6 13) ≡ true
    → P 64 → P 128 → P 256 → P 512 → P 1024 → P 2048 → P 4096 → P 8192 → P 16384 → P 32768 → P 65536 → P 131072 → P 262144 → P n
each_power P n is p6 p7 p8 p9 p10 p11 p12 p13 p14 p15 p16 p17 p18 =
    either P n 64 _ is p6 (λ r7.
    either P n 128 _ r7 p7 (λ r8. either P n 256 _ r8 p8 (λ r9. either P n 512 _ r9 p9 (λ r10.
    either P n 1024 _ r10 p10 (λ r11. either P n 2048 _ r11 p11 (λ r12. either P n 4096 _ r12 p12 (λ r13.
    either P n 8192 _ r13 p13 (λ r14. either P n 16384 _ r14 p14 (λ r15. either P n 32768 _ r15 p15 (λ r16.
    either P n 65536 _ r16 p16 (λ r17. either P n 131072 _ r17 p17 (λ r18. either P n 262144 _ r18 p18 (λ e. absurd (cc))))))))))))))

pub each_files_limit : (P : ℕ → Type 0) (n : ℕ) → is_files_limit 2 n ≡ true → P 64 → P 128 → P 256 → P 512 → P 1024 → P 2048 → P 4096 → P n
each_files_limit P n is p6 p7 p8 p9 p10 p11 p12 =
    each_power Q n both.0 (λ _. p6) (λ _. p7) (λ _. p8) (λ _. p9) (λ _. p10) (λ _. p11) (λ _. p12)
    (none 8192 refl) (none 16384 refl) (none 32768 refl) (none 65536 refl) (none 131072 refl) (none 262144 refl) both.1
  where
    Q : ℕ → Type 0
    Q m = nat_le m 4096 ≡ true → P m

    both : (list_any (λ k. n == 2 ^ k) (range_with_len 6 13) ≡ true) × (nat_le n 4096 ≡ true)
    both = and_parts (list_any (λ k. n == 2 ^ k) (range_with_len 6 13)) (nat_le n 4096) is

    none : (m : ℕ) → nat_le m 4096 ≡ false → Q m
    none m e f = absurd (cc)

pub files_whole : (n : ℕ) → is_files_limit 3 n ≡ true → n % 64 ≡ 0
files_whole n is =
    each_power (λ m. m % 64 ≡ 0) n (and_parts (list_any (λ k. n == 2 ^ k) (range_with_len 6 13)) (nat_le n 262144) is).0
    refl refl refl refl refl refl refl refl refl refl refl refl refl

pub files_some : (n : ℕ) → is_files_limit 3 n ≡ true → 64 ≤ n
files_some n is =
    each_power (λ m. 64 ≤ m) n (and_parts (list_any (λ k. n == 2 ^ k) (range_with_len 6 13)) (nat_le n 262144) is).0
    (omega arith) (omega arith) (omega arith) (omega arith) (omega arith) (omega arith) (omega arith)
    (omega arith) (omega arith) (omega arith) (omega arith) (omega arith) (omega arith)

-- no more than in version 3
pub record FewLimits (limits : Limits) : Type 0 where
  pub files : limits.files ≤ 262144
  pub props : limits.props ≤ 1048576
  pub blocks : limits.blocks ≤ 16777216

pub few_limits : (limits : Limits) → IsTrue (are_in_range limits) → FewLimits limits
few_limits limits h =
    let wide = wide_limits limits h in
    let files = and_parts (list_any (λ k. limits.files == 2 ^ k) (range_with_len 6 13)) (nat_le limits.files 262144) wide.files in
    record { files = leb-true _ _ files.1; props = props_few_3 limits.props wide.props; blocks = blocks_few_3 limits.blocks wide.blocks }
  where
    props_few_3 : (n : ℕ) → is_props_limit 3 n ≡ true → n ≤ 1048576
    props_few_3 n is = grind (arith, nat_tests)

    blocks_few_3 : (n : ℕ) → is_blocks_limit 3 n ≡ true → n ≤ 16777216
    blocks_few_3 n is = grind (arith, nat_tests)

pub limit_le : (limits : Limits) → file_limit limits ≤ 67108864
limit_le limits = by (limits.version == 1) (limits.version == 2)
  where
    by : (one two : Bool) → cond one 65536 (cond two 1048576 (min 67108864 (4096 * limits.blocks))) ≤ 67108864
    by true two = omega arith
    by false true = omega arith
    by false false = min-le_left 67108864 (4096 * limits.blocks)

-- versions before 3
early_version : (n : ℕ) → is_version n ≡ true → (n == 3) ≡ false → (n ≡ 1) ⊎ (n ≡ 2)
early_version n is early = grind (arith, nat_tests)

pub early_limit_le : (limits : Limits) → IsTrue (are_in_range limits) → (limits.version == 3) ≡ false → file_limit limits ≤ 1048576
early_limit_le limits h early = of_version (early_version limits.version (own_version limits h) early)
  where
    limit_in : ℕ → Type 0
    limit_in v = cond (v == 1) 65536 (cond (v == 2) 1048576 (min 67108864 (4096 * limits.blocks))) ≤ 1048576

    of_version : (limits.version ≡ 1) ⊎ (limits.version ≡ 2) → limit_in limits.version
    of_version (inl one) = subst limit_in (sym one) (omega arith)
    of_version (inr two) = subst limit_in (sym two) (omega arith)

-- ---- the parts of an image
-- in versions 1 and 2 the parts have few blocks: 576 of records, and one of the bitmap
pub record FewParts (limits : Limits) : Type 0 where
  pub files : limits.files ≤ 4096
  pub props : limits.props ≤ 8192
  pub blocks : limits.blocks ≤ 32768
  pub records : record_blocks limits ≡ 576
  pub bitmap : bitmap_blocks limits ≡ 1
  pub rows : description_blocks limits ≡ (limits.props * limits.files + 32767) / 32768
  pub descriptions : description_blocks limits ≤ 1024

-- the bits of all rows can be counted
pub described_few : (limits : Limits) → IsTrue (are_in_range limits) → (limits.version == 3) ≡ false → limits.props * limits.files ≤ 33554432
described_few limits h other =
    let own = early_limits limits h other in
    omega (arith, mul-le limits.props limits.files 8192 4096 (props_few limits.props own.props) (files_few limits.files own.files))

early_records : (limits : Limits) → (limits.version == 3) ≡ false → record_blocks limits ≡ 576
unfolding record_blocks
early_records limits other = ap (λ third. cond third (limits.files / 8 + 1088) 576) other

pub early_descriptions : (limits : Limits) → (limits.version == 3) ≡ false → description_blocks limits ≡ (limits.props * limits.files + 32767) / 32768
unfolding description_blocks
early_descriptions limits other = ap (λ third. cond third (limits.files / 8) ((limits.props * limits.files + 32767) / 32768)) other

pub few_parts : (limits : Limits) → IsTrue (are_in_range limits) → (limits.version == 3) ≡ false → FewParts limits
few_parts limits h other =
    let own = early_limits limits h other in
    let rows = early_descriptions limits other in
    let wide = wide_limits limits h in
    record {
      files = files_few limits.files own.files;
      props = props_few limits.props own.props;
      blocks = blocks_few limits.blocks own.blocks;
      records = early_records limits other;
      bitmap = omega (arith, blocks_some limits.blocks wide.blocks, blocks_few limits.blocks own.blocks);
      rows = rows;
      descriptions = omega (arith, rows, described_few limits h other);
    }

-- in version 3 a set for each file, and a block of records for each block of sets besides 1,088
pub third_descriptions : (limits : Limits) → (limits.version == 3) ≡ true → description_blocks limits ≡ limits.files / 8
unfolding description_blocks
third_descriptions limits is = ap (λ third. cond third (limits.files / 8) ((limits.props * limits.files + 32767) / 32768)) is

pub third_records : (limits : Limits) → (limits.version == 3) ≡ true → record_blocks limits ≡ limits.files / 8 + 1088
unfolding record_blocks
third_records limits is = ap (λ third. cond third (limits.files / 8 + 1088) 576) is

-- few blocks have the words of the files
pub few_descriptions : (limits : Limits) → IsTrue (are_in_range limits) → description_blocks limits ≤ 32768
few_descriptions limits h = by (limits.version == 3) refl
  where
    by : (third : Bool) → (limits.version == 3) ≡ third → description_blocks limits ≤ 32768
    by true is = omega (arith, third_descriptions limits is, (few_limits limits h).files)
    by false is = omega (arith, (few_parts limits h is).descriptions)

pub few_records : (limits : Limits) → IsTrue (are_in_range limits) → record_blocks limits ≤ 33856
few_records limits h = by (limits.version == 3) refl
  where
    by : (third : Bool) → (limits.version == 3) ≡ third → record_blocks limits ≤ 33856
    by true is = omega (arith, third_records limits is, (few_limits limits h).files)
    by false is = omega (arith, early_records limits is)
