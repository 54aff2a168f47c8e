-- The parts of a super block, read back from their spelling, and what another gate makes of one.
use Rattle.std.proofs.Common.{◌≡◌, refl, sym, ap, ◌∙◌, subst, ℕ, ◌^◌, ◌%◌, ◌<◌, ◌==◌, nat_le, Bool, true, false, if◌then◌else◌, ◌&&◌, inl, inr, ◌⊎◌, List, ◌∷◌, ◌++◌, length, get_or, take, drop, IsTrue, arith}
use Rattle.std.proofs.lemmas.Bool.{and_parts, and_from, eqb-true}
use Rattle.std.proofs.lemmas.Bool.Decides.{nat_tests}
use Rattle.std.proofs.lemmas.List.{drop_more}
use Rattle.lis_model.specs.declared.limits.Limits.{Limits}
use Rattle.lis_model.specs.Ranges.{is_files_limit, is_props_limit, is_blocks_limit, is_version, are_in_range}
use Rattle.lis_model.proofs.Ranges.{early_limits, few_limits}
use Rattle.lis_fields.specs.Layouts.{zeros, super_start, super_numbers, gate_version, is_gate, version_gate, super_with, super_bytes, SpellsSuper}
use Rattle.lis_fields.proofs.Widths.{joined, same_number, length_zeros}

-- each limit has four bytes
pub record FitsSuper (limits : Limits) : Type 0 where
  pub files : limits.files < 256 ^ 4
  pub props : limits.props < 256 ^ 4
  pub blocks : limits.blocks < 256 ^ 4

pub super_fits : (limits : Limits) → IsTrue (are_in_range limits) → FitsSuper limits
super_fits limits h =
    let most = few_limits limits h in
    record { files = omega (arith, most.files); props = omega (arith, most.props); blocks = omega (arith, most.blocks) }

abbrev limits_of : ℕ → ℕ → ℕ → ℕ → Limits
limits_of version files props blocks = record { files = files; props = props; blocks = blocks; version = version }

pub same_super : (a b : Limits) → FitsSuper a → FitsSuper b → a.version ≡ b.version → super_numbers a ≡ super_numbers b → a ≡ b
same_super a b fa fb version e =
    let files = same_number 4 a.files b.files fa.files fb.files (ap (λ xs. take 4 xs) e) in
    let props = same_number 4 a.props b.props fa.props fb.props (ap (λ xs. take 4 (drop 4 xs)) e) in
    let blocks = same_number 4 a.blocks b.blocks fa.blocks fb.blocks (ap (λ xs. drop 8 xs) e) in
    ap (λ n. limits_of n a.files a.props a.blocks) version
    ∙ (ap (λ n. limits_of b.version n a.props a.blocks) files
    ∙ (ap (λ n. limits_of b.version b.files n a.blocks) props ∙ ap (λ n. limits_of b.version b.files b.props n) blocks))

pub length_super : (gate : ℕ) (limits : Limits) → length (super_with gate limits) ≡ 4096
unfolding super_with
length_super gate limits = omega (arith, length_zeros 4071)

-- the parts of a super block
pub record SuperParts (bytes : List ℕ) (gate : ℕ) (limits : Limits) : Type 0 where
  pub start : take 12 bytes ≡ super_start limits.version
  pub spelled : take 12 (drop 12 bytes) ≡ super_numbers limits
  pub end : drop 12 (drop 12 bytes) ≡ gate ∷ zeros 4071

pub super_parts : (bytes : List ℕ) (gate : ℕ) (limits : Limits) → bytes ≡ super_with gate limits → SuperParts bytes gate limits
unfolding super_with
super_parts bytes gate limits e =
    record { start = ap (λ xs. take 12 xs) e; spelled = ap (λ xs. take 12 (drop 12 xs)) e; end = ap (λ xs. drop 12 (drop 12 xs)) e }

pub super_joined : (bytes : List ℕ) (gate : ℕ) (limits : Limits) → SuperParts bytes gate limits → bytes ≡ super_with gate limits
unfolding super_with
super_joined bytes gate limits parts =
    joined 12 bytes (super_start limits.version) (super_numbers limits ++ gate ∷ zeros 4071) parts.start (joined 12 (drop 12 bytes) (super_numbers limits) (gate ∷ zeros 4071) parts.spelled parts.end)

-- ---- versions
versions : (n : ℕ) → is_version n ≡ true → (n ≡ 1) ⊎ (n ≡ 2) ⊎ (n ≡ 3)
versions n is = grind (arith, nat_tests)

-- the gate that is written is one of the version
gate_tells : (version : ℕ) → IsTrue (is_version version) → IsTrue (is_gate version (version_gate version))
gate_tells version h =
    elim (versions version h) [
      | inl one ↦ subst (λ v. IsTrue (is_gate v (version_gate v))) (sym one) refl
      | inr (inl two) ↦ subst (λ v. IsTrue (is_gate v (version_gate v))) (sym two) refl
      | inr (inr three) ↦ subst (λ v. IsTrue (is_gate v (version_gate v))) (sym three) refl
    ]

-- the gate of an earlier version gives it
gate_gives : (version gate : ℕ) → (version == 3) ≡ false → IsTrue (is_gate version gate) → gate_version gate ≡ version
gate_gives version gate not_3 is =
    eqb-true (gate_version gate) version (subst (λ b. (if b then gate == 0 else gate_version gate == version) ≡ true) not_3 is)

-- how a super block begins and its gate give its version
pub same_version : (a b gate : ℕ) → super_start a ≡ super_start b → IsTrue (is_gate a gate) → IsTrue (is_gate b gate) → a ≡ b
same_version a b gate start of_a of_b = by (a == 3) (b == 3) refl refl (ap (λ xs. get_or xs 8 0) start)
  where
    by : (x y : Bool) → (a == 3) ≡ x → (b == 3) ≡ y → (if x then 3 else 1) % 256 ≡ (if y then 3 else 1) % 256 → a ≡ b
    by true true p q e = eqb-true a 3 p ∙ sym (eqb-true b 3 q)
    by true false p q e = absurd (omega (arith, e))
    by false true p q e = absurd (omega (arith, e))
    by false false p q e = sym (gate_gives a gate p of_a) ∙ gate_gives b gate q of_b

-- what is written is a spelling
pub super_spells : (limits : Limits) → IsTrue (are_in_range limits) → SpellsSuper limits (super_bytes limits)
super_spells limits h =
    let v = limits.version in
    let three = and_parts (is_files_limit v limits.files && is_props_limit v limits.props && is_blocks_limit v limits.blocks) (is_version v) h in
    record { gate = version_gate v; tells = gate_tells v three.1; spelled = refl }

-- limits of version 2 have no other spelling
pub super_of_version_2 : (limits : Limits) (bytes : List ℕ) → limits.version ≡ 2 → SpellsSuper limits bytes → bytes ≡ super_bytes limits
super_of_version_2 limits bytes two is = is.spelled ∙ ap (λ gate. super_with gate limits) (gate_is (is.gate == 2) refl told ∙ sym (ap version_gate two))
  where
    told : gate_version is.gate ≡ 2
    told = eqb-true (gate_version is.gate) 2 (subst (λ version. IsTrue (is_gate version is.gate)) two is.tells)

    gate_is : (b : Bool) → (is.gate == 2) ≡ b → ◌≡◌ {A = ℕ} (if b then 2 else 1) 2 → is.gate ≡ 2
    gate_is true e told = eqb-true is.gate 2 e
    gate_is false e told = absurd (omega (arith, told))

-- every spelling has the width of the super block
pub spelling_length : (limits : Limits) (bytes : List ℕ) → SpellsSuper limits bytes → length bytes ≡ 4096
spelling_length limits bytes is = ap length is.spelled ∙ length_super is.gate limits

-- the limits, of that version
abbrev pub with_version : ℕ → Limits → Limits
with_version version limits = limits_of version limits.files limits.props limits.blocks

-- ---- from version 1 to version 2
-- a gate is one of the version that it gives
gate_own : (gate : ℕ) → IsTrue (is_gate (gate_version gate) gate)
gate_own gate = by (gate == 2) refl
  where
    by : (two : Bool) → (gate == 2) ≡ two → IsTrue (is_gate (if two then 2 else 1) gate)
    by true e = ap (λ b. (if b then 2 else 1) == 2) e
    by false e = ap (λ b. (if b then 2 else 1) == 1) e

-- a super block of version 1 begins as one of any gate's version
start_alike : (gate : ℕ) → super_start 1 ≡ super_start (gate_version gate)
start_alike gate = by (gate == 2)
  where
    by : (two : Bool) → super_start 1 ≡ super_start (if two then 2 else 1)
    by true = refl
    by false = refl

-- with another byte 24, a spelling of version 1 is one of the same limits in the version of this byte
pub super_regated : (gate : ℕ) (limits : Limits) (bytes : List ℕ) → limits.version ≡ 1 → SpellsSuper limits bytes
    → SpellsSuper (with_version (gate_version gate) limits) (take 24 bytes ++ (gate ∷ drop 25 bytes))
unfolding super_with
super_regated gate limits bytes one is =
    record {
      gate = gate;
      tells = gate_own gate;
      spelled =
          ap (λ xs. take 24 xs ++ (gate ∷ drop 25 xs)) is.spelled
          ∙ ap (λ start. start ++ (super_numbers limits ++ gate ∷ zeros 4071)) (ap super_start one ∙ start_alike gate);
    }

-- with 2 there it is one of version 2
pub super_upgraded : (limits : Limits) (bytes : List ℕ) → limits.version ≡ 1 → SpellsSuper limits bytes → SpellsSuper (with_version 2 limits) (take 24 bytes ++ (2 ∷ drop 25 bytes))
super_upgraded limits bytes one is = super_regated 2 limits bytes one is

-- what differs from a spelling of version 1 only in byte 24, which may be anything, is a spelling of the same limits, or of these in
-- version 2
pub super_torn : (limits : Limits) (old new : List ℕ) → limits.version ≡ 1 → SpellsSuper limits old → length new ≡ length old → take 24 new ≡ take 24 old → drop 25 new ≡ drop 25 old
    → SpellsSuper limits new ⊎ SpellsSuper (with_version 2 limits) new
super_torn limits old new one is len front behind = by (gate == 2) (subst (λ xs. SpellsSuper (with_version (gate_version gate) limits) xs) (sym whole) (super_regated gate limits old one is))
  where
    gate : ℕ
    gate = get_or new 24 0

    whole : new ≡ take 24 old ++ (gate ∷ drop 25 old)
    whole =
        let long = spelling_length limits old is in
        joined 24 new (take 24 old) (gate ∷ drop 25 old) front (drop_more new 24 0 (omega (arith, len, long)) ∙ ap (λ xs. gate ∷ xs) behind)

    by : (two : Bool) → SpellsSuper (with_version (if two then 2 else 1) limits) new → SpellsSuper limits new ⊎ SpellsSuper (with_version 2 limits) new
    by true spells = inr spells
    by false spells = inl (subst (λ l. SpellsSuper l new) (ap (λ version. with_version version limits) (sym one)) spells)

pub upgraded_in_range : (limits : Limits) → limits.version ≡ 1 → IsTrue (are_in_range limits) → IsTrue (are_in_range (with_version 2 limits))
upgraded_in_range limits one h =
    let parts = early_limits limits h (ap (λ version. version == 3) one) in
    and_from (is_files_limit 2 limits.files && is_props_limit 2 limits.props && is_blocks_limit 2 limits.blocks) (is_version 2)
    (and_from (is_files_limit 2 limits.files && is_props_limit 2 limits.props) (is_blocks_limit 2 limits.blocks)
    (and_from (is_files_limit 2 limits.files) (is_props_limit 2 limits.props) parts.files parts.props) parts.blocks) refl
