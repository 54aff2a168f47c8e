use Rattle.std.proofs.Common.{◌≡◌, ◌∙◌, sym, ap, subst, ◌∷◌, drop, take, get_or, ℕ, Option, None, Some, IsTrue, arith}
use Rattle.std.proofs.lemmas.Bool.{false≢true}
use Rattle.lis_model.specs.Ranges.{are_in_range}
use Rattle.lis_fields.specs.Layouts.{super_start, is_gate}
use Rattle.lis_fields.proofs.Widths.{not_zeros, zeros_of}
use Rattle.lis_fields.proofs.Supers.{FitsSuper, super_fits, same_super, spelling_length, super_parts, super_joined}
use Rattle.lis_fields.proofs.super_block.read_super.Goals as goal

pub returns-then-bytes-ne-BLOCK_LEN-clause-same : goal.returns-then-bytes-ne-BLOCK_LEN-clause-same
returns-then-bytes-ne-BLOCK_LEN-clause-same c = λ told range is. absurd (c.if-bytes-ne-BLOCK_LEN.true (spelling_length told c.args.bytes.now is))

pub returns-then-not-are_zeros-clause-same : goal.returns-then-not-are_zeros-clause-same
returns-then-not-are_zeros-clause-same c =
    λ told range is.
    let parts = super_parts c.args.bytes.now is.gate told is.spelled in
    let rest = sym c.in_ok-gate.ensures.cases.0 ∙ (c.split_at-2.ensures.back ∙ (ap (λ xs. drop 12 xs) c.split_at.ensures.back ∙ parts.end)) in
    absurd (not_zeros 4071 c.in_ok-gate.end.now (ap (λ xs. drop 1 xs) rest) (sym c.are_zeros.ensures ∙ c.if-not-are_zeros.true))

none_found : (version : ℕ) → ◌≡◌ {A = Option ℕ} None (Some version) → ⊥
none_found version e = cc

pub returns-in_err-version_of-clause-same : goal.returns-in_err-version_of-clause-same
returns-in_err-version_of-clause-same c =
    λ told range is.
    let parts = super_parts c.args.bytes.now is.gate told is.spelled in
    let rest = sym c.in_ok-gate.ensures.cases.0 ∙ (c.split_at-2.ensures.back ∙ (ap (λ xs. drop 12 xs) c.split_at.ensures.back ∙ parts.end)) in
    let gate : c.in_ok-gate.gate.now ≡ is.gate = ap (λ xs. get_or xs 0 0) rest in
    absurd (none_found told.version (c.in_err-version_of.ensures.same told.version (c.split_at.ensures.front ∙ parts.start) (subst (λ g. IsTrue (is_gate told.version g)) (sym gate) is.tells)))

pub returns-then-not-are_in_range-clause-same : goal.returns-then-not-are_in_range-clause-same
returns-then-not-are_in_range-clause-same c =
    λ told range is.
    let parts = super_parts c.args.bytes.now is.gate told is.spelled in
    let rest = sym c.in_ok-gate.ensures.cases.0 ∙ (c.split_at-2.ensures.back ∙ (ap (λ xs. drop 12 xs) c.split_at.ensures.back ∙ parts.end)) in
    let gate : c.in_ok-gate.gate.now ≡ is.gate = ap (λ xs. get_or xs 0 0) rest in
    let found = c.in_ok-version_of.ensures.same told.version (c.split_at.ensures.front ∙ parts.start) (subst (λ g. IsTrue (is_gate told.version g)) (sym gate) is.tells) in
    let version : c.read_limits-limits.result.version ≡ told.version = c.read_limits-limits.ensures.version ∙ cc in
    let fits : FitsSuper c.read_limits-limits.result = record { files = omega arith; props = omega arith; blocks = omega arith } in
    let spelled = sym c.read_limits-limits.ensures.numbers ∙ (c.split_at-2.ensures.front ∙ (ap (λ xs. take 12 xs) c.split_at.ensures.back ∙ parts.spelled)) in
    let same = same_super c.read_limits-limits.result told fits (super_fits told range) version spelled in
    absurd (false≢true (sym c.if-not-are_in_range.true ∙ (c.are_in_range.ensures ∙ (ap are_in_range same ∙ range))))

pub returns-clause-spelled : goal.returns-clause-spelled
returns-clause-spelled c =
    let version = c.read_limits-limits.ensures.version in
    let end = zeros_of 4071 c.in_ok-gate.end.now (omega (arith, c.in_ok-gate.ensures.cases.1)) (sym c.are_zeros.ensures ∙ c.if-not-are_zeros.false) in
    let rest = sym (ap (λ xs. drop 12 xs) c.split_at.ensures.back) ∙ (sym c.split_at-2.ensures.back ∙ (c.in_ok-gate.ensures.cases.0 ∙ ap (λ xs. c.in_ok-gate.gate.now ∷ xs) end)) in (
      sym c.are_in_range.ensures ∙ c.if-not-are_in_range.false,
      record {
        gate = c.in_ok-gate.gate.now;
        tells = subst (λ v. IsTrue (is_gate v c.in_ok-gate.gate.now)) (sym version) c.in_ok-version_of.ensures.spelled.1;
        spelled = super_joined c.args.bytes.now c.in_ok-gate.gate.now c.read_limits-limits.result (record {
          start = sym c.split_at.ensures.front ∙ (c.in_ok-version_of.ensures.spelled.0 ∙ ap super_start (sym version));
          spelled = ap (λ xs. take 12 xs) (sym c.split_at.ensures.back) ∙ (sym c.split_at-2.ensures.front ∙ c.read_limits-limits.ensures.numbers);
          end = rest;
        });
      },
    )

pub returns-clause-same : goal.returns-clause-same
returns-clause-same c =
    λ told range is.
    let parts = super_parts c.args.bytes.now is.gate told is.spelled in
    let rest = sym c.in_ok-gate.ensures.cases.0 ∙ (c.split_at-2.ensures.back ∙ (ap (λ xs. drop 12 xs) c.split_at.ensures.back ∙ parts.end)) in
    let gate : c.in_ok-gate.gate.now ≡ is.gate = ap (λ xs. get_or xs 0 0) rest in
    let found = c.in_ok-version_of.ensures.same told.version (c.split_at.ensures.front ∙ parts.start) (subst (λ g. IsTrue (is_gate told.version g)) (sym gate) is.tells) in
    let version : c.read_limits-limits.result.version ≡ told.version = c.read_limits-limits.ensures.version ∙ cc in
    let fits = super_fits c.read_limits-limits.result (sym c.are_in_range.ensures ∙ c.if-not-are_in_range.false) in
    let spelled = sym c.read_limits-limits.ensures.numbers ∙ (c.split_at-2.ensures.front ∙ (ap (λ xs. take 12 xs) c.split_at.ensures.back ∙ parts.spelled)) in
    ap (λ r. Some r) (same_super c.read_limits-limits.result told fits (super_fits told range) version spelled)
