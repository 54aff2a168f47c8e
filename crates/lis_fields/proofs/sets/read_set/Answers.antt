use Rattle.std.proofs.Common.{◌≡◌, ◌∙◌, refl, sym, ap, ◌*◌, length, Some, arith}
use Rattle.lis_graph.specs.Graph.{is_rising}
use Rattle.std.proofs.Common.{nat_cmp}
use Rattle.lis_fields.proofs.Widths.{are_zero}
use Rattle.lis_fields.proofs.SetNumbers.{set_tests, set_from, length_set, set_read, set_padding, set_spelled}
use Rattle.lis_fields.proofs.sets.read_set.Goals as goal

pub returns-then-bytes-ne-SET_LEN-clause-same : goal.returns-then-bytes-ne-SET_LEN-clause-same
returns-then-bytes-ne-SET_LEN-clause-same c =
    λ ns is e. absurd (c.if-bytes-ne-SET_LEN.true (ap length e ∙ length_set ns (set_tests ns is).few))

pub returns-then-not-are_zeros-clause-same : goal.returns-then-not-are_zeros-clause-same
returns-then-not-are_zeros-clause-same c =
    λ ns is e.
    let numbers = c.read_next-numbers.result.items in
    let same = set_read c.read_wide.new.numbers numbers ns (set_tests ns is) (omega (arith, c.read_wide.ensures.len)) c.read_wide.ensures.fit (sym c.read_wide.ensures.spelled ∙ e) c.read_next-numbers.ensures.spelled c.read_next-numbers.ensures.ended in
    let zeros = ap are_zero c.split_at.ensures.back ∙ set_padding c.args.bytes.now ns (4 * c.len.result) e (omega (arith, ap length same, c.len.ensures.value)) in
    absurd (cc)

pub returns-then-not-rise-clause-same : goal.returns-then-not-rise-clause-same
returns-then-not-rise-clause-same c =
    λ ns is e.
    let numbers = c.read_next-numbers.result.items in
    let same = set_read c.read_wide.new.numbers numbers ns (set_tests ns is) (omega (arith, c.read_wide.ensures.len)) c.read_wide.ensures.fit (sym c.read_wide.ensures.spelled ∙ e) c.read_next-numbers.ensures.spelled c.read_next-numbers.ensures.ended in
    let rising = ap (is_rising nat_cmp) (c.as_slice.ensures.value ∙ same) ∙ (set_tests ns is).rising in
    absurd (cc)

pub returns-clause-spelled : goal.returns-clause-spelled
returns-clause-spelled c =
    let numbers = c.read_next-numbers.result.items in
    let zeros = sym (ap are_zero c.split_at.ensures.back) ∙ (sym c.are_zeros.ensures ∙ c.if-not-are_zeros.false) in
    let rising = sym (ap (is_rising nat_cmp) c.as_slice.ensures.value) ∙ (sym c.rise.ensures ∙ c.if-not-rise.false) in (
      set_from numbers (record { few = omega arith; small = c.read_next-numbers.ensures.small; rising = rising }),
      set_spelled c.args.bytes.now c.read_wide.new.numbers numbers (4 * c.len.result) c.if-bytes-ne-SET_LEN.false (omega arith) c.read_wide.ensures.spelled c.read_next-numbers.ensures.spelled (omega (arith, c.len.ensures.value)) zeros,
    )

pub returns-clause-same : goal.returns-clause-same
returns-clause-same c =
    λ ns is e. ap Some (set_read c.read_wide.new.numbers c.read_next-numbers.result.items ns (set_tests ns is) (omega (arith, c.read_wide.ensures.len)) c.read_wide.ensures.fit
    (sym c.read_wide.ensures.spelled ∙ e) c.read_next-numbers.ensures.spelled c.read_next-numbers.ensures.ended)
