use Rattle.std.proofs.Common.{refl, sym, ap, ◌∙◌, length, arith}
use Rattle.byteorder.specs.Endian.{little_bytes}
use Rattle.lis_fields.proofs.Widths.{joined}
use Rattle.lis_fields.proofs.Pairs.{axiom_spelled, axiom_read, pair_read, half_read, other_half_read, length_axiom}
use Rattle.lis_fields.specs.declared.slots.AxiomSlot.TheVariants.{Free}
use Rattle.lis_fields.proofs.axioms.read_axiom.Goals as goal

pub returns-then-bytes-ne-AXIOM_LEN-clause-same : goal.returns-then-bytes-ne-AXIOM_LEN-clause-same
returns-then-bytes-ne-AXIOM_LEN-clause-same c = λ slot range e. absurd (c.if-bytes-ne-AXIOM_LEN.true (ap length e ∙ length_axiom slot))

pub returns-in-0-eq0-clause-spelled : goal.returns-in-0-eq0-clause-spelled
returns-in-0-eq0-clause-spelled c = (
  refl,
  joined 4 c.args.bytes.now (little_bytes 4 0) (little_bytes 4 0) (sym c.split_at.ensures.front ∙ (c.read_number.ensures ∙ ap (little_bytes 4) c.in-0-eq0.is-0))
      (sym c.split_at.ensures.back ∙ (c.read_number-2.ensures ∙ ap (little_bytes 4) c.in-0-eq0.is-1)) ∙ sym (axiom_spelled Free),
)

pub returns-in_default-clause-same : goal.returns-in_default-clause-same
returns-in_default-clause-same c =
    λ slot range e. pair_read slot c.read_number.result c.read_number-2.result
    (axiom_read slot c.args.bytes.now c.read_number.result c.read_number-2.result range e (sym c.split_at.ensures.front ∙ c.read_number.ensures) (sym c.split_at.ensures.back ∙ c.read_number-2.ensures) (omega arith) (omega arith))
    (omega arith)

pub returns-in-0-default-clause-same : goal.returns-in-0-default-clause-same
returns-in-0-default-clause-same c =
    λ slot range e. absurd (half_read slot c.read_number.result c.read_number-2.result
    (axiom_read slot c.args.bytes.now c.read_number.result c.read_number-2.result range e (sym c.split_at.ensures.front ∙ c.read_number.ensures) (sym c.split_at.ensures.back ∙ c.read_number-2.ensures) (omega arith) (omega arith))
    (omega arith) (omega arith))

pub returns-in-0-default-2-clause-same : goal.returns-in-0-default-2-clause-same
returns-in-0-default-2-clause-same c =
    λ slot range e. absurd (other_half_read slot c.read_number.result c.read_number-2.result
    (axiom_read slot c.args.bytes.now c.read_number.result c.read_number-2.result range e (sym c.split_at.ensures.front ∙ c.read_number.ensures) (sym c.split_at.ensures.back ∙ c.read_number-2.ensures) (omega arith) (omega arith))
    (omega arith) (omega arith))
