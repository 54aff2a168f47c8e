use Rattle.std.proofs.Common.{◌≡◌, ◌∙◌, refl, sym, ap, ℕ, List, length, Some, IsTrue, false}
use Rattle.lis_model.specs.declared.limits.Limits.{Limits}
use Rattle.lis_fields.specs.Records.{FileRecord}
use Rattle.lis_fields.specs.Layouts.{record_bytes, file_bytes, is_record, is_file}
use Rattle.lis_fields.specs.declared.slots.FileSlot.{FileSlot}
use Rattle.lis_fields.specs.declared.slots.FileSlot.TheVariants.{Free, Used}
use Rattle.lis_fields.proofs.Widths.{are_zero, not_zeros, zeros_of}
use Rattle.lis_fields.proofs.Parts.{length_file}
use Rattle.lis_fields.proofs.files.read_file.Goals as goal

-- no slot, if no record is spelled
none_used : (limits : Limits) (slot : FileSlot) (bytes : List ℕ) → IsTrue (is_file limits slot) → bytes ≡ file_bytes limits.version slot → are_zero bytes ≡ false
    → ((rec : FileRecord) → IsTrue (is_record limits rec) → bytes ≡ record_bytes limits.version rec → ⊥) → ⊥
unfolding file_bytes
none_used limits Free bytes is e some never = not_zeros 256 bytes e some
none_used limits (Used rec) bytes is e some never = never rec is e

-- the slot of the record that is spelled
same_used : (limits : Limits) (slot : FileSlot) (bytes : List ℕ) (found : FileRecord) → IsTrue (is_file limits slot) → bytes ≡ file_bytes limits.version slot → are_zero bytes ≡ false
    → ((rec : FileRecord) → IsTrue (is_record limits rec) → bytes ≡ record_bytes limits.version rec → found ≡ rec) → Some (Used found) ≡ Some slot
unfolding file_bytes
same_used limits Free bytes found is e some same = absurd (not_zeros 256 bytes e some)
same_used limits (Used rec) bytes found is e some same = ap (λ r. Some (Used r)) (same rec is e)

pub returns-then-bytes-ne-FILE_LEN-clause-same : goal.returns-then-bytes-ne-FILE_LEN-clause-same
returns-then-bytes-ne-FILE_LEN-clause-same c = λ slot is e. absurd (c.if-bytes-ne-FILE_LEN.true (ap length e ∙ length_file c.args.limits.now slot is))

pub returns-then-are_zeros-clause-spelled : goal.returns-then-are_zeros-clause-spelled
unfolding file_bytes
returns-then-are_zeros-clause-spelled c =
    (refl, zeros_of 256 c.args.bytes.now c.if-bytes-ne-FILE_LEN.false (sym c.are_zeros.ensures ∙ c.if-are_zeros.true))

pub returns-in_err-rec-clause-same : goal.returns-in_err-rec-clause-same
returns-in_err-rec-clause-same c =
    λ slot is e. absurd (none_used c.args.limits.now slot c.args.bytes.now is e (sym c.are_zeros.ensures ∙ c.if-are_zeros.false) (λ rec form spelled. let k = c.in_err-rec.ensures.same rec form spelled in cc))

pub returns-clause-same : goal.returns-clause-same
returns-clause-same c =
    λ slot is e. same_used c.args.limits.now slot c.args.bytes.now c.in_ok-rec.rec is e (sym c.are_zeros.ensures ∙ c.if-are_zeros.false) (λ rec form spelled. let k = c.in_ok-rec.ensures.same rec form spelled in cc)
