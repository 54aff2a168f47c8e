use Rattle.std.proofs.Common.{◌≡◌, ◌∙◌, ℕ, List, refl, sym, ap, length, Option, Some, subst, IsTrue, false}
use Rattle.lis_words.specs.Words.{is_property}
use Rattle.lis_model.specs.State.{is_declarable}
use Rattle.lis_fields.specs.Layouts.{named, prop_bytes, is_prop, is_undeclared}
use Rattle.lis_fields.specs.declared.slots.PropSlot.{PropSlot}
use Rattle.lis_fields.specs.declared.slots.PropSlot.TheVariants.{Free, Known, Declared}
use Rattle.lis_fields.proofs.Widths.{are_zero, not_zeros, zeros_of}
use Rattle.lis_fields.proofs.Parts.{length_prop, undeclared_word, declarable_word}
use Rattle.lis_fields.proofs.props.read_prop.Goals as goal

-- no slot, if no kind and word are spelled
none_named : (slot : PropSlot) (bytes : List ℕ) → IsTrue (is_prop slot) → bytes ≡ prop_bytes slot → are_zero bytes ≡ false
    → ((kind : ℕ) (word : List ℕ) → IsTrue (is_property word) → bytes ≡ named kind word → ⊥) → ⊥
unfolding prop_bytes
none_named Free bytes is e some never = not_zeros 64 bytes e some
none_named (Known word) bytes is e some never = never 1 word (undeclared_word word is) e
none_named (Declared word) bytes is e some never = never 2 word (declarable_word word is) e

-- the slot of the kind and the word that are spelled
same_named : (slot : PropSlot) (bytes : List ℕ) (found : ℕ × List ℕ) (result : Option PropSlot) → IsTrue (is_prop slot) → bytes ≡ prop_bytes slot → are_zero bytes ≡ false
    → ((kind : ℕ) (word : List ℕ) → IsTrue (is_property word) → bytes ≡ named kind word → found ≡ (kind, word))
    → (found.0 ≡ 1 → IsTrue (is_undeclared found.1) → result ≡ Some (Known found.1)) → (found.0 ≡ 2 → IsTrue (is_declarable found.1) → result ≡ Some (Declared found.1))
    → result ≡ Some slot
unfolding prop_bytes
same_named Free bytes found result is e some same known declared = absurd (not_zeros 64 bytes e some)
same_named (Known word) bytes found result is e some same known declared =
    let both = same 1 word (undeclared_word word is) e in
    let of_word = ap (λ p. p.1) both in
    known (ap (λ p. p.0) both) (subst (λ w. IsTrue (is_undeclared w)) (sym of_word) is) ∙ ap (λ w. Some (Known w)) of_word
same_named (Declared word) bytes found result is e some same known declared =
    let both = same 2 word (declarable_word word is) e in
    let of_word = ap (λ p. p.1) both in
    declared (ap (λ p. p.0) both) (subst (λ w. IsTrue (is_declarable w)) (sym of_word) is) ∙ ap (λ w. Some (Declared w)) of_word

pub returns-then-bytes-ne-PROP_LEN-clause-same : goal.returns-then-bytes-ne-PROP_LEN-clause-same
returns-then-bytes-ne-PROP_LEN-clause-same c = λ slot is e. absurd (c.if-bytes-ne-PROP_LEN.true (ap length e ∙ length_prop slot is))

pub returns-then-are_zeros-clause-spelled : goal.returns-then-are_zeros-clause-spelled
unfolding prop_bytes
returns-then-are_zeros-clause-spelled c =
    (refl, zeros_of 64 c.args.bytes.now c.if-bytes-ne-PROP_LEN.false (sym c.are_zeros.ensures ∙ c.if-are_zeros.true))

pub returns-in_err-kind-clause-same : goal.returns-in_err-kind-clause-same
returns-in_err-kind-clause-same c =
    λ slot is e. absurd (none_named slot c.args.bytes.now is e (sym c.are_zeros.ensures ∙ c.if-are_zeros.false) (λ kind word form spelled. let k = c.in_err-kind.ensures.same kind word form spelled in cc))

pub returns-clause-same : goal.returns-clause-same
returns-clause-same c =
    λ slot is e. same_named slot c.args.bytes.now (c.in_ok-kind.kind, c.in_ok-kind.word) c.named_slot.result is e (sym c.are_zeros.ensures ∙ c.if-are_zeros.false)
    (λ kind word form spelled. let k = c.in_ok-kind.ensures.same kind word form spelled in cc) c.named_slot.ensures.known c.named_slot.ensures.declared
