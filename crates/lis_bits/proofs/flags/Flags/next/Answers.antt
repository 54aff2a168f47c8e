use Rattle.std.proofs.Common.{◌<◌, ◌*◌, length, ◌∙◌, arith}
use Rattle.lis_bits.specs.Words.{words_bit, IsNextFrom}
use Rattle.lis_bits.proofs.OneRow.{flags_many, flag_at, flags_none}
use Rattle.lis_bits.proofs.flags.Flags.next.Goals as goal

pub returns-in_err-number-clause-none : goal.returns-in_err-number-clause-none
returns-in_err-number-clause-none c =
    let none = rw c.deref.ensures.value at c.in_err-number.ensures in
    rw c.from_residual.ensures (flags_none c.self.inside.bits c.self.inside.words.items c.args.self.now c.self.view_is c.args.start none)

-- what was found in the words is one of the flags
found : (c : goal.In_ok-number) → IsNextFrom (words_bit c.self.inside.words.items) (64 * length c.self.inside.words.items) c.args.start c.in_ok-number.number
found c = rw c.deref.ensures.value at c.in_ok-number.ensures

within : (c : goal.In_ok-number) → c.in_ok-number.number < length c.args.self.now
within c = omega (arith, (found c).in_words, flags_many c.self.inside.bits c.self.inside.words.items c.args.self.now c.self.view_is)

pub returns-clause-true_flag : goal.returns-clause-true_flag
returns-clause-true_flag c = flag_at c.self.inside.bits c.self.inside.words.items c.args.self.now c.self.view_is c.in_ok-number.number (within c) ∙ (found c).set

pub returns-clause-in_row : goal.returns-clause-in_row
returns-clause-in_row c = within c

pub returns-clause-least : goal.returns-clause-least
returns-clause-least c =
    let below = within c in
    λ k from lt. flag_at c.self.inside.bits c.self.inside.words.items c.args.self.now c.self.view_is k (omega (arith, lt, below)) ∙ (found c).none_before k from lt
