use Rattle.lis_store.proofs.Common.{◌∙◌, sym, ap, has_number}
use Rattle.lis_store.proofs.Assigned.{declared_is, takes_again, takes_new}
use Rattle.lis_store.proofs.placing.take_number.Goals as goal

pub returns-then-has_number : goal.returns-then-has_number
returns-then-has_number c =
    let found = declared_is c.args.metadata.now c.args.word.now c.in-Some.number (sym c.in-Some.ensures) in
    takes_again c.args.metadata.now c.args.word.now c.args.numbers.now.items c.requires.sound c.in-Some.number found.0 found.1
    (ap (λ ns. has_number ns c.in-Some.number) (sym c.as_slice.ensures.value) ∙ (sym c.has_number.ensures ∙ c.if-has_number.true))

pub returns : goal.returns
returns c =
    let found = declared_is c.args.metadata.now c.args.word.now c.in-Some.number (sym c.in-Some.ensures) in
    takes_new c.args.metadata.now c.args.word.now c.args.numbers.now.items c.requires.sound c.in-Some.number found.0 found.1
    (ap (λ ns. has_number ns c.in-Some.number) (sym c.as_slice.ensures.value) ∙ (sym c.has_number.ensures ∙ c.if-has_number.false)) c.push.new.self.items c.push.ensures.items
