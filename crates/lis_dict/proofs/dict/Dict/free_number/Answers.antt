use Rattle.std.proofs.Common.{is_none, length, sym, ap, ◌∙◌}
use Rattle.std.specs.List.{position}
use Rattle.std.proofs.lemmas.List.{length-map}
use Rattle.lis_dict.specs.Dict.{Dict, word_of}
use Rattle.lis_dict.specs.Inside.{entry_in}
use Rattle.lis_dict.proofs.Taken.{taken_first}
use Rattle.lis_dict.proofs.Holders.{first_is_free, none_is_free}
use Rattle.lis_dict.proofs.dict.Dict.free_number.Goals as goal

pub returns-in_err-number-clause-none : goal.returns-in_err-number-clause-none
returns-in_err-number-clause-none c =
    let m = c.self.inside in
    let sound = c.self.invariant.sound in
    let none = c.in_err-number.ensures ∙ ap (position is_none) c.deref.ensures.value in
    let full = length-map m.order.items (entry_in m.holders.items) ∙ (sym sound.counted ∙ (none_is_free m.holders.items none ∙ sound.table)) in
    rw c.from_residual.ensures (ap (λ (t : Dict). length t.entries) (sym c.self.view_is) ∙ (full ∙ ap (λ (t : Dict). t.props) c.self.view_is))

pub invariant_of-self : goal.invariant_of-self
invariant_of-self c =
    let m = c.self.inside in
    let first = c.in_ok-number.ensures ∙ ap (position is_none) c.deref.ensures.value in
    record { sound = c.self.invariant.sound; taken = taken_first m.holders.items c.in_ok-number.field-0 (sym first) }

pub returns-clause-free : goal.returns-clause-free
returns-clause-free c =
    let m = c.self.inside in
    let number = c.in_ok-number.field-0 in
    let first = c.in_ok-number.ensures ∙ ap (position is_none) c.deref.ensures.value in
    ap (λ (t : Dict). word_of t number) (sym c.self.view_is) ∙ (sym (c.self.invariant.sound.told number) ∙ first_is_free m.holders.items number first)
