use Rattle.std.proofs.Common.{length, refl, sym, ap, ◌∙◌, slice_get}
use Rattle.std.proofs.lemmas.Bool.{ltb-true}
use Rattle.std.proofs.lemmas.Option.{slice_get_read}
use Rattle.lis_dict.specs.Dict.{Dict, word_of}
use Rattle.lis_dict.proofs.Holders.{has_word, told_there}
use Rattle.lis_dict.proofs.dict.Dict.word_at.Goals as goal

pub returns-in_err-word_of : goal.returns-in_err-word_of
returns-in_err-word_of c =
    let i = c.self.inside in
    let number = c.in_ok-number.field-0.now in
    let read = c.in_ok-number.ensures.lookup in
    let at = slice_get_read c.deref.result.now (length c.deref.result.now) c.args.k number refl (ltb-true c.args.k (length c.deref.result.now) (sym read.0)) read.1 in
    let none = ap (λ (d : Dict). word_of d number) c.self.view_is ∙ sym c.in_err-word_of.ensures in
    absurd (has_word i.props _ i.holders.items i.order.items c.self.invariant.sound c.args.k number (rw c.deref.ensures.value at at) none)

pub returns : goal.returns
returns c =
    let i = c.self.inside in
    let number = c.in_ok-number.field-0.now in
    let read = c.in_ok-number.ensures.lookup in
    let at = slice_get_read c.deref.result.now (length c.deref.result.now) c.args.k number refl (ltb-true c.args.k (length c.deref.result.now) (sym read.0)) read.1 in
    let there = ap (λ (d : Dict). word_of d number) c.self.view_is ∙ sym c.in_ok-word_of.ensures in
    sym (told_there i.props _ i.holders.items i.order.items c.self.invariant.sound c.args.k number (rw c.deref.ensures.value at at) c.in_ok-word_of.field-0 there) ∙ ap (λ (d : Dict). slice_get d.entries c.args.k) c.self.view_is
