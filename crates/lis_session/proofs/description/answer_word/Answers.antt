use Rattle.std.proofs.Common.{◌∙◌, sym, ap, ap₂, length, arith, append-nil}
use Rattle.lis_ext.specs.Ext.{Ext, has}
use Rattle.lis_session.proofs.InTurn.{answers_none}
use Rattle.lis_session.proofs.Described.{number_in}
use Rattle.lis_session.proofs.description.answer_word.Goals as goal

pub returns-in_default : goal.returns-in_default
returns-in_default g c = rw (sym c.word_at.ensures ∙ c.in_default.is) (answers_none (g.T.Disk.meaning c.args.station.now))

pub has-requires-clause-prop : goal.has-requires-clause-prop
has-requires-clause-prop g c =
    let below = number_in c.args.store.now.metadata c.args.slot c.args.k c.in-Some.word c.in-Some.number (sym c.word_at.ensures ∙ c.in-Some.is) c.requires.sound.metadata in
    omega (arith, below, ap (λ (e : Ext). e.props) c.descriptions.ensures)

pub has-requires-clause-file : goal.has-requires-clause-file
has-requires-clause-file g c = omega (arith, c.requires.slot, ap (λ (e : Ext). length e.sets) c.descriptions.ensures)

pub returns-then-not-has : goal.returns-then-not-has
returns-then-not-has g c =
    let has_is = ap (λ (e : Ext). has e c.in-Some.number c.args.slot) (sym c.descriptions.ensures) ∙ sym c.has.ensures in
    rw (sym c.word_at.ensures ∙ c.in-Some.is, has_is ∙ c.if-not-has.true) (answers_none (g.T.Disk.meaning c.args.station.now))

pub returns : goal.returns
returns g c =
    let has_is = ap (λ (e : Ext). has e c.in-Some.number c.args.slot) (sym c.descriptions.ensures) ∙ sym c.has.ensures in
    rw (sym c.word_at.ensures ∙ c.in-Some.is, has_is ∙ c.if-not-has.false) (rw append-nil (rw c.bytes.ensures.bytes at c.answer_line.ensures))
