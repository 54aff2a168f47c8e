use Rattle.std.proofs.Common.{false, sym, ap, ◌∙◌, arith}
use Rattle.std.specs.List.{find}
use Rattle.lis_words.specs.Words.{same_word, has_word}
use Rattle.lis_bits.proofs.Laws.{bits_set}
use Rattle.lis_ext.specs.Ext as ext
use Rattle.lis_grammar.specs.Formula.Formula.{Has}
use Rattle.lis_eval.proofs.Members.{mapped_none}
use Rattle.lis_eval.proofs.Slots.{bits_shaped, word_numbered, unknown_word}
use Rattle.lis_eval.proofs.Stacked.{pushes}
use Rattle.lis_eval.proofs.evaluation.put_word.Goals as goal

pub copy_row-requires-clause-prop : goal.copy_row-requires-clause-prop
copy_row-requires-clause-prop g c =
    let v = g.V.View.seen c.args.view.now in
    let w = word_numbered v c.args.word.now c.in-Some.number (sym c.in-Some.is ∙ c.id_of.ensures) in
    omega (arith, c.requires.told.props, c.requires.room.kept.numbers w.0 w.1, w.3)

pub returns-in-Some : goal.returns-in-Some
returns-in-Some g c =
    let v = g.V.View.seen c.args.view.now in
    let w = word_numbered v c.args.word.now c.in-Some.number (sym c.in-Some.is ∙ c.id_of.ensures) in
    pushes v c.requires.room.kept c.args.rows.now c.copy_row.new.to c.args.files c.args.row (ext.has c.args.ext.now c.in-Some.number) (Has c.args.word.now) c.requires.room.within
    (bits_shaped c.args.rows.now c.copy_row.new.to 65 c.args.files c.args.row (ext.has c.args.ext.now c.in-Some.number) c.requires.room.shape c.copy_row.ensures)
    (λ p there. ap (λ n. ext.has c.args.ext.now n p.slot) (sym w.3) ∙ (c.requires.told.told w.0 p w.1 there ∙ ap (has_word p.entry.words) w.2))

pub returns-in-None : goal.returns-in-None
returns-in-None g c =
    let v = g.V.View.seen c.args.view.now in
    let none = mapped_none (λ w. w.1) (find (λ w. same_word w.0 c.args.word.now) v.words) (sym c.in-None.is ∙ c.id_of.ensures) in
    rw c.fill.ensures (pushes v c.requires.room.kept c.args.rows.now _ c.args.files c.args.row (λ _. false) (Has c.args.word.now) c.requires.room.within
    (bits_set c.args.rows.now 65 c.args.files c.args.row (λ _. false) c.requires.room.shape c.requires.row) (λ p there. sym (unknown_word v c.requires.room.kept c.args.word.now none p there)))
