use Rattle.std.proofs.Common.{◌≡◌, false, [], ◌∙◌, refl, arith}
use Rattle.lis_bits.specs.Rows.{get, with_row}
use Rattle.lis_bits.proofs.Laws.{new_row}
use Rattle.lis_ext.specs.Numbers.{numbers_where}
use Rattle.lis_ext.proofs.Numbers.{numbers_same, numbers_none}
use Rattle.lis_ext.proofs.ext.Ext.settle.Goals as goal

pub returns : goal.returns
returns c =
    let e = c.self.inside in
    let none : numbers_where e.props (get (with_row e.marks 0 (λ _. false)) 0) ≡ [] =
    numbers_same e.props (get (with_row e.marks 0 (λ _. false)) 0) (λ _. false) (λ p p_in. new_row e.marks 1 e.props 0 p (λ _. false) c.self.invariant.marks_shape (omega arith) p_in) ∙ numbers_none e.props in
    rw (← c.self.view_is, c.fill.ensures, none) refl
