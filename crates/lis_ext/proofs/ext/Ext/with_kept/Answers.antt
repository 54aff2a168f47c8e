use Rattle.std.proofs.Common.{◌≡◌, false, [], ◌∙◌, refl}
use Rattle.lis_bits.specs.Rows.{get, empty_rows}
use Rattle.lis_bits.proofs.Laws.{get-empty_rows}
use Rattle.lis_ext.specs.Numbers.{numbers_where}
use Rattle.lis_ext.proofs.Numbers.{numbers_same, numbers_none}
use Rattle.lis_ext.proofs.ext.Ext.with_kept.Goals as goal

pub returns : goal.returns
returns c =
    let props = c.args.props in
    let none : numbers_where props (get (empty_rows 1 props) 0) ≡ [] = numbers_same props (get (empty_rows 1 props) 0) (λ _. false) (λ p p_in. get-empty_rows 1 props 0 p) ∙ numbers_none props in
    rw (c.in_ok-new.ensures, c.in_ok-new-2.ensures, c.in_ok-new-3.ensures, none) refl
