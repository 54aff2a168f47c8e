use Rattle.lis_store.proofs.Common.{◌∙◌, is_some, IsSome, sym, ap, arith, and_parts, word_of, Ext, named_below}
use Rattle.lis_store.specs.Closing.{has_words}
use Rattle.lis_store.proofs.closing.is_concerned.Goals as goal

pub has-requires-clause-prop : goal.has-requires-clause-prop
has-requires-clause-prop c =
    let p = c.args.metadata.now in
    let some : IsSome (word_of p.dict c.in-Having.number) = sym (ap (has_words p) c.in-Having.is) ∙ c.requires.words in
    omega (arith, named_below p c.requires.sound c.in-Having.number some, c.requires.sound.rows, ap (λ (e : Ext). e.props) c.ext.ensures)

pub has-requires-in-Losing-clause-prop : goal.has-requires-in-Losing-clause-prop
has-requires-in-Losing-clause-prop c =
    let p = c.args.metadata.now in
    let left = c.in-Losing.left in
    let right = c.in-Losing.field-1 in
    let both = and_parts (is_some (word_of p.dict left)) (is_some (word_of p.dict right)) (sym (ap (has_words p) c.in-Losing.is) ∙ c.requires.words) in
    omega (arith, named_below p c.requires.sound left both.0, c.requires.sound.rows, ap (λ (e : Ext). e.props) c.ext-in-Losing.ensures)
