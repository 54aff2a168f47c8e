use Rattle.lis_store.proofs.Common.{◌∙◌, sym, arith, number_below, word_from_number}
use Rattle.lis_kept.proofs.Entailed.{leads_told}
use Rattle.lis_store.proofs.Related.{entails_unnumbered, decided}
use Rattle.lis_store.proofs.relating.leads.Goals as goal

pub returns-in_default : goal.returns-in_default
returns-in_default c = sym (entails_unnumbered c.args.metadata.now c.requires.sound c.args.word.now c.args.other.now c.args.number c.requires.number (sym c.number_of.ensures ∙ c.in_default.is))

pub entails-requires-clause-p : goal.entails-requires-clause-p
entails-requires-clause-p c =
    omega (arith, number_below c.args.metadata.now.dict c.requires.sound.dict c.args.word.now c.args.number c.requires.number, c.requires.sound.numbers, c.taxonomy.ensures.props)

pub entails-requires-clause-q : goal.entails-requires-clause-q
entails-requires-clause-q c =
    omega (
      arith,
      number_below c.args.metadata.now.dict c.requires.sound.dict c.args.other.now c.in-Some.to (sym c.number_of.ensures ∙ c.in-Some.is),
      c.requires.sound.numbers,
      c.taxonomy.ensures.props,
    )

pub returns : goal.returns
returns c =
    let t = c.taxonomy.result.now in
    let k = c.args.metadata.now in
    let sound = c.requires.sound in
    decided t c.args.number c.in-Some.to c.entails.result c.entails.ensures
    ∙ leads_told k sound t c.taxonomy.ensures c.args.number c.in-Some.to c.args.word.now c.args.other.now
    (word_from_number k.dict sound.dict c.args.word.now c.args.number c.requires.number)
    (word_from_number k.dict sound.dict c.args.other.now c.in-Some.to (sym c.number_of.ensures ∙ c.in-Some.is))
