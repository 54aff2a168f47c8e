use Rattle.lis_open.proofs.Common.{◌∙◌, sym, ap, arith, number_below, bit_of}
use Rattle.lis_dict.proofs.Laws.{number_from_word}
use Rattle.lis_open.proofs.Descriptions.{declared_bit}
use Rattle.lis_open.proofs.naming.is_flagged.Goals as goal

pub get-requires : goal.get-requires
get-requires c =
    let are = c.requires.are in
    let d = c.args.words.now.dict in
    let below = number_below d are.dict c.args.word.now c.args.number (number_from_word d are.dict c.args.word.now c.args.number c.requires.number) in
    omega (arith, below, are.long)

pub returns : goal.returns
returns c =
    let d = c.args.words.now.dict in
    let numbered = number_from_word d c.requires.are.dict c.args.word.now c.args.number c.requires.number in
    c.get.ensures ∙ (ap (bit_of c.args.words.now.declared) (sym numbered) ∙ declared_bit c.args.words.now c.args.word.now)
