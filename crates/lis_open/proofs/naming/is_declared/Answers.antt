use Rattle.lis_open.proofs.Common.{◌∙◌, sym, ap, arith, number_below, bit_of}
use Rattle.lis_open.proofs.Descriptions.{declared_bit}
use Rattle.lis_open.proofs.naming.is_declared.Goals as goal

pub get-requires : goal.get-requires
get-requires c =
    let are = c.requires in
    let below = number_below c.args.words.now.dict are.dict c.args.word.now c.in-Some.number (sym c.in-Some.ensures) in
    omega (arith, below, are.long)

pub returns-in-None : goal.returns-in-None
returns-in-None c = ap (bit_of c.args.words.now.declared) c.in-None.ensures ∙ declared_bit c.args.words.now c.args.word.now

pub returns-in-Some : goal.returns-in-Some
returns-in-Some c =
    c.get.ensures ∙ (ap (bit_of c.args.words.now.declared) c.in-Some.ensures ∙ declared_bit c.args.words.now c.args.word.now)
