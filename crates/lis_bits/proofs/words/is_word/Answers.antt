use Rattle.std.proofs.Common.{sym, ◌∙◌, arith, eq-eqb}
use Rattle.std.proofs.lemmas.Bool.{eqb-true}
use Rattle.lis_bits.proofs.Loads.{from_load, to_load}
use Rattle.lis_bits.proofs.words.is_word.Goals as goal

pub returns : goal.returns
returns c =
    let bytes = c.args.bytes.now in
    let word = c.args.word in
    let loaded = c.from_le_bytes.result in (
      λ same. from_load bytes word c.requires (λ i. omega (arith, c.type_inv.bytes i)) (eqb-true word loaded same ∙ c.from_le_bytes.ensures),
      λ each. eq-eqb word loaded (to_load bytes word c.ranges.word.fits each ∙ sym c.from_le_bytes.ensures),
    )
