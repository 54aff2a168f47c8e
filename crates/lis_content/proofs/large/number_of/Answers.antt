use Rattle.std.proofs.Common.{◌%◌, ◌∙◌, ap, sym, get_or}
use Rattle.lis_content.specs.Large.{number_at}
use Rattle.lis_content.proofs.Indexes.{large_numbers, number-numbers_of}
use Rattle.lis_content.proofs.large.number_of.Goals as goal

pub returns-then-is_large : goal.returns-then-is_large
returns-then-is_large c = record {
  number = λ at same.
      let laid = c.args.laid in
      let n = c.args.n in
      let large = sym c.is_large.ensures ∙ c.if-is_large.true in
      c.number_at.ensures
      ∙ (ap (λ bytes. number_at laid.version bytes (n % 1024)) (same large)
      ∙ (sym (number-numbers_of laid.version laid.base laid.blocks.now _ n at c.requires.inside)
      ∙ ap (λ ns. get_or ns n 0) (sym (large_numbers laid.version laid.base laid.blocks.now laid.size at large))));
}
