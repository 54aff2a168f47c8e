use Rattle.std.proofs.Common.{rules, ◌≡◌, ◌*◌, ◌++◌, ◌∙◌, take, ap, sym, arith}
use Rattle.lis_fields.specs.Layouts.{number_width}
use Rattle.lis_content.proofs.Indexes.{numbers_read}
use Rattle.lis_content.proofs.large.push_numbers.Goals as goal

pub returns : goal.returns
returns c =
    let ns = c.read_wide.new.numbers in
    let version = c.args.version in
    let same : c.try_extend_from_slice.new.self.items ≡ c.args.numbers.now.items ++ ns = search rules in
    let cut : take (number_width version * c.args.count) c.args.block.now ≡ take (c.number_width.result * c.args.count) c.args.block.now = ap (λ w. take (w * c.args.count) c.args.block.now) (sym c.number_width.ensures) in
    same ∙ ap (λ xs. c.args.numbers.now.items ++ xs) (numbers_read version c.args.count c.args.block.now ns (omega arith) c.read_wide.ensures.fit (cut ∙ c.read_wide.ensures.spelled))
