use Rattle.std.proofs.Common.{◌∙◌, ap, drop, take, rules}
use Rattle.std.proofs.lemmas.List.{take_rest}
use Rattle.lis_grow.proofs.Takings.{given}
use Rattle.lis_grow.proofs.source.give.Goals as goal

pub returns-clause-bytes : goal.returns-clause-bytes
returns-clause-bytes c =
    let place = c.args.place in
    let left = take_rest c.bytes.result.now place ∙ ap (drop place) c.bytes.ensures.bytes in
    given c.args.piece.now c.args.buf.now c.copy_from_slice.new.self place c.min-count.result c.requires (search rules)
    (c.copy_from_slice.ensures.after ∙ ap (take c.min-count.result) left)
