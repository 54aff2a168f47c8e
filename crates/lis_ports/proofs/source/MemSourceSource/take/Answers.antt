use Rattle.std.proofs.Common.{drop, ap, ◌∙◌, rules}
use Rattle.std.proofs.lemmas.List.{take_rest}
use Rattle.lis_ports.proofs.Taking.{taken}
use Rattle.lis_ports.proofs.source.MemSourceSource.take.Goals as goal

pub returns-clause-take : goal.returns-clause-take
returns-clause-take c =
    let place = c.args.self.now.place in
    let left = take_rest c.deref.result.now place ∙ ap (drop place) c.deref.ensures.value in
    taken c.args.self.now.bytes.items _ c.args.buf.now c.copy_from_slice.new.self place c.args.self.now.step c.min-count.result _ left (search rules) c.args.self.now.takes_some c.copy_from_slice.ensures.after
