use Rattle.lis_line.specs.Reading.{told, next_map, item_with}
use Rattle.lis_line.proofs.Held.{says_ahead}
use Rattle.lis_line.proofs.reader.LineReader.read_held.Goals as goal

pub returns-then-lies_whole-clause-says : goal.returns-then-lies_whole-clause-says
returns-then-lies_whole-clause-says g c =
    let whole = c.requires.whole c.if-lies_whole.true in
    says_ahead c.args.self.now c.read.new.self whole.1 (g.S.Source.left c.args.source.now) (told (next_map (item_with c.read.new.payload)) c.read.result) whole.0 c.read.ensures.says
