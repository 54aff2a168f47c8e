use Rattle.lis_kept.proofs.Filed.{files}
use Rattle.lis_kept.specs.contracts.metadata.Metadata.{the_view}
use Rattle.lis_kept.proofs.metadata.Metadata.place_record.Goals as goal

pub invariant_of-self : goal.invariant_of-self
invariant_of-self c =
    (files c.args.self.now (the_view c.self.inside) c.self.inside.taxonomy c.args.slot c.args.rec c.place.new.self c.mark_file.new.marks c.self.view_is c.self.invariant
    (record { below = c.requires.below; free = c.requires.free; absent = c.requires.new; sound = c.requires.sound; described = c.requires.described })
    c.place.ensures c.mark_file.ensures).0

pub returns : goal.returns
returns c =
    let both = files c.args.self.now (the_view c.self.inside) c.self.inside.taxonomy c.args.slot c.args.rec c.place.new.self c.mark_file.new.marks c.self.view_is c.self.invariant
    (record { below = c.requires.below; free = c.requires.free; absent = c.requires.new; sound = c.requires.sound; described = c.requires.described })
    c.place.ensures c.mark_file.ensures in
    record { files = both.1; sound = both.0.sound }
