use Rattle.std.proofs.Common.{◌≡◌, length, Ok, IsTrue}
use Rattle.lis_store.specs.Stored.{IsIndex}
use Rattle.lis_session.specs.Parts.{Ends}
use Rattle.lis_session.specs.Showing.{DiskStays}
use Rattle.lis_session.proofs.Blocks.{ShowsOf, first_blocks}
use Rattle.lis_session.proofs.content.show_content.Given as goal

abbrev pub invariant-loop-n : goal.invariant-loop-n
invariant-loop-n g l =
    let old = g.T.Disk.meaning l.fn.station in
    let now = g.T.Disk.meaning l.station in
    record {
      ends : Ends old now (Ok tt);
      disk : IsTrue old.is_honest → DiskStays old now;
      index : length l.index ≡ 4096;
      whole : length l.block ≡ 4096;
      held : IsTrue old.is_honest → IsIndex l.store old.bytes l.slot l.n l.index;
      shown : ShowsOf (first_blocks l.n) l.store l.slot old now (Ok tt);
    }
