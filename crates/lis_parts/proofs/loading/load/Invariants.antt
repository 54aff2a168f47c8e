use Rattle.std.proofs.Common.{◌≡◌, true, length, Ok}
use Rattle.lis_ports.specs.declared.disk.Failed.{Failed}
use Rattle.lis_store.specs.Stored.{IsIndex}
use Rattle.lis_parts.proofs.Loaded.{Reading, IsLoaded}
use Rattle.lis_parts.proofs.loading.load.Given as goal

-- the blocks so far were read
abbrev pub invariant-loop-n : goal.invariant-loop-n
invariant-loop-n g l = record {
  reading : Reading {E = Failed} l.store (g.D.Disk.meaning l.fn.disk) (g.D.Disk.meaning l.disk) (Ok tt);
  whole : length l.block ≡ 4096;
  index : length l.index ≡ 4096;
  held : (g.D.Disk.meaning l.fn.disk).is_honest ≡ true → IsIndex l.store (g.D.Disk.meaning l.fn.disk).bytes l.slot l.n l.index;
  loaded : IsLoaded l.store l.slot l.size l.n (g.D.Disk.meaning l.fn.disk) l.bytes;
}
