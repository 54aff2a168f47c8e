use Rattle.std.proofs.Common.{◌≡◌, ◌≤◌, length, take}
use Rattle.lis_formula.specs.Reader.{walk_of}
use Rattle.lis_formula.proofs.Reaching.{Reaches}
use Rattle.lis_formula.proofs.read.read_path.Given as goal

abbrev pub invariant-loop-byte : goal.invariant-loop-byte
invariant-loop-byte l = record {
  at : l.at ≡ l.byte-index;
  room : length l.reader.held.signs ≤ l.byte-index;
  reached : Reaches (take l.byte-index l.text) (walk_of l.reader);
}
