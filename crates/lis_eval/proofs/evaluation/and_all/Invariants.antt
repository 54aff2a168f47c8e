use Rattle.std.proofs.Common.{◌≡◌, ◌≢◌, ℕ, ◌<◌, ◌&&◌}
use Rattle.lis_bits.specs.Rows.{HasShape, get}
use Rattle.lis_eval.specs.Stack.{in_all}
use Rattle.lis_eval.proofs.evaluation.and_all.Given as goal

abbrev pub invariant-loop-row : goal.invariant-loop-row
invariant-loop-row l = record {
  shape : HasShape l.rows 65 l.files;
  first : (bit : ℕ) → bit < l.files → get l.rows 0 bit ≡ (in_all l.fn.rows l.row bit && get l.fn.rows 0 bit);
  others : (other bit : ℕ) → other ≢ 0 → get l.rows other bit ≡ get l.fn.rows other bit;
}
