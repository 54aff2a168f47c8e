use Rattle.lis_open.proofs.Common.{◌≡◌, ℕ, ◌<◌, ◌||◌, take, list_any, HasShape, get, is_left_of, is_left_head_of}
use Rattle.lis_open.proofs.checks.mark_lefts.Given as goal

abbrev pub invariant-loop-slot : goal.invariant-loop-slot
invariant-loop-slot l = record {
  shape : HasShape l.row 1 l.words.dict.props;
  bits : (n : ℕ) → n < l.words.dict.props → get l.row 0 n ≡ list_any (λ slot. is_left_of n slot || is_left_head_of l.words.dict n slot) (take l.slot-index l.axioms.slots.items);
}
