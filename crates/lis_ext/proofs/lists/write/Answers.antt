use Rattle.std.proofs.Common.{◌⊎◌, ◌≢◌, ℕ, ◌+◌, ◌<◌, ◌≤◌, length, ◌∙◌, inl, inr, arith, get_or-set_other, get_or-set_same, below_more}
use Rattle.lis_ext.proofs.lists.write.Goals as goal

outside : (start many k j : ℕ) → k < many → (j < start) ⊎ (start + many ≤ j) → j ≢ start + k
outside start many k j lt (inl below) = omega arith
outside start many k j lt (inr above) = omega arith

pub loop-k-preserved : goal.loop-k-preserved
loop-k-preserved c =
    let l = c.loop-k in
    let start = c.args.start in
    let at : start + l.k < length l.places = omega arith in
    record {
      written = below_more _ _ (λ j lt. let differ : start + j ≢ start + l.k = omega arith in get_or-set_other l.places (start + l.k) (start + j) _ 0 differ ∙ l.invariant.written j lt)
          (get_or-set_same l.places (start + l.k) _ 0 at);
      others = λ j out. get_or-set_other l.places (start + l.k) j _ 0 (outside start (length c.args.numbers.now) l.k j (omega arith) out) ∙ l.invariant.others j out;
    }
