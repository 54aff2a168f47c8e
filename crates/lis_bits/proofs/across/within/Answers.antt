use Rattle.std.proofs.Common.{◌≡◌, length, sym, ◌∙◌, arith}
use Rattle.lis_bits.proofs.Subset.{words_within, within_words}
use Rattle.lis_bits.proofs.across.within.Goals as goal

pub returns : goal.returns
returns c =
    let a = c.words.result.now in
    let b = c.words-2.result.now in
    let a_bits = c.words.ensures.bits in
    let b_bits = c.words-2.ensures.bits in
    let same : length a ≡ length b = omega arith in (
      λ yes bit lt true_in_a. c.words-2.ensures.words bit (omega arith) ∙ words_within a b same c.words.ensures.fit c.words-2.ensures.fit (c.is_subset.ensures.0 yes) bit (omega arith) (sym (c.words.ensures.words bit lt) ∙ true_in_a),
      λ within. c.is_subset.ensures.1 (within_words a b same c.words.ensures.fit c.words-2.ensures.fit
          (λ k lt true_in_a. sym (c.words-2.ensures.words k (omega arith)) ∙ within k (omega arith) (c.words.ensures.words k (omega arith) ∙ true_in_a))),
    )
