use Rattle.lis_open.proofs.Common.{rules, arith, sym, subst, ℕ, ◌<◌, IsDict, Property}
use Rattle.lis_open.specs.Reading.{IsFirst}
use Rattle.lis_open.proofs.WordsRead.{words_pass, malformed_fails, first_again}
use Rattle.lis_open.proofs.words.read_words.Goals as goal
use Rattle.lis_open.proofs.words.read_words.Goals.{in-Ok-2, in-Err}

pub returns-in_err-end-clause-ended : goal.returns-in_err-end-clause-ended
returns-in_err-end-clause-ended g c = λ kept fits recalled. search rules

pub returns-in-Ok-clause-ended : goal.returns-in-Ok-clause-ended
returns-in-Ok-clause-ended g c = λ kept fits recalled.
    let ended = c.in_ok-end.ensures.ended kept fits recalled in
    let dict : IsDict c.in-Ok.dict = search rules in
    words_pass c.args.limits.now kept c.read_properties.new.slots c.in_ok-end.end c.in_ok-end.ensures.read ended.spelled c.in-Ok.dict dict c.in-Ok.ensures.sorted (omega (arith, c.if-end-limits.true))

pub returns-clause-ended : goal.returns-clause-ended
returns-clause-ended g c = λ kept fits recalled.
    let limits = c.args.limits.now in
    let slots = c.read_properties.new.slots in
    let end = c.in_ok-end.end in
    let read = c.in_ok-end.ensures.read in
    let ended = c.in_ok-end.ensures.ended kept fits recalled in
    elim c.match-sort.branch [
      | in-Ok-2 w ↦
          let below : end < limits.props = omega (arith, read.within, w.if-end-limits.false) in
          let dict : IsDict w.in-Ok.dict = search rules in
          subst (λ (n : ℕ). IsFirst limits kept 2 (Property n)) (sym w.spot-is) (malformed_fails limits kept slots end read ended.spelled w.in-Ok.dict dict w.in-Ok.ensures.sorted below (ended.malformed below))
      | in-Err w ↦ subst (λ (n : ℕ). IsFirst limits kept 2 (Property n)) (sym w.spot-is) (first_again limits kept slots end read ended.spelled w.in-Err.again w.in-Err.ensures.again)
    ]
