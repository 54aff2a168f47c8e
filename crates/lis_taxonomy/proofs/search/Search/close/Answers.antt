use Rattle.std.proofs.Common.{◌<◌, ℕ, List, ◌∙◌, get_or, length, ap, sym, subst, arith}
use Rattle.lis_limits.specs.declared.TheConstants.{V3_MAX_PROPS}
use Rattle.lis_taxonomy.specs.Inside.{MeetsRights}
use Rattle.lis_taxonomy.proofs.Searches.{searches_start, searches_step, searches_end}
use Rattle.lis_taxonomy.proofs.search.Search.close.Goals as goal

pub loop-done-init : goal.loop-done-init
loop-done-init c = searches_start c.args.edges.now c.args.self.now

pub bounds-numbers-done : goal.bounds-numbers-done
bounds-numbers-done c = omega (arith, c.loop-done-test.true, ap length c.numbers.ensures.value, ap length c.numbers-in-loop-done.ensures.value)

pub meet_rights-requires-clause-number : goal.meet_rights-requires-clause-number
meet_rights-requires-clause-number c = c.numbers-in-loop-done.ensures.below c.loop-done.done 0 (omega (arith, c.loop-done-test.true, ap length c.numbers.ensures.value, ap length c.numbers-in-loop-done.ensures.value))

pub loop-done-smaller : goal.loop-done-smaller
loop-done-smaller c =
    let few : c.loop-done.done < V3_MAX_PROPS = omega (arith, c.loop-done-test.true, c.numbers.ensures.few) in
    omega (arith, few)

pub loop-done-preserved : goal.loop-done-preserved
loop-done-preserved c =
    let l = c.loop-done in
    let lt : l.done < length l.self = omega (arith, c.loop-done-test.true, ap length c.numbers.ensures.value) in
    let meets = subst (λ (xs : List ℕ). MeetsRights c.args.edges.now l.self c.meet_rights.new.self (get_or xs l.done 0)) c.numbers-in-loop-done.ensures.value c.meet_rights.ensures in
    searches_step c.args.edges.now c.args.self.now l.self c.meet_rights.new.self l.done l.invariant lt meets

pub returns-clause-found : goal.returns-clause-found
returns-clause-found c =
    let l = c.loop-done in
    searches_end c.args.edges.now c.args.self.now l.self l.done l.invariant (omega (arith, c.loop-done-test.false, ap length c.numbers.ensures.value))

pub returns-clause-once : goal.returns-clause-once
returns-clause-once c = λ props few below. sym (ap length c.numbers.ensures.value) ∙ c.numbers.ensures.once props few below
