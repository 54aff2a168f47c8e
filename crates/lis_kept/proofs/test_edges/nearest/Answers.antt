use Rattle.std.proofs.Common.{arith, slice_get, length, List, subst}
use Rattle.lis_eval.proofs.Members.{past_end}
use Rattle.lis_kept.proofs.Common.{◌≡◌, ◌∙◌, sym, Some, ℕ, ◌<◌, number_below, number_from_word}
use Rattle.lis_kept.proofs.NearestFound.{NearestAmong, none_yet, not_past, not_nearer_by, nearer_by, found_below, found_neighbour, word_here}
use Rattle.lis_kept.proofs.test_edges.nearest.Goals.{in-Some-test_past+then-is_nearer, in-Some-test_past+else-is_nearer, in_default-test_past}
use Rattle.lis_kept.proofs.test_edges.nearest.Goals as goal

pub loop-place-init : goal.loop-place-init
loop-place-init c = none_yet c.args.side c.args.dict.now c.args.declared.now c.args.test c.tests-start.ensures.kept c.tests-start.result.0 c.tests-start.ensures.before

pub unreachable-requires : goal.unreachable-requires
unreachable-requires c =
    let entries = c.args.dict.now.entries in
    let lt : c.loop-place.place < length entries = omega (arith, c.loop-place-test.true, c.tests-start.ensures.within) in
    omega (arith, lt, past_end entries c.loop-place.place (sym c.word_at.ensures ∙ c.in_default.is))

pub test_past-requires : goal.test_past-requires
test_past-requires c =
    let dict = c.args.dict.now in
    let number = c.in-Some.number in
    let here : slice_get dict.entries c.loop-place.place ≡ Some (c.in-Some.field-0-0, number) = sym c.word_at.ensures ∙ c.in-Some.is in
    let named = word_here c.args.side dict c.args.declared.now c.args.test c.tests-start.ensures.kept c.loop-place.place (c.in-Some.field-0-0, number) here in
    let below = number_below dict c.tests-start.ensures.kept c.in-Some.field-0-0 number (number_from_word dict c.tests-start.ensures.kept c.in-Some.field-0-0 number named) in
    omega (arith, below, c.requires.bits)

pub loop-place-preserved : goal.loop-place-preserved
loop-place-preserved c =
    let side = c.args.side in
    let d = c.args.dict.now in
    let bits = c.args.declared.now in
    let place = c.loop-place.place in
    let before = c.loop-place.invariant in
    let e : List ℕ × ℕ = (c.in-Some.field-0-0, c.in-Some.number) in
    let here : slice_get d.entries place ≡ Some e = sym c.word_at.ensures ∙ c.in-Some.is in
    elim c.match-test_past.branch [
      | in-Some-test_past+then-is_nearer w ↦
          rw w.nearest-is (nearer_by side d bits c.args.test place e here w.in-Some-test_past.found w.in-Some-test_past.ensures.there w.in-Some-test_past.ensures.past
          c.loop-place.nearest w.is_nearer.result w.is_nearer.ensures w.if-is_nearer.true before)
      | in-Some-test_past+else-is_nearer w ↦
          rw w.nearest-is (not_nearer_by side d bits c.args.test place e here w.in-Some-test_past.found w.in-Some-test_past.ensures.there w.in-Some-test_past.ensures.past
          c.loop-place.nearest w.is_nearer.result w.is_nearer.ensures w.if-is_nearer.false before)
      | in_default-test_past w ↦ rw w.nearest-is (not_past side d bits c.args.test place e here c.loop-place.nearest before (rw w.in_default-test_past.is at c.test_past.ensures.past))
    ]

at_end : (c : goal.After-number_of) → NearestAmong c.args.side c.args.dict.now c.args.declared.now c.args.test c.tests-start.result.1 c.loop-place.nearest
at_end c =
    let tests = c.tests-start.ensures in
    let end : c.loop-place.place ≡ c.tests-start.result.1 = omega (arith, c.loop-place.auto.place-end tests.rise, c.loop-place-test.false) in
    subst (λ k. NearestAmong c.args.side c.args.dict.now c.args.declared.now c.args.test k c.loop-place.nearest) end c.loop-place.invariant

pub returns-clause-below : goal.returns-clause-below
returns-clause-below c = rw c.number_of.ensures (found_below c.args.side c.args.dict.now c.args.declared.now c.args.test c.tests-start.ensures.kept c.tests-start.result.1 c.loop-place.nearest (at_end c))

pub returns-clause-neighbour : goal.returns-clause-neighbour
returns-clause-neighbour c = rw c.number_of.ensures (found_neighbour c.args.side c.args.dict.now c.args.declared.now c.args.test c.tests-start.ensures.kept c.tests-start.result.1 c.loop-place.nearest c.tests-start.ensures.behind (at_end c))
