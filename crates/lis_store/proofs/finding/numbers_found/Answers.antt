use Rattle.lis_store.proofs.Common.{◌≡◌, ◌+◌, ◌∙◌, [], ◌∷◌, ◌++◌, length, refl, ap, arith}
use Rattle.lis_taxonomy.specs.Search.{is_found}
use Rattle.lis_store.proofs.NumbersFound.{found_below, found_one, found_past, found_room, found_end}
use Rattle.lis_store.proofs.finding.numbers_found.Goals as goal

pub push-requires : goal.push-requires
push-requires g c =
    let test = is_found c.args.search.now in
    let next = c.in-Some.ensures in
    let lt = c.requires.1.below c.in-Some.number next.found in
    let room = found_room test c.requires.0 _ c.in-Some.number lt next.found c.requires.2 in
    let past = found_past test c.loop-number.start c.in-Some.number next.from_start next.least in
    (omega arith, omega (arith, ap length c.loop-number.invariant.0, ap length past, room))

pub loop-number-preserved : goal.loop-number-preserved
loop-number-preserved g c =
    let test = is_found c.args.search.now in
    let next = c.in-Some.ensures in
    let ns = c.loop-number.numbers.items in
    let n = c.in-Some.number in
    let past = found_past test c.loop-number.start n next.from_start next.least in
    let more = found_one test n ns (ns ++ n ∷ []) (c.loop-number.invariant.0 ∙ past) next.found refl in
    let all : c.push.new.self.items ≡ found_below test (n + 1) = cc in
    (all, omega (arith, next.below))

pub returns : goal.returns
returns g c = λ props below.
    let test = is_found c.args.search.now in
    let none = c.in_default.ensures.none in
    c.loop-number.invariant.0 ∙ found_end test c.loop-number.start 1048576 props c.loop-number.invariant.1 (λ n from lt. none n from) below.few below.below
