use Rattle.std.proofs.Common.{◌≡◌, ◌<◌, ◌∙◌, ℕ, List, length, true, count_by, ap, subst, arith, take_all}
use Rattle.std.specs.List.{range_with_len}
use Rattle.lis_taxonomy.specs.Inside.{IsSearched}
use Rattle.lis_taxonomy.specs.Taxonomy.{Taxonomy, any_entails}
use Rattle.lis_taxonomy.specs.Search.{is_found}
use Rattle.lis_taxonomy.proofs.Searches.{at_has, searched_as}
use Rattle.lis_taxonomy.proofs.Ups.{found_entailed, found_below, found_count}
use Rattle.lis_taxonomy.proofs.taxonomy.Taxonomy.find_all.Goals as goal

pub meet-requires : goal.meet-requires
meet-requires c =
    omega (arith, c.requires c.loop-number.number-index 0 c.loop-number-test.true, c.self.invariant.order.few, ap (λ (t : Taxonomy). t.props) c.self.view_is)

searched : (c : goal.After-close) → IsSearched c.self.inside.edges.items c.args.numbers.now c.close.new.self
searched c =
    let m = c.self.inside in
    let l = c.loop-number in
    searched_as m.edges.items l.search c.args.numbers.now c.close.new.self (λ q. l.invariant q ∙ ap (λ (ns : List ℕ). is_found ns q) (take_all l.number-index c.args.numbers.now c.loop-number-test.false))
    (subst (λ (es : List (ℕ × ℕ)). IsSearched es l.search c.close.new.self) c.deref.ensures.value c.close.ensures.found)

numbers_in : (c : goal.After-close) → (q : ℕ) → is_found c.args.numbers.now q ≡ true → q < c.self.inside.props
numbers_in c q h =
    let k = at_has c.args.numbers.now q h in
    subst (λ x. x < c.self.inside.props) k.2 (omega (arith, c.requires k.0 0 k.1, ap (λ (t : Taxonomy). t.props) c.self.view_is))

pub returns-clause-found : goal.returns-clause-found
returns-clause-found c = λ q.
    let m = c.self.inside in
    found_entailed m.edges.items m.props c.self.invariant.order c.args.numbers.now c.close.new.self (searched c) q ∙ ap (λ t. any_entails t c.args.numbers.now q) c.self.view_is

pub returns-clause-below : goal.returns-clause-below
returns-clause-below c = λ q h.
    let m = c.self.inside in
    omega (arith, found_below m.edges.items m.props c.self.invariant.order c.args.numbers.now c.close.new.self (searched c) (numbers_in c) q h, ap (λ (t : Taxonomy). t.props) c.self.view_is)

pub returns-clause-count : goal.returns-clause-count
returns-clause-count c =
    let m = c.self.inside in
    let order = c.self.invariant.order in
    let once = c.close.ensures.once m.props order.few (found_below m.edges.items m.props order c.args.numbers.now c.close.new.self (searched c) (numbers_in c)) in
    subst (λ t. length c.close.new.self ≡ count_by (any_entails t c.args.numbers.now) (range_with_len 0 t.props)) c.self.view_is
    (found_count m.edges.items m.props order c.args.numbers.now c.close.new.self (searched c) once)
