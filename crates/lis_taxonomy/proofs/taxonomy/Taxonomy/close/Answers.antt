use Rattle.std.proofs.Common.{◌≡◌, ◌<◌, ◌∙◌, ℕ, List, length, count_by, true, ap, subst, arith}
use Rattle.std.specs.List.{range_with_len}
use Rattle.lis_taxonomy.specs.Inside.{IsSearched}
use Rattle.lis_taxonomy.specs.Taxonomy.{Taxonomy, any_entails}
use Rattle.lis_taxonomy.specs.Search.{is_found}
use Rattle.lis_taxonomy.proofs.Ups.{found_entailed, found_below, found_count}
use Rattle.lis_taxonomy.proofs.taxonomy.Taxonomy.close.Goals as goal

searched : (c : goal.After-close) → IsSearched c.self.inside.edges.items c.args.search.now c.close.new.self
searched c = subst (λ (es : List (ℕ × ℕ)). IsSearched es c.args.search.now c.close.new.self) c.deref.ensures.value c.close.ensures.found

starts_in : (c : goal.After-close) → (q : ℕ) → is_found c.args.search.now q ≡ true → q < c.self.inside.props
starts_in c q h = omega (arith, c.requires q h, ap (λ (t : Taxonomy). t.props) c.self.view_is)

pub returns-clause-found : goal.returns-clause-found
returns-clause-found c = λ q.
    let m = c.self.inside in
    found_entailed m.edges.items m.props c.self.invariant.order c.args.search.now c.close.new.self (searched c) q ∙ ap (λ t. any_entails t c.args.search.now q) c.self.view_is

pub returns-clause-below : goal.returns-clause-below
returns-clause-below c = λ q h.
    let m = c.self.inside in
    omega (arith, found_below m.edges.items m.props c.self.invariant.order c.args.search.now c.close.new.self (searched c) (starts_in c) q h, ap (λ (t : Taxonomy). t.props) c.self.view_is)

pub returns-clause-count : goal.returns-clause-count
returns-clause-count c =
    let m = c.self.inside in
    let order = c.self.invariant.order in
    let once = c.close.ensures.once m.props order.few (found_below m.edges.items m.props order c.args.search.now c.close.new.self (searched c) (starts_in c)) in
    subst (λ t. length c.close.new.self ≡ count_by (any_entails t c.args.search.now) (range_with_len 0 t.props)) c.self.view_is
    (found_count m.edges.items m.props order c.args.search.now c.close.new.self (searched c) once)
