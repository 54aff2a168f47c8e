use Rattle.std.proofs.Common.{rules, map, length, MatchResult, sym, ap, subst, ◌∙◌}
use Rattle.std.specs.List.Sorted.{IsStrictlySortedBy, IsSearchInRange}
use Rattle.std.proofs.lemmas.Fn.{always_returns_same}
use Rattle.lis_words.specs.Words.{word_cmp}
use Rattle.lis_catalog.specs.Catalog.{Catalog, filed_cmp}
use Rattle.lis_catalog.specs.Inside.{filed_in, FoundAt, PlaceFor}
use Rattle.lis_catalog.proofs.Held.{sorted, seen_length}
use Rattle.lis_catalog.proofs.Places.{searched}
use Rattle.lis_catalog.proofs.catalog.Catalog.find.Goals as goal

pub returns-clause-place : goal.returns-clause-place
returns-clause-place c =
    let i = c.self.inside in
    let name = c.args.name.now in
    let filed = filed_in c.as_slice-records.result.now in
    let order = c.deref.result.now in
    let asked = c.binary_search_by.ensures.position (λ slot. word_cmp (filed slot).rec.name name) (always_returns_same _ _ _ (λ a r f called. search rules)) in
    let rising : IsStrictlySortedBy filed_cmp (map filed order) = rw (c.deref.ensures.value, c.as_slice-records.ensures.value) (sorted i.files _ i.records.items i.order.items c.self.invariant.held) in
    let told = searched filed name order c.binary_search_by.result rising c.binary_search_by.ensures.bound asked in
    subst (λ (s : Catalog). MatchResult c.binary_search_by.result (λ k. FoundAt name k s.entries) (λ k. PlaceFor name k s.entries)) c.self.view_is
    (rw (c.deref.ensures.value, c.as_slice-records.ensures.value) at told)

pub returns-clause-bound : goal.returns-clause-bound
returns-clause-bound c =
    let i = c.self.inside in
    subst (λ n. IsSearchInRange c.binary_search_by.result n)
    (ap length c.deref.ensures.value ∙ sym (seen_length i.files i.records.items i.order.items c.args.self.now c.self.view_is)) c.binary_search_by.ensures.bound
