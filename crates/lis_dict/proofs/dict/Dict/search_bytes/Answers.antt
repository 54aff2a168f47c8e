use Rattle.std.proofs.Common.{◌≡◌, IfOk, IfErr, length, map, rules, sym, ap, subst, ◌∙◌}
use Rattle.std.specs.List.{HoldsAt}
use Rattle.std.specs.List.Sorted.{IsSearchInRange}
use Rattle.std.proofs.lemmas.Fn.{always_returns_same}
use Rattle.std.proofs.lemmas.List.{length-map}
use Rattle.lis_words.specs.Words.{word_cmp}
use Rattle.lis_dict.specs.Dict.{Dict}
use Rattle.lis_dict.specs.Inside.{entry_in}
use Rattle.lis_dict.proofs.Entries.{DictEntry, Ordered, ordered_from_rising}
use Rattle.lis_dict.proofs.Places.{IsGap, searched, searched_found, searched_absent}
use Rattle.lis_dict.proofs.dict.Dict.search_bytes.Goals as goal

pub returns-clause-bound : goal.returns-clause-bound
returns-clause-bound c =
    let i = c.self.inside in
    let long = ap length c.deref.ensures.value ∙ (sym (length-map i.order.items (entry_in i.holders.items)) ∙ ap (λ (d : Dict). length d.entries) c.self.view_is) in
    subst (IsSearchInRange c.binary_search_by.result) long c.binary_search_by.ensures.bound

pub returns-clause-found : goal.returns-clause-found
returns-clause-found c =
    let i = c.self.inside in
    let bytes = c.args.bytes.now in
    let entry = entry_in c.as_slice-holders.result.now in
    let asked = c.binary_search_by.ensures.position (λ n. word_cmp (entry n).0 bytes) (always_returns_same _ _ _ (λ a r f called. search rules)) in
    let ordered : Ordered (map entry c.deref.result.now) = rw (c.deref.ensures.value, c.as_slice-holders.ensures.value) (ordered_from_rising (map (entry_in i.holders.items) i.order.items) c.self.invariant.sound.dict.rising) in
    let told = searched_found (map entry c.deref.result.now) ordered bytes c.binary_search_by.result (searched entry c.deref.result.now bytes c.binary_search_by.result c.binary_search_by.ensures.bound asked) in
    subst (λ (d : Dict). IfOk c.binary_search_by.result (HoldsAt (λ (e : DictEntry). e.0 ≡ bytes) d.entries)) c.self.view_is
    (rw (c.deref.ensures.value, c.as_slice-holders.ensures.value) at told)

pub returns-clause-absent : goal.returns-clause-absent
returns-clause-absent c =
    let i = c.self.inside in
    let bytes = c.args.bytes.now in
    let entry = entry_in c.as_slice-holders.result.now in
    let asked = c.binary_search_by.ensures.position (λ n. word_cmp (entry n).0 bytes) (always_returns_same _ _ _ (λ a r f called. search rules)) in
    let ordered : Ordered (map entry c.deref.result.now) = rw (c.deref.ensures.value, c.as_slice-holders.ensures.value) (ordered_from_rising (map (entry_in i.holders.items) i.order.items) c.self.invariant.sound.dict.rising) in
    let told = searched_absent (map entry c.deref.result.now) ordered bytes c.binary_search_by.result (searched entry c.deref.result.now bytes c.binary_search_by.result c.binary_search_by.ensures.bound asked) in
    subst (λ (d : Dict). IfErr c.binary_search_by.result (IsGap d.entries bytes)) c.self.view_is
    (rw (c.deref.ensures.value, c.as_slice-holders.ensures.value) at told)
