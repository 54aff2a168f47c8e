use Rattle.lis_store.proofs.Common.{ℕ, ◌≡◌, ◌<◌, option_to_list, List, length, sym, subst, ◌∙◌, flat_map, IsStrictlySortedBy, word_of, word_cmp, retagged, sorted_set_of, tags_at, words_told}
use Rattle.std.specs.Prelude.{MatchOption}
use Rattle.lis_store.proofs.retagging.words_moved.Goals as goal

pub returns-clause-words : goal.returns-clause-words
returns-clause-words c rec in_slot =
    let k = c.args.metadata.now in let here = tags_at c.args.here.now in let there = tags_at c.args.there.now in
    let words_are : c.as_slice.result.now ≡ words_told k.dict rec.tags = c.as_slice.ensures.value ∙ c.assigned_in-words.ensures.words rec in_slot in
    let set = sorted_set_of (flat_map (λ n. option_to_list (word_of k.dict n)) rec.tags) in
    subst (λ (ws : List (List ℕ)). MatchOption c.retagged.result (16 < length (retagged ws here there)) (λ moved. moved.items ≡ retagged ws here there)) words_are
    (c.retagged.ensures.words (subst (IsStrictlySortedBy word_cmp) (sym words_are) set))
