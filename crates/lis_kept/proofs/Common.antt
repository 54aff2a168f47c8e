-- The names that most proofs of this crate cite, passed on from one place. Declares nothing.
pub use Rattle.lis_bits.specs.Rows.{NoneTrue, get}
pub use Rattle.lis_catalog.specs.Catalog.{Catalog, Filed, IsCatalog, rec_at, slot_of, without_slot}
pub use Rattle.lis_content.proofs.Numbers.{length-marked, neither}
pub use Rattle.lis_content.specs.Content.{marked}
pub use Rattle.lis_content.specs.Large.{slot_count}
pub use Rattle.lis_dict.proofs.Laws.{number_below, number_from_word, word_from_number}
pub use Rattle.lis_dict.specs.Dict.{Dict, IsDict, number_of, without_word, word_of, words}
pub use Rattle.lis_ext.proofs.Numbers.{among_where}
pub use Rattle.lis_ext.specs.Ext.{Ext, has, set_of as numbers_at}
pub use Rattle.lis_fields.specs.Layouts.{axiom_bytes, file_bytes, is_prop, is_undeclared, prop_bytes, slot_blocks}
pub use Rattle.lis_fields.specs.Records.{FileRecord}
pub use Rattle.lis_fields.specs.declared.slots.AxiomSlot.{AxiomSlot}
pub use Rattle.lis_fields.specs.declared.slots.AxiomSlot.TheVariants.{Free as FreeAxiom, Pair}
pub use Rattle.lis_graph.proofs.Members.{Among, among_filter, among_flat_map, among_from_any, among_from_contains, among_insert_key, among_map, among_right, any_from_among, contains_from_among, filter_among, flat_map_among, insert_key_new, insert_key_old, map_among}
pub use Rattle.lis_graph.proofs.Sets.{same_sets, sorted_from_rising, sorted_insert_key}
pub use Rattle.lis_graph.specs.Graph.{Chain}
pub use Rattle.lis_journal.specs.Journal.{Held}
pub use Rattle.lis_laws.proofs.Apart.{declarable_not_valued}
pub use Rattle.lis_laws.proofs.Chains.{OwnLink, head_not_valued, own_link}
pub use Rattle.lis_laws.proofs.Chains.OwnLink.{Head, Weaker}
pub use Rattle.lis_laws.proofs.Counts.{all_among, all_from, filter_le}
pub use Rattle.lis_laws.proofs.Locals.{same_tests}
pub use Rattle.lis_laws.proofs.Members.{among_from_has_word, has_word_from_among, pair_exact, pair_order, same_word_decides, same_words, word_order}
pub use Rattle.lis_model.specs.Changes.{same_pair, with_axiom}
pub use Rattle.lis_model.specs.Image.{bitmap_start, data_start}
pub use Rattle.lis_model.specs.Ranges.{are_in_range}
pub use Rattle.lis_model.specs.Sets.{with_word, are_distinct}
pub use Rattle.lis_model.specs.State.{File, description, is_declarable, up}
pub use Rattle.lis_model.specs.Tests.{are_weaker}
pub use Rattle.lis_model.specs.declared.limits.Limits.{Limits}
pub use Rattle.lis_ports.specs.Bytes.{part}
pub use Rattle.lis_taxonomy.specs.Taxonomy.{Taxonomy, has_edge, no_links, with_edge, without_edge}
pub use Rattle.lis_taxonomy.specs.declared.taxonomy.EdgeFault.{EdgeFault}
pub use Rattle.lis_taxonomy.specs.declared.taxonomy.EdgeFault.TheVariants.{Absent, Cycle, Present}
pub use Rattle.lis_words.specs.Words.{has_word, head_bytes, is_plain_word, is_test, is_valued, same_word, word_cmp}
pub use Rattle.std.proofs.Common.{Bool, Err, IfNone, IfSome, IsSome, IsTrue, List, None, Ok, Option, Result, Some, [], ap, ap₂, cond, count_by, drop, false, get_or, get_or-set_other, get_or-set_same, if◌then◌else◌, inl, inr, is_some, length, length-set, map, nat_lt, not, refl, rules, set, slice_get, subst, suc, sym, take, true, zero, ℕ, ◌%◌, ◌&&◌, ◌*◌, ◌++◌, ◌+◌, ◌-◌, ◌/◌, ◌<◌, ◌==◌, ◌||◌, ◌↔◌, ◌∙◌, ◌∷◌, ◌≡◌, ◌≤◌, ◌⊎◌}
pub use Rattle.std.proofs.lemmas.Bool.{and_from, and_parts, both_ways, cases_eq, cases_lt, eqb-true, false_from_ne_true, lt-ltb, ltb-true, ne_eqb, not-true, not_from_false, or_cases, or_left, or_right}
pub use Rattle.std.proofs.lemmas.Grind.{common_steps}
pub use Rattle.std.proofs.lemmas.List.{get_or_past, length-map, take_more}
pub use Rattle.std.proofs.lemmas.List.Elements.{Contains-get_or}
pub use Rattle.std.proofs.lemmas.List.Kept.{IsStrictlySortedBy-filter}
pub use Rattle.std.proofs.lemmas.List.Sums.{sum_by-cons}
pub use Rattle.std.proofs.lemmas.Option.{get_or_from_slice_get, same_Some, slice_get_within}
pub use Rattle.std.specs.BTreeSet.{insert_key}
pub use Rattle.std.specs.List.{Contains, find, flat_map, fold, list_all, list_any}
pub use Rattle.std.specs.List.Sorted.{IsStrictlySortedBy}
pub use Rattle.std.specs.Ordering.{match_ordering}
pub use Rattle.std.specs.declared.cmp.Ordering.{Ordering}
pub use Rattle.std.specs.declared.cmp.Ordering.TheVariants.{Equal, Greater, Less}
