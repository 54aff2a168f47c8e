-- Passes on the names that most proofs of this crate cite. Declares nothing.
pub use Rattle.arrayvec.specs.ArrayVec.{ArrayVec}
pub use Rattle.lis_bits.specs.Rows.{HasShape, get, with_row}
pub use Rattle.lis_blockmap.specs.Bitmap.{free_count, is_taken}
pub use Rattle.lis_catalog.proofs.Laws.{rec_at-slot_of, slot_is_below}
pub use Rattle.lis_catalog.specs.Catalog.{Filed, rec_at, slot_of}
pub use Rattle.lis_content.proofs.Indexes.{small_size}
pub use Rattle.lis_content.proofs.Laying.{among_homes}
pub use Rattle.lis_content.proofs.Numbers.{stays_marked}
pub use Rattle.lis_content.specs.Content.{are_free, given, has_home, marked}
pub use Rattle.lis_content.specs.Large.{content_blocks, is_large, slot_count}
pub use Rattle.lis_content.specs.Placing.{Asks, homes_of}
pub use Rattle.lis_dict.proofs.Laws.{number_below, number_from_word, word_from_number}
pub use Rattle.lis_dict.specs.Dict.{Dict, IsDict, number_of, word_of, words}
pub use Rattle.lis_eval.specs.Room.{HasRoom}
pub use Rattle.lis_eval.specs.View.{Placed}
pub use Rattle.lis_ext.proofs.Numbers.{among_where, numbers_same, sorted_where, where_among}
pub use Rattle.lis_ext.specs.Ext.{Ext, has, set_of as numbers_at}
pub use Rattle.lis_ext.specs.Numbers.{differs, numbers_where}
pub use Rattle.lis_fields.proofs.Parts.{size_fits}
pub use Rattle.lis_fields.specs.Layouts.{SpellsSuper, are_blocks, axiom_bytes, file_bytes, is_prop, is_record, prop_bytes}
pub use Rattle.lis_fields.specs.Records.{FileRecord}
pub use Rattle.lis_fields.specs.declared.slots.AxiomSlot.{AxiomSlot}
pub use Rattle.lis_fields.specs.declared.slots.AxiomSlot.TheVariants.{Free as FreeAxiom, Pair}
pub use Rattle.lis_grammar.specs.Formula.{Formula}
pub use Rattle.lis_grammar.specs.Places.{resolved, text_words}
pub use Rattle.lis_graph.proofs.Members.{Among, among_append, among_filter, among_flat_map, among_from_any, among_from_contains, among_insert_key, among_left, among_map, among_right, any_from_among, contains_from_among, filter_among, flat_map_among, insert_key_old, map_among}
pub use Rattle.lis_graph.proofs.Ranges.{range_among}
pub use Rattle.lis_graph.proofs.Sets.{below_tail, members_le, sorted_from_rising, sorted_insert_key, sorted_nil, sorted_tail}
pub use Rattle.lis_graph.specs.Graph.{Chain, is_rising}
pub use Rattle.lis_journal.specs.Images.{Fits, KeepsPast, StandsBut, is_among}
pub use Rattle.lis_journal.specs.Journal.{Held}
pub use Rattle.lis_journal.specs.Phases.{looked}
pub use Rattle.lis_journal.specs.Record.{HomeBlock, block, replayed}
pub use Rattle.lis_journal.specs.Staging.{are_whole}
pub use Rattle.lis_kept.proofs.AxiomsTold.{axioms_counted}
pub use Rattle.lis_kept.proofs.Dropped.{record_in_form}
pub use Rattle.lis_kept.proofs.Entailed.{link_named}
pub use Rattle.lis_kept.proofs.Filing.{among_from_number, filed_at_slot, filed_rec, filed_slot, map_all, number_from_among}
pub use Rattle.lis_kept.proofs.Formed.{named_all, named_below, some_word}
pub use Rattle.lis_kept.proofs.InArea.{among_slots, few_properties}
pub use Rattle.lis_kept.proofs.Known.{among_axiom, among_place, among_word, declared_has_number, declared_word, known_word, number_told, one_number, only_word, some_number, word_among, words_known}
pub use Rattle.lis_kept.proofs.OwnLinks.{among_slot}
pub use Rattle.lis_kept.proofs.Used.{had_at, used_flagged, used_had, used_left}
pub use Rattle.lis_kept.proofs.Without.{left_out}
pub use Rattle.lis_kept.proofs.WordMore.{declared_there, flat_all}
pub use Rattle.lis_kept.specs.Areas.{IsSaved, IsWritten, axiom_slots, block_of, is_marked, marked_count}
pub use Rattle.lis_kept.specs.Areas.Area.{Axioms, Bitmap, Files, Properties, Rows, Sets}
pub use Rattle.lis_kept.specs.Changes.{Describes, GivesBack, Puts}
pub use Rattle.lis_kept.specs.Forgetting.{KeepsInUse, MayForget, emptied}
pub use Rattle.lis_kept.specs.Metadata.{Metadata, property_by}
pub use Rattle.lis_kept.specs.Linking.{is_filled}
pub use Rattle.lis_kept.specs.Links.{TellsLinks, has_pair, is_linked, is_own_link, is_pair}
pub use Rattle.lis_kept.specs.Sound.{AreSound, FreeSlotsAreEmpty, is_sound_record}
pub use Rattle.lis_kept.specs.Telling.{AreUsed, HasIndex, Tells, axioms_of, bit_of, blocks_told, bytes_told, declared_of, file_told, is_declared, is_had, is_head_by, is_left_head_of, is_left_of, is_named_left, is_used, state_of, words_told}
pub use Rattle.lis_kept.specs.TestEdges.{test_by}
pub use Rattle.lis_laws.proofs.Apart.{built_in_not_plain, declarable_not_valued, plain_not_valued}
pub use Rattle.lis_laws.proofs.Chains.{OwnLink, among_heads, entails_from_up, head_not_valued, up_from_entails, up_self, up_trans}
pub use Rattle.lis_laws.proofs.Chains.OwnLink.{Head, Weaker}
pub use Rattle.lis_laws.proofs.Closures.{all_up_closed, all_up_has, entailed_in, entailing, sorted_all_up}
pub use Rattle.lis_laws.proofs.Counts.{all_among, all_from, all_weaker, filter_drops, filter_le, insert_key_le, rising_from_sorted}
pub use Rattle.lis_laws.proofs.Derived.{derived_built_in}
pub use Rattle.lis_laws.proofs.Forms.{under}
pub use Rattle.lis_laws.proofs.Known.{sorted_known}
pub use Rattle.lis_laws.proofs.Leads.{link_cases}
pub use Rattle.lis_laws.proofs.Locals.{same_tests}
pub use Rattle.lis_laws.proofs.Members.{among_from_has_word, among_set_of, among_with_words, has_word_from_among, pair_exact, same_word_decides, same_words, set_of_among, sorted_set_of, sorted_with_words, with_words_new, with_words_old, word_exact, word_order}
pub use Rattle.lis_laws.proofs.Named.{file_of_name}
pub use Rattle.lis_laws.proofs.Reached.{linked_up}
pub use Rattle.lis_laws.proofs.Sources.{OwnWord, known_from, met_weaker, own_from, own_word}
pub use Rattle.lis_laws.proofs.Sources.OwnWord.{Assigned, Derived, Met}
pub use Rattle.lis_laws.proofs.Sources.Source.{Left}
pub use Rattle.lis_model.specs.Changes.{axiom_added, declared_under, file_added, file_of, file_removed, file_replaced, has_axiom, has_name, new_file, same_pair, with_axiom}
pub use Rattle.lis_model.specs.Derived.{derived_words}
pub use Rattle.lis_model.specs.Image.{bitmap_start, data_start, image_blocks}
pub use Rattle.lis_model.specs.Places.{place_words}
pub use Rattle.lis_model.specs.Ranges.{are_in_range}
pub use Rattle.lis_model.specs.Sets.{set_of, with_word, with_words, are_distinct, has_number}
pub use Rattle.lis_model.specs.State.{File, State, WellFormed, all_up, blocks_taken, description, file_cmp, file_limit, file_words, heads, is_assignable, known, links, own_words, pair_cmp, up, used_blocks}
pub use Rattle.lis_model.specs.Step.{Outcome, Payload, Situation, add, add_axiom, assigned_at, changed, exceeds_known, exceeds_words, free_blocks, mkdir, mv, refused, rename, retagged, rm, rmdir, tags_at, words_at, write}
pub use Rattle.lis_model.specs.Tests.{is_met, met_tests}
pub use Rattle.lis_model.specs.declared.limits.Limits.{Limits}
pub use Rattle.lis_model.specs.declared.refusal.Refusal.{Refusal}
pub use Rattle.lis_model.specs.declared.refusal.Refusal.TheVariants.{LargeFile, NameTaken, NoFileHere, NoSpace, UnknownProperty}
pub use Rattle.lis_place.specs.Nodes.{node_words, nodes_of}
pub use Rattle.lis_place.specs.declared.node.Node.{Node}
pub use Rattle.lis_ports.proofs.Moments.{leaves_then, leaves_weaken}
pub use Rattle.lis_ports.specs.Bytes.{part}
pub use Rattle.lis_ports.specs.Meaning.{Meaning}
pub use Rattle.lis_ports.specs.Runs.{Leaves}
pub use Rattle.lis_taxonomy.proofs.Laws.{entails_decides}
pub use Rattle.lis_taxonomy.specs.Taxonomy.{Taxonomy, entails as leads}
pub use Rattle.lis_words.proofs.Tests.{plain_not_test}
pub use Rattle.lis_words.specs.Words.{has_word, head_bytes, is_built_in, is_file_name, is_head, is_plain_word, is_test, is_valued, same_word, test_of, word_cmp}
pub use Rattle.std.proofs.Common.{Bool, Err, IfSome, IsSome, IsSomeAnd, IsTrue, List, None, Ok, Option, Result, Some, [], ap, append-nil, ap₂, arith, cond, count_by, drop, false, filter, get_or, get_or-set_other, get_or-set_same, if◌then◌else◌, inl, inr, is_none, is_some, length, length-append, length-set, map, nat_le, nat_lt, not, option_to_list, refl, replicate, rules, set, slice_get, slice_index, slice_set, subst, suc, sum, sym, take, true, zero, ℕ, ◌&&◌, ◌*◌, ◌++◌, ◌+◌, ◌-◌, ◌/◌, ◌<◌, ◌==◌, ◌||◌, ◌∙◌, ◌∷◌, ◌≡◌, ◌≢◌, ◌≤◌, ◌⊎◌}
pub use Rattle.std.proofs.Math.Bool.{and-false, and-true, or-false}
pub use Rattle.std.proofs.Math.Path.{fun_ext}
pub use Rattle.std.proofs.lemmas.Bool.{and_from, and_parts, both_ways, cases_eq, cases_lt, cond-false, eq-eqb, eqb-true, false_from_ne_true, le-leb, leb-false, leb-true, lt-ltb, ltb-false, ltb-true, ne_eqb, not-false, not-true, not_from_false, or_cases, or_left, or_right}
pub use Rattle.std.proofs.lemmas.Grind.{common_steps, flat_map-append}
pub use Rattle.std.proofs.lemmas.List.{get_or-replicate, get_or_default, get_or_past, length-map, length-replicate, length-take-le, take_all, take_more}
pub use Rattle.std.proofs.lemmas.List.Elements.{Contains-get_or}
pub use Rattle.std.proofs.lemmas.List.Folds.{list_any-append}
pub use Rattle.std.proofs.lemmas.List.Kept.{IsStrictlySortedBy-filter}
pub use Rattle.std.proofs.lemmas.List.Sums.{sum_by-cons, sum_by-set}
pub use Rattle.std.proofs.lemmas.Map.Keys.{IsStrictlyIncreasing-from_sorted}
pub use Rattle.std.proofs.lemmas.Option.{get_or_from_slice_get, none-some, same_Some, slice_get_within}
pub use Rattle.std.proofs.lemmas.Result.{err_from_is_err_and, on_ok_weaker}
pub use Rattle.std.specs.BTreeSet.{insert_key}
pub use Rattle.std.specs.Cmp.{nat_cmp_total, tied_itself}
pub use Rattle.std.specs.List.{AllByRecursion, Contains, find, flat_map, list_all, list_any, range_with_len}
pub use Rattle.std.specs.List.Sorted.{IsStrictlyIncreasing, IsStrictlySortedBy}
pub use Rattle.std.specs.Ordering.{match_ordering, nat_cmp}
pub use Rattle.std.specs.Prelude.{option_map, unwrap_or}
pub use Rattle.std.specs.declared.cmp.Ordering.{Ordering}
pub use Rattle.std.specs.declared.cmp.Ordering.TheVariants.{Equal, Greater, Less}
