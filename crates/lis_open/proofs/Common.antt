-- Passes on the names that most proofs of this crate cite. Declares nothing.
pub use Rattle.lis_bits.specs.Bytes.{bits_bytes}
pub use Rattle.lis_bits.specs.Rows.{HasShape, Rows, get, with_row}
pub use Rattle.lis_blockmap.specs.Bitmap.{has_bit, is_taken}
pub use Rattle.lis_catalog.specs.Catalog.{Filed, rec_at}
pub use Rattle.lis_content.proofs.Numbers.{are_below, not_true}
pub use Rattle.lis_content.specs.Content.{are_free, marked}
pub use Rattle.lis_content.specs.Large.{index_bytes, index_home, is_large, numbers_in}
pub use Rattle.lis_dict.proofs.Laws.{number_below, number_from_word, word_from_number}
pub use Rattle.lis_dict.specs.Dict.{Dict, IsDict, number_of, word_of}
pub use Rattle.lis_ext.specs.Ext.{has, set_of as numbers_at}
pub use Rattle.lis_fields.proofs.OneSpelling.{axiom_once, prop_once}
pub use Rattle.lis_fields.specs.Layouts.{SpellsSuper, axiom_bytes, file_bytes, is_axiom, is_file, is_prop, is_record, prop_bytes, zeros}
pub use Rattle.lis_fields.specs.Records.{FileRecord}
pub use Rattle.lis_fields.specs.declared.slots.AxiomSlot.{AxiomSlot}
pub use Rattle.lis_fields.specs.declared.slots.AxiomSlot.TheVariants.{Free as FreeAxiom, Pair}
pub use Rattle.lis_fields.specs.declared.slots.FileSlot.{FileSlot}
pub use Rattle.lis_fields.specs.declared.slots.FileSlot.TheVariants.{Free as FreeFile, Used}
pub use Rattle.lis_fields.specs.declared.slots.PropSlot.{PropSlot}
pub use Rattle.lis_fields.specs.declared.slots.PropSlot.TheVariants.{Free as FreeProp}
pub use Rattle.lis_graph.proofs.Members.{Among, among_flat_map, among_from_any, among_from_contains, among_left, among_map, any_from_among, contains_from_among, flat_map_among, map_among}
pub use Rattle.lis_graph.specs.Graph.{Chain}
pub use Rattle.lis_journal.specs.Images.{Fits, Keeps}
pub use Rattle.lis_journal.specs.Journal.{Held}
pub use Rattle.lis_journal.specs.Record.{block, recovered, replayed}
pub use Rattle.lis_journal.specs.Spreads.{Spreads}
pub use Rattle.lis_kept.proofs.Filing.{among_from_number, filed_at_slot, filed_rec, number_from_among as has_from_among}
pub use Rattle.lis_kept.proofs.InArea.{few_properties}
pub use Rattle.lis_kept.proofs.Known.{among_place, placed_at, some_number}
pub use Rattle.lis_kept.proofs.WordMore.{declared_there, there_declared}
pub use Rattle.lis_kept.specs.Areas.{IsWritten, axiom_slots, file_slots, property_slots, row_slots}
pub use Rattle.lis_kept.specs.Metadata.{Metadata, axiom_at, property_by, record_at}
pub use Rattle.lis_kept.specs.Links.{has_pair}
pub use Rattle.lis_kept.specs.Sound.{AreSound}
pub use Rattle.lis_kept.specs.Telling.{HasIndex, Tells, axioms_of, bit_of, blocks_told, bytes_told, file_told, is_had, is_head_by, is_left_head_of, is_left_of, is_used, pair_by, pair_told, pairs_told, state_of, words_told}
pub use Rattle.lis_laws.proofs.Apart.{plain_not_valued}
pub use Rattle.lis_laws.proofs.Chains.{head_not_valued}
pub use Rattle.lis_laws.proofs.Counts.{all_among}
pub use Rattle.lis_laws.proofs.Members.{among_from_has_word, among_set_of, has_word_from_among, same_word_decides, set_of_among, sorted_set_of}
pub use Rattle.lis_model.specs.Image.{bitmap_start, data_start, image_blocks}
pub use Rattle.lis_model.specs.Ranges.{are_in_range}
pub use Rattle.lis_model.specs.Sets.{set_of, are_distinct, has_number}
pub use Rattle.lis_model.specs.State.{File, State, WellFormed, blocks_needed, description, file_cmp, file_words, is_assignable, is_nameable, known, own_words, pair_cmp, up}
pub use Rattle.lis_model.specs.Tests.{met_tests}
pub use Rattle.lis_model.specs.declared.limits.Limits.{Limits}
pub use Rattle.lis_model.specs.declared.spot.Spot.{Spot}
pub use Rattle.lis_model.specs.declared.spot.Spot.TheVariants.{Axiom, BadRecord, Bitmap, Property, Row, Super, Word}
pub use Rattle.lis_ports.proofs.Always.{always_settled}
pub use Rattle.lis_ports.proofs.Ending.{ends_none, ends_then}
pub use Rattle.lis_ports.proofs.Moments.{leaves_then, leaves_weaken}
pub use Rattle.lis_ports.proofs.Parts.{part-put, part-torn}
pub use Rattle.lis_ports.specs.Bytes.{Torn, part, put}
pub use Rattle.lis_ports.specs.Calls.{DiskFaultEnds}
pub use Rattle.lis_ports.specs.Meaning.{Meaning}
pub use Rattle.lis_ports.specs.Runs.{Always, IsSettled, Leaves}
pub use Rattle.lis_slots.specs.Slots.{Slots, slot}
pub use Rattle.lis_store.proofs.OneState.{one_array}
pub use Rattle.lis_store.proofs.Points.{AllApart}
pub use Rattle.lis_store.proofs.Spelled.{contents_of}
pub use Rattle.lis_store.specs.Stands.{AreSlots, Contents, Stands, all_records, file_by as file_of_record, is_had_by, row_bit, spelled_state, word_at, word_in, words_in}
pub use Rattle.lis_store.specs.Stored.{IsSound, Stored}
pub use Rattle.lis_taxonomy.specs.Taxonomy.{Entails as Leads, Taxonomy, entails, has_edge, no_links}
pub use Rattle.lis_words.specs.Words.{has_word, head_bytes, is_plain_word, is_test, is_valued, same_word, word_cmp}
pub use Rattle.std.proofs.Common.{Bool, Contains, Err, IfSome, IsSome, IsSomeAnd, IsTrue, List, None, Ok, OnOk, Option, Result, Some, [], ap, append_assoc, ap₂, arith, below_more, cond, drop, drop-drop, eq-eqb, eqb-true, false, flat_map, fold, get_or, get_or-set_other, get_or-set_same, if◌then◌else◌, inl, inr, is_some, le-leb, leb-true, length, length-append, length-drop, length-set, length-take, length-take-le, lt-ltb, ltb-true, map, nat_cmp, nat_le, nat_lt, ne_eqb, not, option_map, option_to_list, refl, replicate, rules, set, slice_get, subst, suc, sum, sym, take, take_all, true, zero, ℕ, ⊎_elim, ◌&&◌, ◌*◌, ◌++◌, ◌+◌, ◌-◌, ◌/◌, ◌<◌, ◌==◌, ◌^◌, ◌||◌, ◌∙◌, ◌∷◌, ◌≡◌, ◌≤◌, ◌⊎◌}
pub use Rattle.std.proofs.Math.Bool.{and-false, or-false}
pub use Rattle.std.proofs.Math.Logic.{⊎_map}
pub use Rattle.std.proofs.lemmas.Bool.{and_from, and_parts, both_ways, cases_Bool, cases_eq, cases_lt, false_from_ne_true, or_cases, or_left, or_right}
pub use Rattle.std.proofs.lemmas.List.{get_or_past, length-replicate}
pub use Rattle.std.proofs.lemmas.List.Folds.{list_all-append}
pub use Rattle.std.proofs.lemmas.Option.{get_or_from_slice_get, same_Some, slice_get-get_or, slice_get_within}
pub use Rattle.std.proofs.lemmas.Result.{err_from_is_err_and, on_ok_weaker}
pub use Rattle.std.specs.BTreeSet.{insert_key}
pub use Rattle.std.specs.List.{list_all, list_any}
pub use Rattle.std.specs.List.Sorted.{IsStrictlySortedBy}
