-- The codes by which a proof keeps stores as values.
use Rattle.std.specs.Prelude.{◌≡◌, ℕ, Bool, Option, Some, None, List, refl}
use Rattle.std.specs.Coded.{Coded, code_by, coded×, coded_ℕ, coded_bool, coded_list, coded_option}
use Rattle.lis_catalog.specs.Catalog.{Filed, Catalog}
use Rattle.lis_dict.specs.Dict.{Dict}
use Rattle.lis_ext.specs.Ext.{Ext}
use Rattle.lis_fields.specs.Records.{FileRecord}
use Rattle.lis_fields.specs.declared.slots.AxiomSlot.{AxiomSlot}
use Rattle.lis_fields.specs.declared.slots.AxiomSlot.TheVariants.{Free, Pair}
use Rattle.lis_journal.specs.declared.layout.Layout.{Layout}
use Rattle.lis_journal.specs.declared.layout.Capacity.{Capacity}
use Rattle.lis_journal.specs.Journal.{OpenRecords, Held}
use Rattle.lis_journal.specs.Record.{HomeBlock}
use Rattle.lis_kept.specs.Metadata.{Metadata}
use Rattle.lis_model.specs.declared.limits.Limits.{Limits}
use Rattle.lis_model.specs.Codes.{word_code, limits_code}
use Rattle.lis_store.specs.Stored.{Stored}

-- ---- what memory keeps of an image
abbrev pub dict_code : Coded Dict
dict_code =
    code_by (ℕ × List (List ℕ × ℕ)) (coded× coded_ℕ (coded_list (coded× word_code coded_ℕ))) (λ d. (d.props, d.entries))
    (λ p. record { props = p.0; entries = p.1 }) (λ _. refl)

-- an axiom slot as its pair, if it has one
abbrev pub pair_of : AxiomSlot → Option (ℕ × ℕ)
pair_of Free = None
pair_of (Pair left right) = Some (left, right)

abbrev pub slot_of : Option (ℕ × ℕ) → AxiomSlot
slot_of None = Free
slot_of (Some pair) = Pair pair.0 pair.1

abbrev pub same_slot : (slot : AxiomSlot) → slot_of (pair_of slot) ≡ slot
same_slot Free = refl
same_slot (Pair left right) = refl

abbrev pub axiom_slot_code : Coded AxiomSlot
axiom_slot_code = code_by (Option (ℕ × ℕ)) (coded_option (coded× coded_ℕ coded_ℕ)) pair_of slot_of same_slot

abbrev pub record_code : Coded FileRecord
record_code =
    code_by (List ℕ × (ℕ × (List ℕ × List ℕ))) (coded× word_code (coded× coded_ℕ (coded× word_code word_code))) (λ r. (r.name, (r.size, (r.tags, r.blocks))))
    (λ p. record { name = p.0; size = p.1.0; tags = p.1.1.0; blocks = p.1.1.1 }) (λ _. refl)

abbrev pub filed_code : Coded Filed
filed_code = code_by (ℕ × FileRecord) (coded× coded_ℕ record_code) (λ f. (f.slot, f.rec)) (λ p. record { slot = p.0; rec = p.1 }) (λ _. refl)

abbrev pub catalog_code : Coded Catalog
catalog_code =
    code_by (ℕ × List Filed) (coded× coded_ℕ (coded_list filed_code)) (λ c. (c.files, c.entries)) (λ p. record { files = p.0; entries = p.1 }) (λ _. refl)

abbrev pub ext_code : Coded Ext
ext_code =
    code_by (ℕ × (List (List ℕ) × (List ℕ × ℕ))) (coded× coded_ℕ (coded× (coded_list word_code) (coded× word_code coded_ℕ)))
    (λ e. (e.props, (e.sets, (e.marks, e.edits)))) (λ p. record { props = p.0; sets = p.1.0; marks = p.1.1.0; edits = p.1.1.1 }) (λ _. refl)

abbrev pub metadata_code : Coded Metadata
metadata_code =
    code_by (Limits × (Dict × (List Bool × (List AxiomSlot × (Catalog × (List Bool × (Ext × List Bool)))))))
    (coded× limits_code (coded× dict_code (coded× (coded_list coded_bool) (coded× (coded_list axiom_slot_code) (coded× catalog_code
    (coded× (coded_list coded_bool) (coded× ext_code (coded_list coded_bool))))))))
    (λ k. (k.limits, (k.dict, (k.declared, (k.axioms, (k.catalog, (k.taken, (k.ext, k.marks))))))))
    (λ p. record {
      limits = p.0;
      dict = p.1.0;
      declared = p.1.1.0;
      axioms = p.1.1.1.0;
      catalog = p.1.1.1.1.0;
      taken = p.1.1.1.1.1.0;
      ext = p.1.1.1.1.1.1.0;
      marks = p.1.1.1.1.1.1.1;
    }) (λ _. refl)

-- ---- its journal
abbrev pub entry_code : Coded HomeBlock
entry_code = code_by (ℕ × List ℕ) (coded× coded_ℕ word_code) (λ e. (e.home, e.bytes)) (λ p. record { home = p.0; bytes = p.1 }) (λ _. refl)

abbrev pub records_code : Coded OpenRecords
records_code =
    code_by (ℕ × (ℕ × List HomeBlock)) (coded× coded_ℕ (coded× coded_ℕ (coded_list entry_code))) (λ r. (r.count, (r.next, r.latest)))
    (λ p. record { count = p.0; next = p.1.0; latest = p.1.1 }) (λ _. refl)

abbrev pub layout_code : Coded Layout
layout_code =
    code_by (ℕ × ℕ) (coded× coded_ℕ coded_ℕ) (λ l. (l.records, l.blocks)) (λ p. record { records = p.0; blocks = p.1 }) (λ _. refl)

abbrev pub capacity_code : Coded Capacity
capacity_code =
    code_by (ℕ × ℕ) (coded× coded_ℕ coded_ℕ) (λ c. (c.staged, c.placed)) (λ p. record { staged = p.0; placed = p.1 }) (λ _. refl)

abbrev pub held_code : Coded Held
held_code =
    code_by (Layout × (Capacity × (List HomeBlock × (OpenRecords × (List ℕ × Bool)))))
    (coded× layout_code (coded× capacity_code (coded× (coded_list entry_code) (coded× records_code (coded× word_code coded_bool)))))
    (λ h. (h.layout, (h.capacity, (h.staged, (h.records, (h.placed, h.is_broken))))))
    (λ p. record { layout = p.0; capacity = p.1.0; staged = p.1.1.0; records = p.1.1.1.0; placed = p.1.1.1.1.0; is_broken = p.1.1.1.1.1 }) (λ _. refl)

-- ---- a store
abbrev pub stored_code : Coded Stored
stored_code =
    code_by (Metadata × (Held × Bool)) (coded× metadata_code (coded× held_code coded_bool)) (λ s. (s.metadata, (s.journal, s.is_broken)))
    (λ p. record { metadata = p.0; journal = p.1.0; is_broken = p.1.1 }) (λ _. refl)
