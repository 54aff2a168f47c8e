-- The dump of a well-formed state makes it again.
use Rattle.std.proofs.Common.{◌≡◌, ℕ, ◌^◌, Bool, cond, List, [], ◌∷◌, ◌++◌, length, map, take, refl, sym, ap, subst, ◌∙◌, append-nil}
use Rattle.std.specs.List.{flat_map}
use Rattle.std.proofs.lemmas.Bool.{le-leb}
use Rattle.std.proofs.lemmas.List.Concat.{flat_map_single}
use Rattle.lis_graph.proofs.Members.{Among}
use Rattle.lis_model.specs.State.{State, WellFormed, is_declarable}
use Rattle.lis_model.specs.Step.{Situation, Item, start_of}
use Rattle.lis_model.specs.Script.{all_items, whole_items, script}
use Rattle.lis_model.proofs.Lines.{all_items_none}
use Rattle.lis_laws.proofs.Counts.{all_among}
use Rattle.lis_replay.specs.Dump.{mkdir_line, file_lines, axiom_line, dump_of}
use Rattle.lis_replay.specs.Law.{Makes}
use Rattle.lis_replay.proofs.Led.{LeadsTo, led_both}
use Rattle.lis_replay.proofs.Mkdirs.{with_these, at_root, mkdir_item, mkdirs_lead}
use Rattle.lis_replay.proofs.Axioms.{axiom_item, axioms_lead}
use Rattle.lis_replay.proofs.Files.{file_items, files_lead}
use Rattle.lis_replay.proofs.Spelled.{Spells, spells_both, spells_all}
use Rattle.lis_replay.proofs.Lines.{declarable_property, mkdir_spells, axiom_in_form, axiom_spells, file_in_form, file_spells}
use Rattle.lis_replay.proofs.Sizes.{dump_short}

-- what the dump requests
abbrev dump_items : State → List Item
dump_items s = map mkdir_item s.declared ++ flat_map file_items s.files ++ map axiom_item s.axioms

-- one item for each
spells_each : {A : Type 0} (text : A → List ℕ) (item : A → Item) (xs : List A) → ((x : A) → Among xs x → Spells (text x) (item x ∷ [])) → Spells (flat_map text xs) (map item xs)
spells_each text item xs each = subst (λ items. Spells (flat_map text xs) items) (flat_map_single item xs) (spells_all text (λ x. item x ∷ []) xs each)

dump_spells : (s : State) → WellFormed s → Spells (dump_of s) (dump_items s)
unfolding dump_of
dump_spells s formed =
    spells_both (flat_map mkdir_line s.declared ++ flat_map file_lines s.files) (flat_map axiom_line s.axioms) (map mkdir_item s.declared ++ flat_map file_items s.files) (map axiom_item s.axioms)
    (spells_both (flat_map mkdir_line s.declared) (flat_map file_lines s.files) (map mkdir_item s.declared) (flat_map file_items s.files)
    (spells_each mkdir_line mkdir_item s.declared (λ w m. mkdir_spells w (declarable_property w (all_among is_declarable s.declared w formed.declared m))))
    (spells_all file_lines file_items s.files (λ f m. file_spells f (file_in_form s formed f m))))
    (spells_each axiom_line axiom_item s.axioms (λ e m. let form = axiom_in_form s formed e m in axiom_spells e form.0 form.1))

script_is : (s : State) → WellFormed s → script (dump_of s) (2 ^ 40) ≡ dump_items s
script_is s formed =
    ap (λ (within : Bool). cond within (all_items (dump_of s)) (whole_items (take (2 ^ 40) (dump_of s)))) (le-leb (length (dump_of s)) (2 ^ 40) (dump_short s formed))
    ∙ ap (λ bytes. all_items bytes) (sym (append-nil (dump_of s)))
    ∙ dump_spells s formed []
    ∙ ap (λ items. dump_items s ++ items) all_items_none
    ∙ append-nil (dump_items s)

dump_leads : (s : State) → WellFormed s → LeadsTo (start_of s.limits) (dump_items s) (at_root s)
dump_leads s formed =
    led_both (start_of s.limits) with_files (at_root s) (map mkdir_item s.declared ++ flat_map file_items s.files) (map axiom_item s.axioms)
    (led_both (start_of s.limits) with_declared with_files (map mkdir_item s.declared) (flat_map file_items s.files) (mkdirs_lead s formed [] s.declared refl) (files_lead s formed [] s.files refl))
    (axioms_lead s formed [] s.axioms refl)
  where
    with_declared : Situation
    with_declared = at_root (with_these s s.declared [] [])

    with_files : Situation
    with_files = at_root (with_these s s.declared [] s.files)

pub dump_makes : (s : State) → WellFormed s → Makes s (script (dump_of s) (2 ^ 40))
dump_makes s formed = subst (λ items. Makes s items) (sym (script_is s formed)) (record { answers = led.answers; made = led.ends })
  where
    led : LeadsTo (start_of s.limits) (dump_items s) (at_root s)
    led = dump_leads s formed
