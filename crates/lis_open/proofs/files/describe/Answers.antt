use Rattle.lis_open.proofs.Common.{◌≡◌, nat_lt, ℕ, List, [], ◌++◌, length, ap, sym, subst, ◌∙◌, arith, lt-ltb, ltb-true, option_map, list_all, FileRecord, met_tests}
use Rattle.std.proofs.lemmas.Bool.{OnTrue_at}
use Rattle.lis_laws.proofs.Counts.{all_weaker}
use Rattle.lis_model.specs.Derived.{derived_words}
use Rattle.lis_open.specs.ReadWords.{declared_words}
use Rattle.lis_open.specs.ReadFiles.{Gathered, own_numbers, may_describe, AreDescribed}
use Rattle.lis_open.proofs.Gathering.{undescribed, listed_described, listed_are, own_below, found_numbered, found_gathered}
use Rattle.lis_open.proofs.files.describe.Goals as goal

pub gather-requires : goal.gather-requires
gather-requires c =
    let props = c.args.taxonomy.now.props in
    let below = subst (λ ns. list_all (λ n. nat_lt n props) ns ≡ _) (sym (c.as_slice.ensures.value ∙ ap (λ (r : FileRecord). r.tags) c.rec.view_is)) c.requires.below in
    all_weaker (λ n. nat_lt n props) (λ n. nat_lt n 1048576) c.as_slice.result.now (λ n m lt. lt-ltb n 1048576 (omega (arith, ltb-true n props lt, c.requires.props, c.requires.are.few))) below

pub returns-then-not-gather_derived : goal.returns-then-not-gather_derived
returns-then-not-gather_derived c =
    let words = c.args.words.now in
    let rec = c.args.rec.now in
    let bytes = c.args.bytes.now in
    let derived = c.derive_words-derived.result in
    let is = c.derive_words-derived.ensures ∙ ap (λ (r : FileRecord). derived_words r.name bytes) c.rec.view_is in
    let none = found_numbered words c.requires.are.dict (length bytes) derived ∙ (sym c.gather_derived.ensures.all ∙ c.if-not-gather_derived.true) in
    subst (λ ws. may_describe words c.args.taxonomy.now rec (ws ++ met_tests (declared_words words) (length bytes)) ≡ _) is
    (undescribed words c.args.taxonomy.now rec (derived ++ met_tests (declared_words words) (length bytes)) none)

pub close-requires : goal.close-requires
close-requires c =
    let words = c.args.words.now in
    let rec = c.args.rec.now in
    let derived = c.derive_words-derived.result in
    let size : ℕ = length c.args.bytes.now in
    let given = subst (λ ns. Gathered [] c.gather.new.search ns) (c.as_slice.ensures.value ∙ ap (λ (r : FileRecord). r.tags) c.rec.view_is) (rw c.clear.ensures at c.gather.ensures) in
    let more = OnTrue_at c.if-not-gather_derived.false c.gather_derived.ensures.gathered in
    let all = found_gathered words c.requires.are.dict size rec.tags derived [] c.gather.new.search c.gather_derived.new.search c.gather_met.new.search given more c.gather_met.ensures in
    own_below words c.args.taxonomy.now rec.tags c.gather_met.new.search (derived ++ met_tests (declared_words words) size) c.requires.are c.requires.props c.requires.below all

pub returns : goal.returns
returns c =
    let words = c.args.words.now in
    let t = c.args.taxonomy.now in
    let rec = c.args.rec.now in
    let derived = c.derive_words-derived.result in
    let dict = c.requires.are.dict in
    let bytes = c.args.bytes.now in
    let size : ℕ = length bytes in
    let found : List (List ℕ) = derived ++ met_tests (declared_words words) size in
    let given = subst (λ ns. Gathered [] c.gather.new.search ns) (c.as_slice.ensures.value ∙ ap (λ (r : FileRecord). r.tags) c.rec.view_is) (rw c.clear.ensures at c.gather.ensures) in
    let more = OnTrue_at c.if-not-gather_derived.false c.gather_derived.ensures.gathered in
    let all = found_gathered words dict size rec.tags derived [] c.gather.new.search c.gather_derived.new.search c.gather_met.new.search given more c.gather_met.ensures in
    subst (λ ws. AreDescribed words t rec (ws ++ met_tests (declared_words words) size) (option_map (λ listed. listed.items) c.list_numbers.result))
    (c.derive_words-derived.ensures ∙ ap (λ (r : FileRecord). derived_words r.name bytes) c.rec.view_is)
    (listed_described words t rec found _ (found_numbered words dict size derived ∙ (sym c.gather_derived.ensures.all ∙ c.if-not-gather_derived.false))
    (listed_are t (own_numbers words.dict rec.tags found) c.gather_met.new.search c.close.new.search _ all c.close.ensures.found
    (c.list_numbers.ensures t.props (omega (arith, c.requires.props, c.requires.are.few)) c.close.ensures.below)))
