use Rattle.std.proofs.Common.{arith, eq-eqb, ◌*◌, ◌+◌, ◌-◌, ◌/◌, ◌≤◌}
use Rattle.lis_kept.proofs.Common.{◌≡◌, ◌<◌, ℕ, true, ne_eqb, List, sym, subst, bitmap_start, AxiomSlot, IsTrue, are_in_range}
use Rattle.lis_model.proofs.Ranges.{third_descriptions}
use Rattle.lis_fields.specs.Layouts.{is_axiom}
use Rattle.lis_kept.specs.Metadata.{Metadata, axiom_at}
use Rattle.lis_kept.specs.Inside.{IsBlock}
use Rattle.lis_kept.specs.contracts.metadata.Metadata.{the_view}
use Rattle.lis_model.specs.Image.{properties_start, descriptions_start, description_blocks}
use Rattle.lis_kept.proofs.InArea.{rows_few, rows_fill, whole_files, few_files}
use Rattle.lis_kept.proofs.Formed.{axioms_formed, records_formed}
use Rattle.lis_kept.proofs.Spelled.{properties_block, axioms_block, files_block, rows_block, sets_block}
use Rattle.lis_kept.proofs.metadata.Metadata.write_block.Goals as goal

pub returns-then-n-axioms : goal.returns-then-n-axioms
returns-then-n-axioms c =
    let P : Metadata → Type 0 = λ k. IsBlock k c.args.n c.write_properties.new.block in
    let Q : Metadata → Type 0 = λ k. properties_start k.limits ≤ c.args.n in
    subst P c.self.view_is
    (properties_block (the_view c.self.inside) c.self.invariant.sound.range c.args.n c.write_properties.new.block _ c.properties_start.ensures (subst Q (sym c.self.view_is) c.requires.from)
    (omega (arith, c.if-n-axioms.true, c.axioms_start-axioms.ensures)) c.write_properties.ensures)

pub write_axioms-requires-clause-forms : goal.write_axioms-requires-clause-forms
write_axioms-requires-clause-forms c =
    let P : List AxiomSlot → Type 0 = λ axioms. (n : ℕ) → is_axiom (axiom_at axioms n) ≡ true in
    subst P (sym c.as_slice.ensures.value) (axioms_formed (the_view c.self.inside) c.self.invariant.sound)

pub returns-then-n-files : goal.returns-then-n-files
returns-then-n-files c =
    let P : Metadata → Type 0 = λ k. IsBlock k c.args.n c.write_axioms.new.block in
    subst P c.self.view_is
    (axioms_block (the_view c.self.inside) c.self.invariant.sound.range c.args.n c.write_axioms.new.block _ _ c.axioms_start-axioms.ensures c.as_slice.ensures.value
    (omega (arith, c.if-n-axioms.false, c.axioms_start-axioms.ensures)) (omega (arith, c.if-n-files.true, c.files_start-files.ensures)) c.write_axioms.ensures)

pub write_files-requires-clause-records : goal.write_files-requires-clause-records
write_files-requires-clause-records c = records_formed (the_view c.self.inside) c.self.invariant.sound

pub returns-then-n-descriptions : goal.returns-then-n-descriptions
returns-then-n-descriptions c =
    let P : Metadata → Type 0 = λ k. IsBlock k c.args.n c.write_files.new.block in
    subst P c.self.view_is
    (files_block (the_view c.self.inside) c.self.invariant.sound.range c.args.n c.write_files.new.block _ c.files_start-files.ensures
    (omega (arith, c.if-n-files.false, c.files_start-files.ensures)) (omega (arith, c.if-n-descriptions.true, c.descriptions_start-descriptions.ensures)) c.write_files.ensures)

-- the block is one of those that have the words of files
within_part : (k now : Metadata) (n start : ℕ) → k ≡ now → start ≡ descriptions_start k.limits → start ≤ n → n < bitmap_start now.limits → n - start < description_blocks k.limits
within_part k now n start is from low to =
    let below : n < bitmap_start k.limits = subst (λ (m : Metadata). n < bitmap_start m.limits) (sym is) to in
    omega (arith, below, from, low)

pub overflow_mul-n : goal.overflow_mul-n
overflow_mul-n c =
    let k = the_view c.self.inside in
    let within = within_part k c.args.self.now c.args.n c.descriptions_start-descriptions.result c.self.view_is c.descriptions_start-descriptions.ensures c.if-n-descriptions.false c.requires.to in
    omega (arith, within, third_descriptions k.limits (eq-eqb k.limits.version 3 c.if-self-eq3.true), few_files k.limits c.self.invariant.sound.range)

pub write_sets-requires-clause-few : goal.write_sets-requires-clause-few
write_sets-requires-clause-few c =
    let k = the_view c.self.inside in
    let within = within_part k c.args.self.now c.args.n c.descriptions_start-descriptions.result c.self.view_is c.descriptions_start-descriptions.ensures c.if-n-descriptions.false c.requires.to in
    omega (arith, within, third_descriptions k.limits (eq-eqb k.limits.version 3 c.if-self-eq3.true), few_files k.limits c.self.invariant.sound.range)

pub write_sets-requires-clause-within : goal.write_sets-requires-clause-within
write_sets-requires-clause-within c =
    let k = the_view c.self.inside in
    let within = within_part k c.args.self.now c.args.n c.descriptions_start-descriptions.result c.self.view_is c.descriptions_start-descriptions.ensures c.if-n-descriptions.false c.requires.to in
    omega (arith, within, third_descriptions k.limits (eq-eqb k.limits.version 3 c.if-self-eq3.true), whole_files k.limits c.self.invariant.sound.range, c.self.invariant.sound.files)

pub returns-then-self-eq3 : goal.returns-then-self-eq3
returns-then-self-eq3 c =
    let v = the_view c.self.inside in
    let P : Metadata → Type 0 = λ k. IsBlock k c.args.n c.write_sets.new.block in
    let Q : Metadata → Type 0 = λ k. c.args.n < bitmap_start k.limits in
    subst P c.self.view_is
    (sets_block v c.self.invariant.sound.range c.args.n c.write_sets.new.block (eq-eqb v.limits.version 3 c.if-self-eq3.true) _ c.descriptions_start-descriptions.ensures
    (omega (arith, c.if-n-descriptions.false, c.descriptions_start-descriptions.ensures)) (subst Q (sym c.self.view_is) c.requires.to) c.write_sets.ensures)

pub overflow_mul-count : goal.overflow_mul-count
overflow_mul-count c =
    let k = the_view c.self.inside in
    let within = within_part k c.args.self.now c.args.n c.descriptions_start-descriptions.result c.self.view_is c.descriptions_start-descriptions.ensures c.if-n-descriptions.false c.requires.to in
    omega (arith, rows_few k.limits (c.args.n - c.descriptions_start-descriptions.result) c.self.invariant.sound.range (ne_eqb k.limits.version 3 c.if-self-eq3.false) within)

pub write_rows-requires-clause-whole : goal.write_rows-requires-clause-whole
write_rows-requires-clause-whole c = rows_fill (the_view c.self.inside).limits c.self.invariant.sound.range (ne_eqb (the_view c.self.inside).limits.version 3 c.if-self-eq3.false)

pub write_rows-requires-clause-few : goal.write_rows-requires-clause-few
write_rows-requires-clause-few c =
    let k = the_view c.self.inside in
    let within = within_part k c.args.self.now c.args.n c.descriptions_start-descriptions.result c.self.view_is c.descriptions_start-descriptions.ensures c.if-n-descriptions.false c.requires.to in
    rows_few k.limits (c.args.n - c.descriptions_start-descriptions.result) c.self.invariant.sound.range (ne_eqb k.limits.version 3 c.if-self-eq3.false) within

pub returns : goal.returns
returns c =
    let v = the_view c.self.inside in
    let P : Metadata → Type 0 = λ k. IsBlock k c.args.n c.write_rows.new.block in
    let Q : Metadata → Type 0 = λ k. c.args.n < bitmap_start k.limits in
    subst P c.self.view_is
    (rows_block v c.self.invariant.sound.range c.args.n c.write_rows.new.block (ne_eqb v.limits.version 3 c.if-self-eq3.false) _ c.descriptions_start-descriptions.ensures
    (omega (arith, c.if-n-descriptions.false, c.descriptions_start-descriptions.ensures)) (subst Q (sym c.self.view_is) c.requires.to) c.write_rows.ensures)
