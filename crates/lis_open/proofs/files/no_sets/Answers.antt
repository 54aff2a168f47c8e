use Rattle.lis_open.proofs.Common.{arith, ne_eqb, few_properties}
use Rattle.lis_model.proofs.Ranges.{described_few}
use Rattle.lis_kept.proofs.InArea.{whole_properties, whole_files, few_files}
use Rattle.lis_open.proofs.files.no_sets.Goals as goal

pub new-requires-clause-whole_words : goal.new-requires-clause-whole_words
new-requires-clause-whole_words c = whole_files c.args.limits.now c.requires

pub new-requires-clause-whole_marks : goal.new-requires-clause-whole_marks
new-requires-clause-whole_marks c = whole_properties c.args.limits.now c.requires

pub new-requires-clause-few_props : goal.new-requires-clause-few_props
new-requires-clause-few_props c = omega (arith, few_properties c.args.limits.now c.requires)

pub new-requires-clause-few_files : goal.new-requires-clause-few_files
new-requires-clause-few_files c = omega (arith, few_files c.args.limits.now c.requires)

pub with_rows-requires-clause-whole_words : goal.with_rows-requires-clause-whole_words
with_rows-requires-clause-whole_words c = whole_files c.args.limits.now c.requires

pub with_rows-requires-clause-whole_marks : goal.with_rows-requires-clause-whole_marks
with_rows-requires-clause-whole_marks c = whole_properties c.args.limits.now c.requires

pub with_rows-requires-clause-few_props : goal.with_rows-requires-clause-few_props
with_rows-requires-clause-few_props c = omega (arith, few_properties c.args.limits.now c.requires)

pub with_rows-requires-clause-few_files : goal.with_rows-requires-clause-few_files
with_rows-requires-clause-few_files c = omega (arith, few_files c.args.limits.now c.requires)

pub with_rows-requires-clause-few_bits : goal.with_rows-requires-clause-few_bits
with_rows-requires-clause-few_bits c = omega (arith, described_few c.args.limits.now c.requires (ne_eqb c.args.limits.now.version 3 c.if-limits-eq3.false))
