use Rattle.std.proofs.Common.{arith}
use Rattle.std.proofs.lemmas.Bool.{ne_eqb}
use Rattle.lis_model.proofs.Ranges.{few_limits, few_records, few_descriptions, few_parts}
use Rattle.lis_model.proofs.limits.image_blocks.Goals as goal

pub overflow_add-result : goal.overflow_add-result
overflow_add-result c = let most = few_limits c.args.limits.now c.requires in omega (arith, most.files, most.props, most.blocks, few_records c.args.limits.now c.requires, c.record_blocks.ensures)

pub overflow_add-result-2 : goal.overflow_add-result-2
overflow_add-result-2 c = let most = few_limits c.args.limits.now c.requires in omega (arith, most.files, most.props, most.blocks, few_records c.args.limits.now c.requires, c.record_blocks.ensures, c.div_ceil-axioms.ensures)

pub overflow_add-result-3 : goal.overflow_add-result-3
overflow_add-result-3 c = let most = few_limits c.args.limits.now c.requires in omega (arith, most.files, most.props, most.blocks, few_records c.args.limits.now c.requires, c.record_blocks.ensures, c.div_ceil-axioms.ensures, few_descriptions c.args.limits.now c.requires, c.description_blocks.ensures)

pub overflow_add-result-4 : goal.overflow_add-result-4
overflow_add-result-4 c = let most = few_limits c.args.limits.now c.requires in omega (arith, most.files, most.props, most.blocks, few_records c.args.limits.now c.requires, c.record_blocks.ensures, c.div_ceil-axioms.ensures, few_descriptions c.args.limits.now c.requires, c.description_blocks.ensures, c.bitmap_blocks.ensures)

pub overflow_add-result-5 : goal.overflow_add-result-5
overflow_add-result-5 c = let most = few_limits c.args.limits.now c.requires in omega (arith, most.files, most.props, most.blocks, few_records c.args.limits.now c.requires, c.record_blocks.ensures, c.div_ceil-axioms.ensures, few_descriptions c.args.limits.now c.requires, c.description_blocks.ensures, c.bitmap_blocks.ensures)

pub returns-clause-few : goal.returns-clause-few
returns-clause-few c =
    let limits = c.args.limits.now in
    let most = few_limits limits c.requires in
    omega (arith, most.files, most.props, most.blocks, few_records limits c.requires, few_descriptions limits c.requires, c.record_blocks.ensures, c.div_ceil-axioms.ensures, c.description_blocks.ensures, c.bitmap_blocks.ensures)

pub returns-clause-fewer : goal.returns-clause-fewer
returns-clause-fewer c = λ early.
    let few = few_parts c.args.limits.now c.requires (ne_eqb c.args.limits.now.version 3 early) in
    omega (arith, few.files, few.props, few.blocks, few.records, few.descriptions, c.record_blocks.ensures, c.div_ceil-axioms.ensures, c.description_blocks.ensures, c.bitmap_blocks.ensures)
