use Rattle.lis_ext.proofs.Bits.{in_step_set, edits_set}
use Rattle.lis_ext.proofs.tables.replace_bits.Goals as goal

pub returns-then-kept-gt0-clause-in_step : goal.returns-then-kept-gt0-clause-in_step
returns-then-kept-gt0-clause-in_step c = λ lists long was step.
    let a = c.args in
    in_step_set lists a.rows.now c.put_bits.new.rows c.put_bits-then-kept-gt0.new.rows a.kept a.files a.file a.old.now a.new.now long c.requires.file was step c.put_bits.ensures c.put_bits-then-kept-gt0.ensures

pub returns-then-kept-gt0-clause-edits : goal.returns-then-kept-gt0-clause-edits
returns-then-kept-gt0-clause-edits c =
    let a = c.args in
    edits_set a.rows.now c.put_bits.new.rows c.put_bits-then-kept-gt0.new.rows a.kept a.files a.file a.old.now a.new.now c.put_bits.ensures c.put_bits-then-kept-gt0.ensures
