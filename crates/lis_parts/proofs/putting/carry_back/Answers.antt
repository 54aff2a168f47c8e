use Rattle.lis_parts.proofs.Puts.{puts_not_a_view, puts_wrong_marks, puts_content}
use Rattle.lis_parts.proofs.putting.carry_back.Goals as goal

pub returns-in-NotInForm-clause-puts : goal.returns-in-NotInForm-clause-puts
returns-in-NotInForm-clause-puts g c = λ back returns state fitting.
    puts_not_a_view c.args.name.now c.args.made.now back fitting (rw c.in-NotInForm.is at returns) c.answer_bytes.ensures

pub returns-in-OtherMarks-clause-puts : goal.returns-in-OtherMarks-clause-puts
returns-in-OtherMarks-clause-puts g c = λ back returns state fitting.
    puts_wrong_marks c.args.name.now c.args.made.now back fitting (rw c.in-OtherMarks.is at returns) c.answer_bytes-in-OtherMarks.ensures

pub returns-in-Whole-clause-puts : goal.returns-in-Whole-clause-puts
returns-in-Whole-clause-puts g c = λ back returns state fitting.
    let written = rw (c.root-root.ensures, c.bytes.ensures.bytes, c.size.ensures) at c.apply-written.ensures.changes in
    puts_content c.args.name.now c.args.made.now back fitting g.T.Disk.meaning c.apply-written.new.disk c.conclude.new.station c.apply-written.result (rw c.in-Whole.is at returns)
    c.apply-written.ensures.keeps.sound (written state fitting.own) c.conclude.ensures
