use Rattle.std.proofs.Common.{Err, refl, ap}
use Rattle.lis_shell.proofs.Refused.{same_counts}
use Rattle.lis_shell.proofs.top.make_image.Goals as goal

pub returns-in-Ok-clause-cause : goal.returns-in-Ok-clause-cause
returns-in-Ok-clause-cause g c = λ n. same_counts n c.in-Ok.ensures.cause c.in-Ok.ensures.run

pub returns-in-Ok-clause-keeps : goal.returns-in-Ok-clause-keeps
returns-in-Ok-clause-keeps g c = record {
  made = (
    c.in-Ok.ensures.short,
    λ honest.
        let stands = c.in-Ok.ensures.made honest in
        let left = c.in-Ok.ensures.left honest in (
          record { reads = (stands.reads, left.reads); leaves = λ image there. (stands.leaves image there, left.leaves image there) },
          c.in-Ok.ensures.settled honest,
        ),
  );
  run = c.in-Ok.ensures.run;
  making = c.in-Ok.ensures.any_moment;
  spare = λ n honest is settled. c.in-Ok.ensures.spare n honest is (λ e. absurd (cc));
  short = λ len need e. absurd (cc);
}

pub returns-in-Err-TooShort-clause-cause : goal.returns-in-Err-TooShort-clause-cause
returns-in-Err-TooShort-clause-cause g c = λ n. same_counts n (rw c.in-Err-TooShort.field-0-is at c.in-Err-TooShort.ensures.cause) c.in-Err-TooShort.ensures.run

pub returns-in-Err-TooShort-clause-keeps : goal.returns-in-Err-TooShort-clause-keeps
returns-in-Err-TooShort-clause-keeps g c =
    let short = rw c.in-Err-TooShort.field-0-is at c.in-Err-TooShort.ensures.short in
    record {
      made = (short.0, short.1, rw (short.0, short.1) short.2);
      run = c.in-Err-TooShort.ensures.run;
      making = c.in-Err-TooShort.ensures.any_moment;
      spare = λ n honest is settled. c.in-Err-TooShort.ensures.spare n honest is (λ e. absurd (cc));
      short = λ len need e. c.in-Err-TooShort.ensures.untouched c.in-Err-TooShort.len c.in-Err-TooShort.need (ap Err c.in-Err-TooShort.field-0-is);
    }

pub returns-in-Err-DiskFault-clause-cause : goal.returns-in-Err-DiskFault-clause-cause
returns-in-Err-DiskFault-clause-cause g c = λ n. (rw c.in-Err-DiskFault.field-0-is at c.in-Err-DiskFault.ensures.cause, refl, c.in-Err-DiskFault.ensures.run.show_faults)

pub returns-in-Err-DiskFault-clause-keeps : goal.returns-in-Err-DiskFault-clause-keeps
returns-in-Err-DiskFault-clause-keeps g c = record {
  made = rw c.in-Err-DiskFault.field-0-is at c.in-Err-DiskFault.ensures.short;
  run = c.in-Err-DiskFault.ensures.run;
  making = c.in-Err-DiskFault.ensures.any_moment;
  spare = λ n honest is settled. c.in-Err-DiskFault.ensures.spare n honest is (λ e. settled refl);
  short = λ len need e. absurd (cc);
}
