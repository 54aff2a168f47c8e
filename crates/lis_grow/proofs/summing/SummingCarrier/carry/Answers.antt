use Rattle.std.proofs.Common.{arith}
use Rattle.std.proofs.lemmas.Result.{err_from_is_err_and}
use Rattle.lis_line.specs.Reading.{asked_by}
use Rattle.lis_kept.proofs.InArea.{few_files, few_properties}
use Rattle.lis_grow.proofs.Going.{sums_more, sums_into, one_at_most}
use Rattle.lis_grow.proofs.summing.SummingCarrier.carry.Goals as goal
use Rattle.lis_kept.proofs.Image.{same_blocks}

pub returns-in_err-tally-clause-carried : goal.returns-in_err-tally-clause-carried
returns-in_err-tally-clause-carried g c = λ start entry first done.
    let p = err_from_is_err_and c.from_residual.result c.from_residual.ensures.1 in
    rw (p.1, p.2)
    (sums_into done.0 done.1 (asked_by c.args.item.now c.args.payload.now) c.in_err-tally.field-0.0 (record {
      limits = c.in_err-tally.ensures.limits;
      image = c.in_err-tally.ensures.image;
      sound = c.in_err-tally.ensures.sound;
      disk = c.in_err-tally.ensures.disk;
    }) c.in_err-tally.ensures.tallies)

pub returns-clause-ready : goal.returns-clause-ready
returns-clause-ready g c = λ more ready.
    let limits = c.args.self.now.session.now.store.metadata.limits in
    let range = ready.sound.metadata.range in
    record {
      sound = c.in_ok-tally.ensures.sound;
      usable = record {
        unbroken = c.in_ok-tally.ensures.unbroken;
        long = omega (arith, same_blocks c.in_ok-tally.ensures.image, c.in_ok-tally.ensures.disk.run.len, ready.usable.long);
      };
      replies = omega (arith, c.add.ensures.replies, ready.replies);
      refused = omega (arith, c.add.ensures.refused, ready.refused, one_at_most c.in_ok-tally.tally.refused);
      listed = omega (arith, c.add.ensures.listed, ready.listed, c.in_ok-tally.ensures.few, few_properties limits range, few_files limits range);
    }

pub returns-clause-carried : goal.returns-clause-carried
returns-clause-carried g c = λ start entry first done.
    sums_more done.0 done.1 (asked_by c.args.item.now c.args.payload.now) c.in_ok-tally.tally c.add.new.self (record {
      limits = c.in_ok-tally.ensures.limits;
      image = c.in_ok-tally.ensures.image;
      sound = c.in_ok-tally.ensures.sound;
      disk = c.in_ok-tally.ensures.disk;
    }) c.in_ok-tally.ensures.unbroken c.in_ok-tally.ensures.tallies (record {
      replies = c.add.ensures.replies;
      refused = c.add.ensures.refused;
      listed = c.add.ensures.listed;
    })

pub add-requires-clause-listed : goal.add-requires-clause-listed
add-requires-clause-listed g c =
    let limits = c.args.self.now.session.now.store.metadata.limits in
    let range = c.requires.ready.1.sound.metadata.range in
    omega (arith, c.requires.ready.1.listed, c.in_ok-tally.ensures.few, few_properties limits range, few_files limits range)
