use Rattle.lis_kept.proofs.Common.{Some}
use Rattle.lis_kept.proofs.Forgotten.{first_may, second_may, both_forget, forgets_beside}
use Rattle.lis_kept.proofs.metadata.Metadata.forget_without.Goals as goal

pub forget_due-requires : goal.forget_due-requires
forget_due-requires c = first_may (Some c.args.slot) c.args.numbers.now c.args.self.now c.requires.empty c.requires.may

pub forget_due-requires-2 : goal.forget_due-requires-2
forget_due-requires-2 c =
    second_may (Some c.args.slot) c.args.numbers.now c.args.self.now c.forget_due.new.self c.forget_due.ensures.forgets c.requires.empty c.requires.may

pub returns : goal.returns
returns c =
    record {
      forgets =
          forgets_beside c.args.slot c.args.numbers.now c.args.self.now c.forget_due-2.new.self
          (both_forget (Some c.args.slot) c.args.numbers.now c.args.self.now c.forget_due.new.self c.forget_due.ensures.forgets c.forget_due-2.new.self c.forget_due-2.ensures.forgets);
      sound = c.forget_due-2.ensures.sound;
    }
