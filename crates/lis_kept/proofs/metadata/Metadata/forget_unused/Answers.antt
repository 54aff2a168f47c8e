use Rattle.lis_kept.proofs.Common.{rules, None}
use Rattle.lis_kept.proofs.Forgotten.{first_may, second_may, both_forget, forgets_where}
use Rattle.lis_kept.proofs.metadata.Metadata.forget_unused.Goals as goal

pub forget_due-requires : goal.forget_due-requires
forget_due-requires c = first_may None c.args.numbers.now c.args.self.now (search rules) c.requires

pub forget_due-requires-2 : goal.forget_due-requires-2
forget_due-requires-2 c = second_may None c.args.numbers.now c.args.self.now c.forget_due.new.self c.forget_due.ensures.forgets (search rules) c.requires

pub returns : goal.returns
returns c =
    record {
      forgets =
          forgets_where c.args.numbers.now c.args.self.now c.forget_due-2.new.self
          (both_forget None c.args.numbers.now c.args.self.now c.forget_due.new.self c.forget_due.ensures.forgets c.forget_due-2.new.self c.forget_due-2.ensures.forgets);
      sound = c.forget_due-2.ensures.sound;
    }
