use Rattle.std.proofs.Common.{◌&&◌, nat_le, reverse, sym, ap, ◌∙◌, arith}
use Rattle.std.proofs.lemmas.Bool.{le-leb}
use Rattle.lis_model.specs.declared.limits.Limits.{Limits}
use Rattle.lis_model.specs.Table.{Entry}
use Rattle.lis_eval.specs.Stack.{in_all}
use Rattle.lis_eval.proofs.Slots.{passes_at, passes_none}
use Rattle.lis_eval.proofs.Stacked.{all_hold, turned_round, and_true, and_false}
use Rattle.lis_eval.proofs.evaluation.evaluate.Goals as goal

pub returns-clause-found : goal.returns-clause-found
returns-clause-found g c =
    let v = g.V.View.seen c.args.view.now in
    let kept = c.ext-ext.ensures.kept in
    let stack = c.put_steps-depth.ensures.stack in
    let files = ap (λ (limits : Limits). limits.files) c.requires.within in
    let rows = c.put_steps-depth.new.rows in
    record {
      told = λ f there.
          let lt = kept.slots f there in
          let steps = ap (λ depth. in_all rows depth f.slot) (sym stack.deep) ∙ (all_hold v rows (reverse c.args.place.now) f there stack.told ∙ turned_round c.args.place.now f.entry) in
          let all = c.put_steps-depth.ensures.first f.slot ∙ (c.fill_sizes.ensures.at f.slot (omega arith) ∙ (passes_at v kept (λ (e : Entry). nat_le 0 e.size) f there ∙ le-leb 0 f.entry.size (omega arith))) in
          c.and_all.ensures.first f.slot (omega arith) ∙ (ap (λ b. in_all rows c.put_steps-depth.result f.slot && b) all ∙ (and_true (in_all rows c.put_steps-depth.result f.slot) ∙ steps));
      none = λ slot lt free.
          let clear = c.put_steps-depth.ensures.first slot ∙ (c.fill_sizes.ensures.at slot (omega arith) ∙ passes_none v (λ (e : Entry). nat_le 0 e.size) slot free) in
          c.and_all.ensures.first slot (omega arith) ∙ (ap (λ b. in_all rows c.put_steps-depth.result slot && b) clear ∙ and_false (in_all rows c.put_steps-depth.result slot));
    }
