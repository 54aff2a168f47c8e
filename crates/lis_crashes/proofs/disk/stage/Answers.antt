use Rattle.std.proofs.Common.{ap, sym, subst, length, ◌∙◌, ◌+◌, ◌≤◌}
use Rattle.lis_journal.specs.Journal.{Held, shape_of}
use Rattle.lis_journal.proofs.Entries.{length-with_entry}
use Rattle.lis_crashes.proofs.disk.stage.Goals as goal

pub returns-in_ok-vec : goal.returns-in_ok-vec
returns-in_ok-vec c = record {
  ready = record {
    shape = ap shape_of c.stage.ensures.staged ∙ c.requires.ready.shape;
    staged = subst (λ (h : Held). length h.staged ≤ length c.args.journal.now.staged + 1) (sym c.stage.ensures.staged) (length-with_entry c.args.journal.now.staged c.args.n _);
    placed = ap (λ (h : Held). h.placed) c.stage.ensures.staged ∙ c.requires.ready.placed;
    unbroken = ap (λ (h : Held). h.is_broken) c.stage.ensures.staged ∙ c.requires.ready.unbroken;
  };
}
