use Rattle.std.proofs.Common.{arith}
use Rattle.lis_kept.proofs.Common.{sym, ap, ◌∙◌}
use Rattle.std.specs.Option.{option_map}
use Rattle.lis_kept.proofs.FirstRight.{taken, first_more, is_taken, not_behind, not_before}
use Rattle.lis_kept.proofs.behind.first_right.Goals.{in-Some+then-is_behind+then-is_before, in-Some+else-is_behind, else-is_behind-via-then-is_behind+else-is_before, else-is_behind-via-else-is_behind, in_default}
use Rattle.lis_kept.proofs.behind.first_right.Goals as goal

pub loop-edge-preserved : goal.loop-edge-preserved
loop-edge-preserved c =
    let last = option_map (λ w. w.now) c.args.last in
    let first = c.loop-edge.first in
    first_more c.args.dict.now last first c.plain_word.result c.match-plain_word.first c.args.edges.now c.loop-edge.edge-index
    (omega (arith, c.loop-edge-test.true, c.loop-edge.auto.edge-index-end)) c.plain_word.ensures
    (elim c.match-plain_word.branch [
      | in-Some+then-is_behind+then-is_before w ↦
          w.first-is ∙ (is_taken last first w.in-Some.word (sym w.is_behind.ensures ∙ w.if-is_behind.true) (sym w.is_before.ensures ∙ w.if-is_before.true) ∙ ap (taken last first) (sym w.in-Some.is))
      | in-Some+else-is_behind w ↦
          w.first-is ∙ (elim w.else-is_behind.branch [
            | else-is_behind-via-then-is_behind+else-is_before v ↦
                not_before last first w.in-Some.word (sym w.is_behind.ensures ∙ v.if-is_behind.true) (sym v.is_before.ensures ∙ v.if-is_before.false)
            | else-is_behind-via-else-is_behind v ↦ not_behind last first w.in-Some.word (sym w.is_behind.ensures ∙ v.if-is_behind.false)
          ] ∙ ap (taken last first) (sym w.in-Some.is))
      | in_default w ↦ w.first-is ∙ ap (taken last first) (sym w.in_default.is)
    ])
    c.loop-edge.invariant
