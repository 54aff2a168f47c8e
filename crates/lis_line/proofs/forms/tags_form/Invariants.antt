use Rattle.std.proofs.Common.{length}
use Rattle.lis_line.proofs.Tags.{TagsSoFar}
use Rattle.lis_line.proofs.forms.tags_form.Given as goal

abbrev pub invariant-loop-word : goal.invariant-loop-word
invariant-loop-word l = TagsSoFar l.fn.text l.rest l.tags l.is_over

abbrev pub decreases-loop-word : goal.decreases-loop-word
decreases-loop-word l = length l.rest
