use Rattle.std.proofs.Common.{◌++◌, ◌∷◌, [], ap, ◌∙◌, refl, arith}
use Rattle.lis_line.proofs.Tags.{tags_pushed, tags_full, tags_done, tags_bad, no_word}
use Rattle.lis_line.proofs.forms.tags_form.Goals as goal

pub returns-in-None : goal.returns-in-None
returns-in-None c =
    tags_bad _ c.loop-word.rest.now c.in-Some.behind.now c.in-Some.word.now c.loop-word.tags c.loop-word.is_over c.loop-word.invariant c.in-Some.ensures.words
    (no_word _ (λ h. c.in-None.ensures.word.1 h))

pub loop-word-preserved-then-len-lt-MAX_ASSIGNED : goal.loop-word-preserved-then-len-lt-MAX_ASSIGNED
loop-word-preserved-then-len-lt-MAX_ASSIGNED c =
    tags_pushed _ c.loop-word.rest.now c.in-Some.behind.now c.in-Some.word.now c.loop-word.tags _ c.loop-word.is_over c.loop-word.invariant
    c.in-Some.ensures.words (c.in-Some-read_property.ensures.word.0 refl) (omega (arith, c.len.ensures.value, c.if-len-lt-MAX_ASSIGNED.true))
    (c.push.ensures ∙ ap (λ w. c.loop-word.tags ++ w ∷ []) c.in-Some-read_property.ensures.same)

pub loop-word-preserved : goal.loop-word-preserved
loop-word-preserved c =
    tags_full _ c.loop-word.rest.now c.in-Some.behind.now c.in-Some.word.now c.loop-word.tags c.loop-word.is_over c.loop-word.invariant
    c.in-Some.ensures.words (c.in-Some-read_property.ensures.word.0 refl) (omega (arith, c.len.ensures.value, c.if-len-lt-MAX_ASSIGNED.false))

pub returns-else-is_over : goal.returns-else-is_over
returns-else-is_over c =
    tags_done _ c.loop-word.rest.now c.loop-word.tags c.loop-word.is_over c.loop-word.invariant c.in_default.ensures.words c.if-is_over.false
