use Rattle.std.proofs.Common.{◌∙◌, sym}
use Rattle.lis_line.proofs.Whole.{passing_none, passing_more, passing_lies, passing_nothing, not_whole, sized_lies, sized_not_whole, line_lies}
use Rattle.lis_line.proofs.ahead.lies_whole.Goals as goal

pub loop-line-init : goal.loop-line-init
loop-line-init c = passing_none c.args.bytes.now

pub returns-in-Some-payload_size-clause-whole : goal.returns-in-Some-payload_size-clause-whole
returns-in-Some-payload_size-clause-whole c = λ whole.
    let line = c.in-Some.line.now in
    let first = rw c.in-Some.is at c.first_line.ensures in
    passing_lies c.args.bytes.now c.loop-line.rest.now c.loop-line.invariant
    (sized_lies c.loop-line.rest.now line c.in-Some.behind.now c.in-Some-payload_size.size first.0 first.1 (sym c.payload_size.ensures ∙ c.in-Some-payload_size.is)
    (sym (c.has_payload.ensures line) ∙ whole))

pub returns-in-Some-payload_size-clause-none : goal.returns-in-Some-payload_size-clause-none
returns-in-Some-payload_size-clause-none c = λ none.
    let line = c.in-Some.line.now in
    let first = rw c.in-Some.is at c.first_line.ensures in
    passing_nothing c.args.bytes.now c.loop-line.rest.now c.loop-line.invariant
    (sized_not_whole c.loop-line.rest.now line c.in-Some.behind.now c.in-Some-payload_size.size first.0 first.1 (sym c.payload_size.ensures ∙ c.in-Some-payload_size.is)
    (sym (c.has_payload.ensures line) ∙ none))

pub returns-then-not-is_empty-clause-whole : goal.returns-then-not-is_empty-clause-whole
returns-then-not-is_empty-clause-whole c = λ _.
    let first = rw c.in-Some.is at c.first_line.ensures in
    passing_lies c.args.bytes.now c.loop-line.rest.now c.loop-line.invariant
    (line_lies c.loop-line.rest.now c.in-Some.line.now c.in-Some.behind.now first.0 first.1 (sym c.payload_size.ensures ∙ c.in_default-payload_size.is)
    (λ none. let empty = c.is_empty.ensures.1 none in let not_empty = c.if-not-is_empty.true in absurd (cc)))

pub loop-line-preserved : goal.loop-line-preserved
loop-line-preserved c =
    let first = rw c.in-Some.is at c.first_line.ensures in
    passing_more c.args.bytes.now c.loop-line.rest.now c.in-Some.line.now c.in-Some.behind.now c.loop-line.invariant first.0 first.1
    (sym c.payload_size.ensures ∙ c.in_default-payload_size.is) (c.is_empty.ensures.0 c.if-not-is_empty.false)

pub returns-clause-none : goal.returns-clause-none
returns-clause-none c = λ _.
    let one = rw c.in_default.is at c.first_line.ensures in
    passing_nothing c.args.bytes.now c.loop-line.rest.now c.loop-line.invariant (not_whole c.loop-line.rest.now one)
