use Rattle.lis_store.proofs.Common.{is_some, refl, ap, false_from_ne_true, both_ways, is_valued}
use Rattle.lis_store.proofs.Learning.{head_form, head_bare, head_room, heads_learnt, no_head_learnt}
use Rattle.lis_store.proofs.adding.learn_head.Goals as goal

pub learn-requires-clause-form : goal.learn-requires-clause-form
learn-requires-clause-form c = head_form c.args.metadata.now c.args.word.now c.requires.form c.requires.room c.in-Some.head c.in-Some.ensures.head (c.in-Some.ensures.valued.0 refl)

pub learn-requires-clause-headed : goal.learn-requires-clause-headed
learn-requires-clause-headed c = λ none valued. absurd (head_bare c.args.metadata.now c.args.word.now c.requires.form c.requires.room c.in-Some.head c.in-Some.ensures.head valued)

pub learn-requires-clause-room : goal.learn-requires-clause-room
learn-requires-clause-room c = head_room c.args.metadata.now c.args.word.now c.requires.form c.requires.room c.in-Some.head c.in-Some.ensures.head (c.in-Some.ensures.valued.0 refl)

pub returns-in-Some : goal.returns-in-Some
returns-in-Some c =
    heads_learnt c.args.metadata.now c.args.word.now c.requires.form c.requires.room c.learn.new.self c.in-Some.head c.learn.result c.in-Some.ensures.head (c.in-Some.ensures.valued.0 refl) c.learn.ensures.learns

pub returns-in_default : goal.returns-in_default
returns-in_default c =
    no_head_learnt c.args.metadata.now c.args.word.now c.requires.form c.requires.room c.args.metadata.now refl
    (false_from_ne_true (is_valued c.args.word.now) (λ valued. both_ways (is_some c.head_of.result) (ap is_some c.in_default.is) (c.head_of.ensures.valued.1 valued)))
