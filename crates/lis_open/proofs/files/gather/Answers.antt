use Rattle.lis_open.proofs.Common.{sym, subst, take, ◌∷◌, [], take_all, get_or}
use Rattle.std.proofs.lemmas.List.{take_more}
use Rattle.lis_taxonomy.specs.Search.{met}
use Rattle.lis_open.proofs.Gathering.{Gathered, gathered_none, gathered_then, gathered_one}
use Rattle.lis_open.proofs.files.gather.Goals as goal

pub loop-number-init : goal.loop-number-init
loop-number-init c = gathered_none c.args.search.now

pub loop-number-preserved : goal.loop-number-preserved
loop-number-preserved c =
    let l = c.loop-number in
    let numbers = c.args.numbers.now in
    let number = get_or numbers l.number-index 0 in
    rw c.meet.ensures
    (subst (λ ns. Gathered c.args.search.now (met l.search number) ns) (sym (take_more numbers l.number-index 0 c.loop-number-test.true))
    (gathered_then c.args.search.now l.search (met l.search number) (take l.number-index numbers) (number ∷ []) l.invariant (gathered_one l.search number)))

pub returns : goal.returns
returns c = subst (λ ns. Gathered c.args.search.now c.loop-number.search ns) (take_all c.loop-number.number-index c.args.numbers.now c.loop-number-test.false) c.loop-number.invariant
