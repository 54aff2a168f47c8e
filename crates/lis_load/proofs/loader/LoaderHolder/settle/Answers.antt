use Rattle.std.proofs.Common.{sym, ◌∙◌}
use Rattle.std.proofs.lemmas.Result.{err_from_is_err_and}
use Rattle.lis_load.proofs.Settling.{commit_broke, settled}
use Rattle.lis_load.proofs.loader.LoaderHolder.settle.Goals as goal

pub returns-then-is_err-clause-done : goal.returns-then-is_err-clause-done
returns-then-is_err-clause-done g c = λ start entry first done.
    commit_broke done c.commit.ensures.place c.commit.result (sym c.is_err.ensures.value ∙ c.if-is_err.true) c.commit.ensures.left c.commit.ensures.keeps c.commit.ensures.commits

pub returns-in_err-show_answers-clause-done : goal.returns-in_err-show_answers-clause-done
returns-in_err-show_answers-clause-done g c = λ start entry first done.
    let p = err_from_is_err_and c.from_residual.result c.from_residual.ensures.1 in
    rw (p.1, p.2)
    (settled done c.commit.ensures.place c.commit.result _ _ (sym c.is_err.ensures.value ∙ c.if-is_err.false) c.commit.ensures.keeps c.commit.ensures.commits (rw c.as_slice.ensures.value at c.in_err-show_answers.ensures) tt)

pub returns-clause-done : goal.returns-clause-done
returns-clause-done g c = λ start entry first done.
    settled done c.commit.ensures.place c.commit.result _ _ (sym c.is_err.ensures.value ∙ c.if-is_err.false) c.commit.ensures.keeps c.commit.ensures.commits (rw c.as_slice.ensures.value at c.in_ok-show_answers.ensures) c.clear.ensures
