use Rattle.lis_open.proofs.Common.{Err, ap, ◌∙◌, err_from_is_err_and}
use Rattle.lis_open.proofs.making.make.Goals as goal

pub returns-in_err-write_image-clause-spare : goal.returns-in_err-write_image-clause-spare
returns-in_err-write_image-clause-spare g c = λ n honest is settled.
    let p = err_from_is_err_and c.from_residual.result c.from_residual.ensures.1 in
    c.in_err-write_image.ensures.spare n honest is (settled (p.1 ∙ ap Err p.2))
