use Rattle.lis_store.proofs.Common.{◌∙◌, ap, Err, err_from_is_err_and}
use Rattle.lis_store.specs.Relating.{pair_checks, axiom_room_checks, axiom_checks_of}
use Rattle.lis_store.proofs.Judged.{refused_first, judges_refused, judges_then}
use Rattle.lis_store.proofs.relating.may_relate.Goals as goal

pub returns-in_err-number : goal.returns-in_err-number
returns-in_err-number c =
    let k = c.args.metadata.now in
    let left = c.args.left.now in
    let right = c.args.right.now in
    let p = err_from_is_err_and c.from_residual.result c.from_residual.ensures.1 in
    record {
      row = judges_refused (axiom_checks_of k left right) c.from_residual.result c.in_err-number.field-0.0 (p.1 ∙ ap Err p.2)
          (refused_first (pair_checks k left right) (axiom_room_checks k left right) c.in_err-number.field-0.0 c.in_err-number.ensures.row);
    }

pub returns : goal.returns
returns c =
    let k = c.args.metadata.now in
    record { row = judges_then (pair_checks k c.args.left.now c.args.right.now) (axiom_room_checks k c.args.left.now c.args.right.now) c.has_room.result c.in_ok-number.ensures.row c.has_room.ensures.row }
