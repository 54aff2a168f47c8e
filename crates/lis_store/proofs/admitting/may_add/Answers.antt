use Rattle.lis_store.proofs.Common.{◌∙◌, ap, Err, err_from_is_err_and, new_file, assigned_at}
use Rattle.lis_store.specs.Drafts.{draft_of}
use Rattle.lis_store.specs.Admitting.{room_checks, add_checks_of}
use Rattle.lis_store.proofs.Judged.{refused_first, judges_refused}
use Rattle.lis_store.proofs.Admitted.{front_checks, room_refused}
use Rattle.lis_store.proofs.admitting.may_add.Goals as goal

pub returns-in_err-assigned-clause-row : goal.returns-in_err-assigned-clause-row
returns-in_err-assigned-clause-row c =
    let k = c.args.metadata.now in
    let p = err_from_is_err_and c.from_residual.result c.from_residual.ensures.1 in
    let file = new_file c.args.file.name.now (assigned_at c.args.place.now c.args.file.tags.now) c.args.file.bytes.now in
    judges_refused (add_checks_of k c.args.place.now c.args.file.name.now c.args.file.tags.now c.args.file.bytes.now c.args.file.size) c.from_residual.result c.in_err-assigned.field-0.0 (p.1 ∙ ap Err p.2)
    (refused_first (front_checks k c.args.place.now c.args.file.tags.now file c.args.file.size) (room_checks k (draft_of file) c.args.file.size) c.in_err-assigned.field-0.0 c.in_err-assigned.ensures.row)

pub returns-in_err-derived-clause-row : goal.returns-in_err-derived-clause-row
returns-in_err-derived-clause-row c =
    let k = c.args.metadata.now in
    let p = err_from_is_err_and c.from_residual-in_err-derived.result c.from_residual-in_err-derived.ensures.1 in
    judges_refused (add_checks_of k c.args.place.now c.args.file.name.now c.args.file.tags.now c.args.file.bytes.now c.args.file.size) c.from_residual-in_err-derived.result c.in_err-derived.field-0.0 (p.1 ∙ ap Err p.2)
    (room_refused k c.args.place.now c.args.file.name.now c.args.file.tags.now c.args.file.bytes.now c.args.file.size c.as_slice.result.now (c.as_slice.ensures.value ∙ c.in_ok-assigned.ensures.words)
    c.in_ok-assigned.ensures.row c.in_err-derived.field-0.0 c.in_err-derived.ensures.row)
