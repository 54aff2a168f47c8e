use Rattle.std.proofs.Common.{◌∙◌, sym}
use Rattle.lis_model.specs.State.{file_cmp}
use Rattle.lis_table.proofs.Places.{at_place, place_within, insert_there, insert_at}
use Rattle.lis_plain.proofs.sets.insert_file.Goals as goal

pub split_at-requires : goal.split_at-requires
split_at-requires c =
    rw c.as_slice.ensures.value
    (place_within file_cmp c.args.file c.args.files.now.items c.deref.result.now c.file_place-place.result c.deref.ensures.value c.file_place-place.ensures)

pub returns-then-begins_with_file-clause-ok : goal.returns-then-begins_with_file-clause-ok
returns-then-begins_with_file-clause-ok c =
    let first = at_place file_cmp c.args.file c.args.files.now.items c.deref.result.now c.as_slice.result.now c.split_at.result.1.now c.file_place-place.result
    c.deref.ensures.value c.file_place-place.ensures c.as_slice.ensures.value c.split_at.ensures.back in
    sym (insert_there file_cmp c.args.file c.args.files.now.items (first ∙ sym c.if-begins_with_file.ensures))

pub returns-clause-ok : goal.returns-clause-ok
returns-clause-ok c =
    let first = at_place file_cmp c.args.file c.args.files.now.items c.deref.result.now c.as_slice.result.now c.split_at.result.1.now c.file_place-place.result
    c.deref.ensures.value c.file_place-place.ensures c.as_slice.ensures.value c.split_at.ensures.back in
    c.in_ok-insert.ensures.items
    ∙ insert_at file_cmp c.args.file c.args.files.now.items c.deref.result.now c.file_place-place.result c.deref.ensures.value c.file_place-place.ensures
    (first ∙ sym c.if-begins_with_file.ensures)
