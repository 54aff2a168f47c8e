use Rattle.std.proofs.Common.{arith}
use Rattle.std.proofs.lemmas.Result.{err_from_is_err_and}
use Rattle.lis_dump.proofs.FilesTold.{lines_are}
use Rattle.lis_dump.proofs.FileShown.{add_broke, bytes_broke, file_shown}
use Rattle.lis_dump.proofs.files.show_file.Goals as goal

pub show_bytes-requires-clause-usable : goal.show_bytes-requires-clause-usable
show_bytes-requires-clause-usable g c = record {
  unbroken = c.requires.usable.unbroken;
  long = omega (arith, c.requires.usable.long, (c.in_ok-push_line.ensures c.args.store.now).shows.ends.same.len);
}

pub returns-in_err-push_line : goal.returns-in_err-push_line
returns-in_err-push_line g c =
    let name = c.args.name.now in
    let size = c.file_size-size.result in
    let first = c.split_at.result.0.now in
    let others = c.split_at.result.1.now in
    let p = err_from_is_err_and c.from_residual.result c.from_residual.ensures.1 in
    rw (p.1, p.2)
    (add_broke name size first others
    (λ state fitting. lines_are c.requires.sound state fitting name c.args.slot c.requires.slot size c.len.result c.min.result c.tags-words.result.items c.as_slice.result.now first others
    c.file_size-size.ensures.size c.tags-words.ensures c.as_slice.ensures.value c.len.ensures.value c.min.ensures c.split_at.ensures.front c.split_at.ensures.back)
    c.in_err-push_line.field-0.0 (rw c.add_line.ensures at (c.in_err-push_line.ensures c.args.store.now)))

pub returns-in_err-show_bytes : goal.returns-in_err-show_bytes
returns-in_err-show_bytes g c =
    let name = c.args.name.now in
    let size = c.file_size-size.result in
    let first = c.split_at.result.0.now in
    let others = c.split_at.result.1.now in
    let p = err_from_is_err_and c.from_residual-in_err-show_bytes.result c.from_residual-in_err-show_bytes.ensures.1 in
    rw (p.1, p.2)
    (bytes_broke name size first others
    (λ state fitting. lines_are c.requires.sound state fitting name c.args.slot c.requires.slot size c.len.result c.min.result c.tags-words.result.items c.as_slice.result.now first others
    c.file_size-size.ensures.size c.tags-words.ensures c.as_slice.ensures.value c.len.ensures.value c.min.ensures c.split_at.ensures.front c.split_at.ensures.back)
    c.in_ok-push_line.field-0 (rw c.add_line.ensures at (c.in_ok-push_line.ensures c.args.store.now))
    c.in_err-show_bytes.field-0.0 (c.in_err-show_bytes.ensures name c.requires.slot))

pub returns : goal.returns
returns g c =
    let name = c.args.name.now in
    let size = c.file_size-size.result in
    let first = c.split_at.result.0.now in
    let others = c.split_at.result.1.now in
    file_shown name size first others
    (λ state fitting. lines_are c.requires.sound state fitting name c.args.slot c.requires.slot size c.len.result c.min.result c.tags-words.result.items c.as_slice.result.now first others
    c.file_size-size.ensures.size c.tags-words.ensures c.as_slice.ensures.value c.len.ensures.value c.min.ensures c.split_at.ensures.front c.split_at.ensures.back)
    c.in_ok-push_line.field-0 (rw c.add_line.ensures at (c.in_ok-push_line.ensures c.args.store.now))
    c.in_ok-show_bytes.field-0 (c.in_ok-show_bytes.ensures name c.requires.slot)
    (rw c.mv_line.ensures at (c.push_line-2.ensures c.args.store.now))
