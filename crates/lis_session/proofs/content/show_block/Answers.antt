use Rattle.std.proofs.Common.{◌*◌, ◌∙◌}
use Rattle.lis_ports.specs.Bytes.{part}
use Rattle.lis_model.specs.Changes.{file_of}
use Rattle.lis_session.proofs.Blocks.{size_is, block_is, block_item, block_broke}
use Rattle.lis_session.proofs.DiskKept.{stays_then, reads_stay, shows_stay}
use Rattle.lis_session.proofs.content.show_block.Goals as goal

pub returns-in-Err-clause-shows : goal.returns-in-Err-clause-shows
returns-in-Err-clause-shows g c = λ is_index name is_slot state fitting.
    let e = c.content_next.ensures in
    block_broke (part (4096 * c.args.n) 4096 (file_of state.files name).bytes) fitting (e.disk.reads.moments fitting.honest) (e.disk.reads.same fitting.honest)

pub returns-clause-shows : goal.returns-clause-shows
returns-clause-shows g c = λ is_index name is_slot state fitting.
    let e = c.content_next.ensures in
    let bytes = (file_of state.files name).bytes in
    let len = size_is name c.args.slot c.args.size c.requires.sound fitting.own is_slot c.requires.size in
    let is = block_is bytes c.content_next.new.buf c.args.n c.args.size c.min.result len c.min.ensures (c.in_default.ensures.read state name fitting.own is_slot is_index) in
    block_item (part (4096 * c.args.n) 4096 bytes) fitting (e.disk.reads.moments fitting.honest) (e.disk.reads.same fitting.honest) c.answer_bytes.result (e.fits state fitting.own) (rw is at c.answer_bytes.ensures)

pub returns-in-Err-clause-disk : goal.returns-in-Err-clause-disk
returns-in-Err-clause-disk g c = reads_stay c.content_next.ensures.disk.reads

pub returns-clause-disk : goal.returns-clause-disk
returns-clause-disk g c = λ honest.
    let reads = c.content_next.ensures.disk.reads in
    let run = c.answer_bytes.ensures.run in
    stays_then run.call.recorded (reads_stay reads honest) (shows_stay run (reads.run.honest ∙ honest))
