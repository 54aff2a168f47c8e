use Rattle.std.proofs.Common.{sym, ◌∙◌, slice_get, option_to_list}
use Rattle.std.specs.List.{flat_map}
use Rattle.lis_model.specs.State.{State}
use Rattle.lis_replay.specs.Dump.{file_lines}
use Rattle.lis_dump.proofs.FilesTold.{no_file_at, slot_seen, file_at}
use Rattle.lis_dump.proofs.Paging.{paged_none, paged_same}
use Rattle.lis_dump.proofs.files.show_file_at.Goals as goal

pub returns-in_default : goal.returns-in_default
returns-in_default g c =
    paged_same (λ (state : State). flat_map file_lines (option_to_list (slice_get state.files c.args.k)))
    (λ state fitting. no_file_at c.requires.sound state fitting c.args.k (sym c.file_at.ensures ∙ c.in_default.is)) (paged_none (g.T.Disk.meaning c.args.station.now) c.args.page.now.items)

pub show_file-requires-clause-slot : goal.show_file-requires-clause-slot
show_file-requires-clause-slot g c = slot_seen c.args.store.now c.requires.sound c.args.k c.in-Some.name c.in-Some.slot (sym c.file_at.ensures ∙ c.in-Some.is)

pub returns : goal.returns
returns g c =
    paged_same (λ (state : State). flat_map file_lines (option_to_list (slice_get state.files c.args.k)))
    (λ state fitting. file_at c.requires.sound state fitting c.args.k c.in-Some.name c.in-Some.slot (sym c.file_at.ensures ∙ c.in-Some.is)) c.show_file.ensures
