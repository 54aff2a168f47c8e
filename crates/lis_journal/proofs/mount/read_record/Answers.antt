use Rattle.std.proofs.Common.{◌≡◌, ◌+◌, ◌*◌, nat_le, true, take, length, sym, ◌∙◌, ap, arith}
use Rattle.std.proofs.lemmas.Bool.{leb-true}
use Rattle.std.proofs.lemmas.List.{length-take-le}
use Rattle.lis_ports.specs.Bytes.{part}
use Rattle.lis_journal.specs.declared.layout.Layout.{Layout}
use Rattle.lis_journal.specs.Record.{homes_start, header_blocks, record_len, is_header, count_of, homes_of, entries_from}
use Rattle.lis_journal.specs.Images.{look}
use Rattle.lis_journal.proofs.Headers.{count-header}
use Rattle.lis_journal.proofs.Loading.{header_read, long_read, form_read, end_read, recorded_read, head_at}
use Rattle.lis_journal.proofs.mount.read_record.Goals as goal

pub returns-then-not-has_end-clause-form : goal.returns-then-not-has_end-clause-form
returns-then-not-has_end-clause-form g c = λ honest.
    let bytes = (g.D.Disk.meaning c.args.disk.now).bytes in
    let count = c.in_ok-count.count in
    long_read c.args.latest.now.layout c.args.first count bytes (c.in_ok-count.ensures.count honest)
    (ap (λ (l : Layout). nat_le (c.args.first + record_len count) (homes_start l)) (sym c.layout-layout.ensures) ∙ (sym c.has_end.ensures ∙ c.if-not-has_end.true))

pub returns-then-not-is_header-clause-form : goal.returns-then-not-is_header-clause-form
returns-then-not-is_header-clause-form g c = λ honest.
    let bytes = (g.D.Disk.meaning c.args.disk.now).bytes in
    let layout = c.args.latest.now.layout in
    let b = c.args.first in
    let count = c.in_ok-count.count in
    let buf = c.read_at.new.buf in
    let end : nat_le (b + record_len count) (homes_start layout) ≡ true =
    ap (λ (l : Layout). nat_le (b + record_len count) (homes_start l)) (sym c.layout-layout.ensures) ∙ (sym c.has_end.ensures ∙ c.if-not-has_end.false) in
    let fits = leb-true (b + record_len count) (homes_start layout) end in
    let len : length (take c.header_len.result c.args.header.now) ≡ 4096 * header_blocks count =
    length-take-le c.header_len.result c.args.header.now (omega (arith, c.header_len.ensures, c.requires.header, fits)) ∙ c.header_len.ensures in
    let count_is = c.in_ok-count.ensures.count honest in
    let read = c.in_ok-read_at.ensures.read (c.read_count.ensures.disk.run.honest ∙ honest) ∙ ap (part (c.from.result * 4096) (length (take c.header_len.result c.args.header.now))) (c.read_count.ensures.quiet honest).bytes in
    let head = head_at b (c.from.result * 4096) count bytes buf (omega (arith, c.from.ensures)) len count_is read in
    let told : count_of buf ≡ count = ap count_of head ∙ (count-header b bytes ∙ sym count_is) in
    header_read layout b bytes buf head
    (ap (λ (l : Layout). is_header l buf) (sym c.layout-layout.ensures) ∙ (sym (c.is_header.ensures.form told) ∙ c.if-not-is_header.true))

pub returns-clause-form : goal.returns-clause-form
returns-clause-form g c = λ honest.
    let bytes = (g.D.Disk.meaning c.args.disk.now).bytes in
    let layout = c.args.latest.now.layout in
    let b = c.args.first in
    let count = c.in_ok-count.count in
    let buf = c.read_at.new.buf in
    let end : nat_le (b + record_len count) (homes_start layout) ≡ true =
    ap (λ (l : Layout). nat_le (b + record_len count) (homes_start l)) (sym c.layout-layout.ensures) ∙ (sym c.has_end.ensures ∙ c.if-not-has_end.false) in
    let fits = leb-true (b + record_len count) (homes_start layout) end in
    let len : length (take c.header_len.result c.args.header.now) ≡ 4096 * header_blocks count =
    length-take-le c.header_len.result c.args.header.now (omega (arith, c.header_len.ensures, c.requires.header, fits)) ∙ c.header_len.ensures in
    let count_is = c.in_ok-count.ensures.count honest in
    let still = c.read_count.ensures.disk.run.honest ∙ honest in
    let quiet = (c.read_count.ensures.quiet honest).bytes in
    let read = c.in_ok-read_at.ensures.read still ∙ ap (part (c.from.result * 4096) (length (take c.header_len.result c.args.header.now))) quiet in
    let head = head_at b (c.from.result * 4096) count bytes buf (omega (arith, c.from.ensures)) len count_is read in
    let told : count_of buf ≡ count = ap count_of head ∙ (count-header b bytes ∙ sym count_is) in
    let good : is_header layout buf ≡ true = ap (λ (l : Layout). is_header l buf) (sym c.layout-layout.ensures) ∙ (sym (c.is_header.ensures.form told) ∙ c.if-not-is_header.false) in (
      form_read layout b count bytes buf count_is head good end,
      ap (λ n. b + n) c.record_len.ensures ∙ sym (end_read b count bytes count_is),
      λ n old. c.in_ok-load.ensures.loaded (c.read_at.ensures.call.run.honest ∙ still) n old
          ∙ ap (λ es. look es n (look c.args.latest.now.entries n old))
          (ap (λ m. entries_from (b + m) (homes_of buf) (g.D.Disk.meaning c.read_at.new.self).bytes) c.header_blocks.ensures
          ∙ (ap (entries_from (b + header_blocks count) (homes_of buf)) ((c.read_at.ensures.same still).bytes ∙ quiet)
          ∙ recorded_read b count bytes buf count_is head)),
    )
