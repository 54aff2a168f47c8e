use Rattle.std.proofs.Common.{◌≡◌, ◌∙◌, sym, ap, subst, length, Some, IsTrue, arith}
use Rattle.lis_fields.specs.Records.{FileRecord}
use Rattle.lis_fields.specs.Layouts.{file_start, are_blocks}
use Rattle.lis_fields.proofs.Widths.{not_zeros, zeros_of, same_number}
use Rattle.lis_fields.proofs.Parts.{FileParts, gap, record_tests, size_fits, file_parts, file_joined, same_found, same_record, record_from}
use Rattle.lis_fields.proofs.files.read_record.Goals as goal

pub returns-then-not-are_zeros-clause-same : goal.returns-then-not-are_zeros-clause-same
returns-then-not-are_zeros-clause-same c =
    λ rec is e.
    let f = c.cut-fields.result in
    let parts = file_parts f.start.now f.size.now f.tags.now f.block_numbers.now f.end.now c.args.limits.now rec is (sym c.cut-fields.ensures.whole ∙ e) c.cut-fields.ensures.start_len c.cut-fields.ensures.size_len c.cut-fields.ensures.tags_len c.cut-fields.ensures.blocks_len in
    absurd (not_zeros (gap c.args.limits.now.version) f.end.now parts.is_end (sym c.are_zeros.ensures ∙ c.if-not-are_zeros.true))

pub returns-then-from-most-clause-same : goal.returns-then-from-most-clause-same
returns-then-from-most-clause-same c =
    λ rec is e.
    let f = c.cut-fields.result in
    let parts = file_parts f.start.now f.size.now f.tags.now f.block_numbers.now f.end.now c.args.limits.now rec is (sym c.cut-fields.ensures.whole ∙ e) c.cut-fields.ensures.start_len c.cut-fields.ensures.size_len c.cut-fields.ensures.tags_len c.cut-fields.ensures.blocks_len in
    let tests = record_tests c.args.limits.now rec is in
    let fits = size_fits c.args.limits.now rec.size tests.small in
    let size = same_number 4 c.read_number-size.result rec.size c.read_number-size.type_inv (omega (arith, fits)) (sym c.read_number-size.ensures ∙ parts.is_size) in
    absurd (omega (arith, size, tests.small, c.file_limit-most.ensures))

pub returns-in_err-name-clause-same : goal.returns-in_err-name-clause-same
returns-in_err-name-clause-same c =
    λ rec is e.
    let f = c.cut-fields.result in
    let parts = file_parts f.start.now f.size.now f.tags.now f.block_numbers.now f.end.now c.args.limits.now rec is (sym c.cut-fields.ensures.whole ∙ e) c.cut-fields.ensures.start_len c.cut-fields.ensures.size_len c.cut-fields.ensures.tags_len c.cut-fields.ensures.blocks_len in
    let tests = record_tests c.args.limits.now rec is in
    let none = c.in_err-name.ensures.same rec.name (length rec.tags) tests.name parts.is_start in
    absurd (cc)

pub returns-in_err-tags-clause-same : goal.returns-in_err-tags-clause-same
returns-in_err-tags-clause-same c =
    λ rec is e.
    let f = c.cut-fields.result in
    let parts = file_parts f.start.now f.size.now f.tags.now f.block_numbers.now f.end.now c.args.limits.now rec is (sym c.cut-fields.ensures.whole ∙ e) c.cut-fields.ensures.start_len c.cut-fields.ensures.size_len c.cut-fields.ensures.tags_len c.cut-fields.ensures.blocks_len in
    let tests = record_tests c.args.limits.now rec is in
    let start = c.in_ok-name.ensures.same rec.name (length rec.tags) tests.name parts.is_start in
    let count = sym (c.from-2.ensures ∙ (same_found c.in_ok-name.name rec.name c.in_ok-name.count (length rec.tags) start).1) in
    absurd (c.in_err-tags.ensures.same rec.tags count tests.tags parts.is_tags)

pub returns-in_err-numbers-clause-same : goal.returns-in_err-numbers-clause-same
returns-in_err-numbers-clause-same c =
    λ rec is e.
    let f = c.cut-fields.result in
    let parts = file_parts f.start.now f.size.now f.tags.now f.block_numbers.now f.end.now c.args.limits.now rec is (sym c.cut-fields.ensures.whole ∙ e) c.cut-fields.ensures.start_len c.cut-fields.ensures.size_len c.cut-fields.ensures.tags_len c.cut-fields.ensures.blocks_len in
    let tests = record_tests c.args.limits.now rec is in
    let fits = size_fits c.args.limits.now rec.size tests.small in
    let size = same_number 4 c.read_number-size.result rec.size c.read_number-size.type_inv (omega (arith, fits)) (sym c.read_number-size.ensures ∙ parts.is_size) in
    absurd (c.in_err-numbers.ensures.same rec.blocks (subst (λ n. IsTrue (are_blocks c.args.limits.now.version n rec.blocks)) (sym size) tests.blocks) parts.is_blocks)

pub returns-clause-spelled : goal.returns-clause-spelled
returns-clause-spelled c =
    let f = c.cut-fields.result in
    let rec : FileRecord = record { name = c.in_ok-name.name; size = c.read_number-size.result; tags = c.in_ok-tags.tags.items; blocks = c.in_ok-numbers.numbers.items } in
    let tags = c.in_ok-tags.ensures.spelled in
    let blocks = c.in_ok-numbers.ensures.spelled in
    let count : c.in_ok-name.count ≡ length rec.tags = sym (tags.0 ∙ c.from-2.ensures) in
    let parts : FileParts c.args.limits.now.version f.start.now f.size.now f.tags.now f.block_numbers.now f.end.now rec = record {
      is_start = c.in_ok-name.ensures.spelled.1 ∙ ap (λ n. file_start rec.name n) count;
      is_size = c.read_number-size.ensures;
      is_tags = tags.2;
      is_blocks = blocks.1;
      is_end = zeros_of (gap c.args.limits.now.version) f.end.now c.cut-fields.ensures.end_len (sym c.are_zeros.ensures ∙ c.if-not-are_zeros.false);
    } in
    (record_from c.args.limits.now rec c.in_ok-name.ensures.spelled.0 (omega (arith, c.if-from-most.false, c.from.ensures, c.file_limit-most.ensures)) tags.1 blocks.0, c.cut-fields.ensures.whole ∙ file_joined c.args.limits.now.version f.start.now f.size.now f.tags.now f.block_numbers.now f.end.now rec parts)

pub returns-clause-same : goal.returns-clause-same
returns-clause-same c =
    λ rec is e.
    let f = c.cut-fields.result in
    let parts = file_parts f.start.now f.size.now f.tags.now f.block_numbers.now f.end.now c.args.limits.now rec is (sym c.cut-fields.ensures.whole ∙ e) c.cut-fields.ensures.start_len c.cut-fields.ensures.size_len c.cut-fields.ensures.tags_len c.cut-fields.ensures.blocks_len in
    let tests = record_tests c.args.limits.now rec is in
    let fits = size_fits c.args.limits.now rec.size tests.small in
    let size = same_number 4 c.read_number-size.result rec.size c.read_number-size.type_inv (omega (arith, fits)) (sym c.read_number-size.ensures ∙ parts.is_size) in
    let start = c.in_ok-name.ensures.same rec.name (length rec.tags) tests.name parts.is_start in
    let name = (same_found c.in_ok-name.name rec.name c.in_ok-name.count (length rec.tags) start).0 in
    let count = sym (c.from-2.ensures ∙ (same_found c.in_ok-name.name rec.name c.in_ok-name.count (length rec.tags) start).1) in
    let tags = c.in_ok-tags.ensures.same rec.tags count tests.tags parts.is_tags in
    let blocks = c.in_ok-numbers.ensures.same rec.blocks (subst (λ n. IsTrue (are_blocks c.args.limits.now.version n rec.blocks)) (sym size) tests.blocks) parts.is_blocks in
    ap (λ r. Some r) (same_record (record { name = c.in_ok-name.name; size = c.read_number-size.result; tags = c.in_ok-tags.tags.items; blocks = c.in_ok-numbers.numbers.items }) rec name size tags blocks)
