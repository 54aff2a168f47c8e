use Rattle.std.proofs.Common.{◌≡◌, ◌*◌, length, drop, refl, sym, ap, ◌∙◌, arith}
use Rattle.std.proofs.lemmas.Bool.{eqb-true, eqb-false}
use Rattle.std.proofs.lemmas.List.{drop_at}
use Rattle.lis_content.proofs.Laying.{unstaged_still, lays_torn, laying_row, laying_last, laid_done, failed_as}
use Rattle.lis_content.proofs.placing.place_bytes.Goals as goal

pub place_row-requires-clause-unstaged : goal.place_row-requires-clause-unstaged
place_row-requires-clause-unstaged g c =
    unstaged_still c.args.base c.args.map.now c.loop-rest.map c.args.journal.now c.loop-rest.journal c.loop-rest.taken.items c.loop-rest.invariant.lays c.requires.unstaged

pub returns-in_err-row-clause-ended : goal.returns-in_err-row-clause-ended
returns-in_err-row-clause-ended g c =
    failed_as c.from_residual.result _ c.from_residual.ensures.0
    (lays_torn c.args.base c.args.map.now c.loop-rest.map c.place_row.new.map c.args.journal.now c.loop-rest.journal c.place_row.new.journal c.loop-rest.taken.items _ c.loop-rest.invariant.lays c.in_err-row.ensures.ended)

pub loop-rest-preserved : goal.loop-rest-preserved
loop-rest-preserved g c =
    let rest = c.loop-rest.rest.now in
    let row = c.in_ok-row.row in
    let behind = c.split_at.result.1.now in
    let len : length c.split_at.result.0.now ≡ 4096 * row.count = c.split_at.ensures.front_len ∙ (omega arith) in
    let is : behind ≡ drop (4096 * row.count) rest = sym (ap (drop (4096 * row.count)) c.split_at.ensures.by_index.0 ∙ drop_at c.split_at.result.0.now behind (4096 * row.count) len) in
    let more = laying_row c.args.base c.args.bytes.now rest behind c.args.map.now c.loop-rest.map c.place_row.new.map c.args.journal.now c.loop-rest.journal c.place_row.new.journal c.loop-rest.taken.items row.first row.count c.loop-rest.invariant is c.in_ok-row.ensures.ended c.place_row.ensures.disk.run c.in_ok-row.ensures.disk.cause.stays c.place_row.ensures.disk.first_fault in
    rw c.push_row.ensures more

pub returns-then-is_empty-clause-ended : goal.returns-then-is_empty-clause-ended
returns-then-is_empty-clause-ended g c =
    laid_done c.args.base c.args.bytes.now c.loop-rest.rest.now c.args.map.now c.loop-rest.map c.args.journal.now c.loop-rest.journal c.loop-rest.taken.items (eqb-true (length c.loop-rest.rest.now) 0 (sym c.is_empty.ensures ∙ c.if-is_empty.true)) c.loop-rest.invariant

pub place_block-requires-clause-unstaged : goal.place_block-requires-clause-unstaged
place_block-requires-clause-unstaged g c =
    unstaged_still c.args.base c.args.map.now c.loop-rest.map c.args.journal.now c.loop-rest.journal c.loop-rest.taken.items c.loop-rest.invariant.lays c.requires.unstaged

pub returns-in_err-n-clause-ended : goal.returns-in_err-n-clause-ended
returns-in_err-n-clause-ended g c =
    failed_as c.from_residual-in_err-n.result _ c.from_residual-in_err-n.ensures.0
    (lays_torn c.args.base c.args.map.now c.loop-rest.map c.place_block.new.map c.args.journal.now c.loop-rest.journal c.place_block.new.journal c.loop-rest.taken.items _ c.loop-rest.invariant.lays c.in_err-n.ensures.ended)

pub returns-clause-ended : goal.returns-clause-ended
returns-clause-ended g c =
    let rest = c.loop-rest.rest.now in
    let differ : length rest ≡ 0 → ⊥ = eqb-false (length rest) 0 (sym c.is_empty.ensures ∙ c.if-is_empty.false) in
    let more = laying_last c.args.base c.args.bytes.now rest c.args.map.now c.loop-rest.map c.place_block.new.map c.args.journal.now c.loop-rest.journal c.place_block.new.journal c.loop-rest.taken.items c.in_ok-n.n c.loop-rest.invariant (omega (arith, differ)) (omega (arith, c.loop-rest-test.false)) c.in_ok-n.ensures.ended c.place_block.ensures.disk.run c.in_ok-n.ensures.disk.cause.stays c.place_block.ensures.disk.first_fault in
    rw c.push.ensures.items (laid_done c.args.base c.args.bytes.now _ c.args.map.now c.place_block.new.map c.args.journal.now c.place_block.new.journal _ refl more)
