use Rattle.std.proofs.Common.{◌≡◌, ◌++◌, false, true, length, sym, ◌∙◌, arith}
use Rattle.std.proofs.lemmas.Bool.{eqb-true, eqb-false}
use Rattle.lis_model.specs.State.{blocks_taken}
use Rattle.lis_content.specs.Large.{is_large}
use Rattle.lis_content.proofs.Laying.{unstaged_still, lays_torn, placed_small, failed_as}
use Rattle.lis_content.proofs.Indexing.{indexing_none, indexing_more, placed_large, most_numbered, rest_fits, room_left, some_left, front_parts}
use Rattle.lis_content.proofs.placing.place_all.Goals as goal

pub place_bytes-requires-clause-numbered : goal.place_bytes-requires-clause-numbered
place_bytes-requires-clause-numbered g c = omega (arith, c.requires.numbered, most_numbered c.args.version)

pub returns-then-not-is_large-clause-ended : goal.returns-then-not-is_large-clause-ended
returns-then-not-is_large-clause-ended g c =
    let same : c.slot_of.result.items ≡ c.place_bytes.new.taken.items = c.slot_of.ensures ∙ c.deref.ensures.0 in
    let small : is_large (length c.args.bytes.now) ≡ false = sym c.is_large.ensures ∙ c.if-not-is_large.true in
    rw same (placed_small c.args.version c.args.base c.args.bytes.now c.args.map.now c.place_bytes.new.map c.args.journal.now c.place_bytes.new.journal c.place_bytes.new.taken.items small c.in_ok-from.ensures.ended)

pub loop-rest-init : goal.loop-rest-init
loop-rest-init g c =
    let laid = c.in_ok-from.ensures in
    rw c.new-slot.ensures (record {
      numbers = c.place_bytes.new.taken.items;
      count = laid.ended.count;
      indexing = indexing_none c.args.version c.args.base c.args.bytes.now c.as_slice-rest.result.now c.args.map.now c.place_bytes.new.map c.args.journal.now c.place_bytes.new.journal c.place_bytes.new.taken.items
          laid.ended laid.disk.run laid.disk.cause.stays laid.disk.first_fault c.as_slice-rest.ensures.value;
    })

pub place_index-requires-clause-fit : goal.place_index-requires-clause-fit
place_index-requires-clause-fit g c =
    let parts = front_parts c.loop-rest.rest.now c.min.result c.min.ensures in
    rest_fits c.args.version c.args.base c.args.bytes.now c.loop-rest.rest.now c.split_at.result.0.now c.args.map.now c.loop-rest.map c.args.journal.now c.loop-rest.journal c.loop-rest.slot.items c.requires.numbered c.loop-rest.invariant (c.split_at.ensures.front ∙ parts.0)

pub place_index-requires-clause-unstaged : goal.place_index-requires-clause-unstaged
place_index-requires-clause-unstaged g c =
    unstaged_still c.args.base c.args.map.now c.loop-rest.map c.args.journal.now c.loop-rest.journal _ c.loop-rest.invariant.indexing.lays c.requires.unstaged

pub place_index-requires-clause-some : goal.place_index-requires-clause-some
place_index-requires-clause-some g c =
    let rest = c.loop-rest.rest.now in
    let large : is_large (length c.args.bytes.now) ≡ true = sym c.is_large.ensures ∙ c.if-not-is_large.false in
    let differ : length rest ≡ 0 → ⊥ = eqb-false (length rest) 0 (sym c.is_empty.ensures ∙ c.loop-rest-test.true) in
    let more = some_left c.args.version c.args.base c.args.bytes.now rest c.args.map.now c.loop-rest.map c.args.journal.now c.loop-rest.journal c.loop-rest.slot.items large c.requires.enough c.loop-rest.invariant (omega (arith, differ)) in
    more.2

pub place_index-requires-clause-room : goal.place_index-requires-clause-room
place_index-requires-clause-room g c =
    let rest = c.loop-rest.rest.now in
    let large : is_large (length c.args.bytes.now) ≡ true = sym c.is_large.ensures ∙ c.if-not-is_large.false in
    let differ : length rest ≡ 0 → ⊥ = eqb-false (length rest) 0 (sym c.is_empty.ensures ∙ c.loop-rest-test.true) in
    let more = some_left c.args.version c.args.base c.args.bytes.now rest c.args.map.now c.loop-rest.map c.args.journal.now c.loop-rest.journal c.loop-rest.slot.items large c.requires.enough c.loop-rest.invariant (omega (arith, differ)) in
    room_left c.args.base c.args.map.now c.loop-rest.map c.args.journal.now c.loop-rest.journal (c.loop-rest.invariant.numbers ++ c.loop-rest.slot.items) (blocks_taken 2 (length c.args.bytes.now)) c.requires.room c.loop-rest.invariant.indexing.lays more.1

pub returns-in_err-n-clause-ended : goal.returns-in_err-n-clause-ended
returns-in_err-n-clause-ended g c =
    failed_as c.from_residual-in_err-n.result _ c.from_residual-in_err-n.ensures.0
    (lays_torn c.args.base c.args.map.now c.loop-rest.map c.place_index.new.map c.args.journal.now c.loop-rest.journal c.place_index.new.journal _ _ c.loop-rest.invariant.indexing.lays c.in_err-n.ensures.ended)

pub push-requires : goal.push-requires
push-requires g c =
    let rest = c.loop-rest.rest.now in
    let large : is_large (length c.args.bytes.now) ≡ true = sym c.is_large.ensures ∙ c.if-not-is_large.false in
    let differ : length rest ≡ 0 → ⊥ = eqb-false (length rest) 0 (sym c.is_empty.ensures ∙ c.loop-rest-test.true) in
    let more = some_left c.args.version c.args.base c.args.bytes.now rest c.args.map.now c.loop-rest.map c.args.journal.now c.loop-rest.journal c.loop-rest.slot.items large c.requires.enough c.loop-rest.invariant (omega (arith, differ)) in
    (omega arith, omega (arith, more.0, c.requires.few))

pub loop-rest-preserved : goal.loop-rest-preserved
loop-rest-preserved g c =
    let rest = c.loop-rest.rest.now in
    let was = c.loop-rest.invariant in
    let parts = front_parts rest c.min.result c.min.ensures in
    let differ : length rest ≡ 0 → ⊥ = eqb-false (length rest) 0 (sym c.is_empty.ensures ∙ c.loop-rest-test.true) in
    rw c.push.ensures.items (record {
      numbers = was.numbers;
      count = was.count;
      indexing = indexing_more c.args.version c.args.base c.args.bytes.now rest c.split_at.result.1.now c.split_at.result.0.now c.args.map.now c.loop-rest.map c.place_index.new.map c.args.journal.now c.loop-rest.journal c.place_index.new.journal was.numbers c.loop-rest.slot.items c.in_ok-n.n
          was.indexing (omega (arith, differ)) (c.split_at.ensures.front ∙ parts.0) (c.split_at.ensures.back ∙ parts.1) c.in_ok-n.ensures.ended c.place_index.ensures.disk.run c.in_ok-n.ensures.disk.cause.stays c.place_index.ensures.disk.first_fault;
    })

pub returns-clause-ended : goal.returns-clause-ended
returns-clause-ended g c =
    let large : is_large (length c.args.bytes.now) ≡ true = sym c.is_large.ensures ∙ c.if-not-is_large.false in
    let was = c.loop-rest.invariant in
    placed_large c.args.version c.args.base c.args.bytes.now c.loop-rest.rest.now c.args.map.now c.loop-rest.map c.args.journal.now c.loop-rest.journal was.numbers c.loop-rest.slot.items large c.requires.numbered was.count (eqb-true (length c.loop-rest.rest.now) 0 (sym c.is_empty.ensures ∙ c.loop-rest-test.false)) was.indexing
