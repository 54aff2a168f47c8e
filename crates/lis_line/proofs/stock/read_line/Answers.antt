use Rattle.std.proofs.Common.{◌++◌, ◌∷◌, [], ◌<◌, ◌≤◌, length, sym, ◌∙◌, subst, arith}
use Rattle.std.proofs.lemmas.Bool.{eqb-true, eqb-false}
use Rattle.lis_line.specs.Stock.{LineTaken}
use Rattle.lis_line.proofs.Bytes.{taken_ended, going_pushed, going_full}
use Rattle.lis_line.proofs.stock.read_line.Goals as goal

pub returns-then-rest-eq0-clause-reads : goal.returns-then-rest-eq0-clause-reads
returns-then-rest-eq0-clause-reads g c =
    let given = rw c.in-Some.is at c.in_ok-byte.ensures.gives in
    let going = c.loop-byte.invariant.going in
    (going.text, c.in-Some.byte, taken_ended _ c.loop-byte.stock _ _ (g.S.Source.left c.loop-byte.source) _ _ _ c.in-Some.byte going.taken given.0 given.1, omega arith)

pub returns-then-is_feed-clause-reads : goal.returns-then-is_feed-clause-reads
returns-then-is_feed-clause-reads g c =
    let given = rw c.in-Some.is at c.in_ok-byte.ensures.gives in
    let going = c.loop-byte.invariant.going in
    let taken = taken_ended c.args.stock.now c.loop-byte.stock c.next_byte.new.self (g.S.Source.left c.args.source.now) (g.S.Source.left c.loop-byte.source)
    (g.S.Source.left c.next_byte.new.source) c.loop-byte.line.items going.text c.in-Some.byte going.taken given.0 given.1 in (
      going.text,
      subst (λ n. LineTaken c.args.stock.now c.next_byte.new.self (g.S.Source.left c.args.source.now) (g.S.Source.left c.next_byte.new.source) c.loop-byte.line.items going.text (going.text ++ n ∷ [])) (eqb-true c.in-Some.byte 10 (sym c.is_feed.ensures ∙ c.if-is_feed.true)) taken,
      omega arith,
    )

pub loop-byte-preserved-then-len-lt-KEPT : goal.loop-byte-preserved-then-len-lt-KEPT
loop-byte-preserved-then-len-lt-KEPT g c =
    let given = rw c.in-Some.is at c.in_ok-byte.ensures.gives in
    let few : length c.loop-byte.line.items < 1025 = omega arith in
    record {
      going = going_pushed _ c.loop-byte.stock _ _ (g.S.Source.left c.loop-byte.source) _ c.loop-byte.line.items _ c.in-Some.byte c.loop-byte.invariant.going
          given.0 given.1 (eqb-false c.in-Some.byte 10 (sym c.is_feed.ensures ∙ c.if-is_feed.false)) (omega arith) few c.push.ensures.items;
      faults = c.in_ok-byte.ensures.source.cause.stays ∙ c.loop-byte.invariant.faults;
      first_fault = omega (arith, c.loop-byte.invariant.first_fault, c.loop-byte.invariant.faults, c.in_ok-byte.ensures.source.first_fault);
    }

pub loop-byte-preserved : goal.loop-byte-preserved
loop-byte-preserved g c =
    let given = rw c.in-Some.is at c.in_ok-byte.ensures.gives in
    let full : 1025 ≤ length c.loop-byte.line.items = omega arith in
    record {
      going = going_full _ c.loop-byte.stock _ _ (g.S.Source.left c.loop-byte.source) _ c.loop-byte.line.items c.in-Some.byte c.loop-byte.invariant.going
          given.0 given.1 (eqb-false c.in-Some.byte 10 (sym c.is_feed.ensures ∙ c.if-is_feed.false)) (omega arith) full;
      faults = c.in_ok-byte.ensures.source.cause.stays ∙ c.loop-byte.invariant.faults;
      first_fault = omega (arith, c.loop-byte.invariant.first_fault, c.loop-byte.invariant.faults, c.in_ok-byte.ensures.source.first_fault);
    }
