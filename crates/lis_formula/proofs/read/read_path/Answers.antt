use Rattle.std.proofs.Common.{◌≡◌, length, ap, ◌∙◌, arith}
use Rattle.lis_formula.specs.Reader.{walk_of}
use Rattle.lis_formula.proofs.Reaching.{reach_start, reach_stop, reach_next, reach_all, reach_end, reach_no_end}
use Rattle.lis_formula.proofs.read.read_path.Goals as goal

pub loop-byte-init : goal.loop-byte-init
loop-byte-init c =
    let none = ap length c.new-reader.ensures.signs in
    record { at = omega arith; room = omega (arith, none); reached = reach_start (walk_of c.new-reader.result) c.new-reader.ensures.walk }

pub loop-byte-preserved : goal.loop-byte-preserved
loop-byte-preserved c =
    let so_far = c.loop-byte.invariant in
    record {
      at = omega (arith, so_far.at);
      room = omega (arith, so_far.room, c.take.ensures.signs);
      reached = reach_next c.args.text.now c.loop-byte.byte-index (walk_of c.loop-byte.reader) (walk_of c.take.new.self) c.loop-byte-test.true so_far.reached c.if-not-take.ensures.walk;
    }

pub returns-then-not-take-clause-path : goal.returns-then-not-take-clause-path
returns-then-not-take-clause-path c =
    let so_far = c.loop-byte.invariant in
    let stop = reach_stop c.args.text.now c.loop-byte.byte-index (walk_of c.loop-byte.reader) c.loop-byte-test.true so_far.reached c.if-not-take.ensures.walk in
    (stop.0, so_far.at ∙ stop.1)

pub returns-then-not-end-clause-path : goal.returns-then-not-end-clause-path
returns-then-not-end-clause-path c =
    let so_far = c.loop-byte.invariant in
    let all = reach_all c.args.text.now c.loop-byte.byte-index (walk_of c.loop-byte.reader) (omega arith) so_far.reached in
    let stop = reach_no_end c.args.text.now (walk_of c.loop-byte.reader) all c.if-not-end.ensures in
    let end : c.loop-byte.byte-index ≡ length c.args.text.now = omega arith in
    (stop.0, so_far.at ∙ (end ∙ stop.1))

pub returns-clause-path : goal.returns-clause-path
returns-clause-path c =
    let so_far = c.loop-byte.invariant in
    let all = reach_all c.args.text.now c.loop-byte.byte-index (walk_of c.loop-byte.reader) (omega arith) so_far.reached in
    reach_end c.args.text.now (walk_of c.loop-byte.reader) c.end.new.self.held.kept all c.if-not-end.ensures
