use Rattle.std.proofs.Common.{List, ℕ, ◌++◌, option_copied, ap, arith}
use Rattle.lis_views.specs.Lines.{lines_of}
use Rattle.lis_parts.specs.Viewing.{mark_text, next_number, shown_text, pieces_text}
use Rattle.lis_parts.proofs.Saying.{so_far_none, so_far_more, so_far_broke, so_far_all}
use Rattle.lis_parts.proofs.Viewed.{next_few, stretch_text, where_none}
use Rattle.lis_parts.proofs.viewing.say_pieces.Goals as goal

pub loop-number-init : goal.loop-number-init
loop-number-init g c = record {
  so_far = so_far_none (pieces_text 1 c.args.bytes.now c.args.place.now) (g.T.Disk.meaning c.args.station.now) c.args.kept.now.items;
  low = omega arith;
  one = omega arith;
}

pub returns-in_err-say_stretch : goal.returns-in_err-say_stretch
returns-in_err-say_stretch g c =
    let s = c.next_stretch-stretch.result in
    let e = c.next_stretch-stretch.ensures in
    let place = c.args.place.now in
    let number = c.loop-number.number in
    so_far_broke {text = pieces_text 1 c.args.bytes.now place} {piece = mark_text number s.hidden ++ shown_text (option_copied s.shown)} c.loop-number.invariant.so_far (pieces_text (next_number number s.hidden) s.rest.now place)
    (stretch_text number c.loop-number.rest.now s.rest.now place (lines_of s.run.now).texts s.hidden (option_copied s.shown) e.pieces e.hidden)
    c.in_err-say_stretch.ensures c.from_residual.ensures.1

pub returns-then-is_none : goal.returns-then-is_none
returns-then-is_none g c =
    let s = c.next_stretch-stretch.result in
    let e = c.next_stretch-stretch.ensures in
    let place = c.args.place.now in
    let number = c.loop-number.number in
    let next = next_number number s.hidden in
    so_far_all {text = pieces_text 1 c.args.bytes.now place}
    (so_far_more {text = pieces_text 1 c.args.bytes.now place} {piece = mark_text number s.hidden ++ shown_text (option_copied s.shown)} c.loop-number.invariant.so_far (pieces_text next s.rest.now place)
    (stretch_text number c.loop-number.rest.now s.rest.now place (lines_of s.run.now).texts s.hidden (option_copied s.shown) e.pieces e.hidden)
    c.in_ok-say_stretch.ensures)
    (ap (λ (xs : List ℕ). pieces_text next xs place) (where_none s.shown c.if-is_none.ensures e.end))

pub loop-number-preserved : goal.loop-number-preserved
loop-number-preserved g c =
    let s = c.next_stretch-stretch.result in
    let e = c.next_stretch-stretch.ensures in
    let place = c.args.place.now in
    let number = c.loop-number.number in
    let next = c.next_number-number.ensures in
    let few = next_few number s.hidden in
    let so_far = so_far_more {text = pieces_text 1 c.args.bytes.now place} {piece = mark_text number s.hidden ++ shown_text (option_copied s.shown)} c.loop-number.invariant.so_far
    (pieces_text (next_number number s.hidden) s.rest.now place)
    (stretch_text number c.loop-number.rest.now s.rest.now place (lines_of s.run.now).texts s.hidden (option_copied s.shown) e.pieces e.hidden)
    c.in_ok-say_stretch.ensures in
    record {
      so_far = rw next so_far;
      low = omega (arith, next, few.1, e.few, e.within, c.loop-number.invariant.low);
      one = omega (arith, next, few.0, c.loop-number.invariant.one);
    }
