use Rattle.std.proofs.Common.{◌≡◌, ◌-◌, true, List, take}
use Rattle.std.specs.List.{Contains}
use Rattle.lis_grammar.specs.Formula.{Formula}
use Rattle.lis_bits.specs.Rows.{get}
use Rattle.lis_eval.specs.Room.{HasRoom}
use Rattle.lis_model.specs.Listing.{holds_all}
use Rattle.lis_model.specs.Route.{route_within}
use Rattle.lis_eval.specs.View.{Placed, TellsTest, table_of}
use Rattle.lis_ext.specs.Ext.{set_of}
use Rattle.lis_incr.specs.Marked.{Finds, MarksOnly}
use Rattle.lis_incr.specs.Ways.{AreKnown, Walks}
use Rattle.lis_incr.proofs.walk.walk.Given as goal

abbrev pub invariant-loop-step : goal.invariant-loop-step
invariant-loop-step g l = record {
  own : MarksOnly (g.V.View.seen l.view) (set_of (g.V.View.rows l.view) l.slot) l.scratch.candidates;
  here : get l.scratch.files 0 l.slot ≡ true;
  finds : Finds (g.V.View.seen l.view) l.scratch.files;
  room : HasRoom l.scratch (g.V.View.seen l.view).limits;
  known : AreKnown (g.V.View.seen l.view) (take l.step l.scratch.route.items);
  walks : (f : Placed) (place : List Formula) → Contains (g.V.View.seen l.view).files f → f.slot ≡ l.slot → TellsTest (g.V.View.seen l.view) (get l.fn.scratch.files 0) (holds_all place)
      → Walks (g.V.View.seen l.view) l.scratch.files (l.most - l.step) (take l.step l.scratch.route.items) place f.entry (route_within l.most (table_of (g.V.View.seen l.view)) place f.entry);
}
