-- A session over a plain state, in progress.
use Rattle.std.proofs.Common.{List, [], ◌∷◌, ◌++◌, Option, Some, None, Result, Ok, Err, IfOk, IfSome, MatchResult, ap, sym, subst, ◌∙◌, refl, append-nil, arith}
use Rattle.std.specs.Io.KnownBytes.{append_known}
use Rattle.lis_ports.specs.Meaning.{Meaning}
use Rattle.lis_ports.specs.Calls.{IsShowCall, StationFaultEnds}
use Rattle.lis_ports.proofs.Ending.{station_ends_then}
use Rattle.lis_reply.proofs.Showing.{append_known-append, append_known-nil, call_none, call_then}
use Rattle.lis_model.specs.Step.{Situation, Item, step, replies, situation_after}
use Rattle.lis_model.proofs.Runs.{after-append, replies-append}
use Rattle.lis_plain.specs.Carries.{Carries, HasPlainCause}
use Rattle.lis_plain.specs.Tried.{Tried, TriedInto}
use Rattle.lis_plain.specs.declared.end.PlainEnd.{PlainEnd}

-- before the first item
pub tried_none : (start : Situation) (m : Meaning) → Tried start m [] start m
tried_none start m = record {
  at = refl;
  shown = sym (append_known-nil m.shown);
  call = call_none m;
  show_faults = refl;
  first_fault = omega arith;
}

-- the step at the place to which the first items led, and from what they have shown
carried_here : (start : Situation) (entry : Meaning) (first : List Item) (now next : Situation) (m n : Meaning) (item : Item) (result : Result (Unit {0}) PlainEnd)
    → Tried start entry first now m → Carries (step now item) now next m.shown n.shown result
    → Carries (step (situation_after start first) item) (situation_after start first) next (append_known entry.shown (replies start first)) n.shown result
carried_here start entry first now next m n item result tried carried =
    subst (λ known. Carries (step (situation_after start first) item) (situation_after start first) next known n.shown result) tried.shown
    (subst (λ s. Carries (step s item) s next m.shown n.shown result) tried.at carried)

-- one more item was run
tried_more : (start : Situation) (entry : Meaning) (first : List Item) (now next : Situation) (m n : Meaning) (item : Item) (u : Unit {0})
    → Tried start entry first now m → Carries (step now item) now next m.shown n.shown (Ok u) → IsShowCall m n → StationFaultEnds m n → HasPlainCause m.show_faults n.show_faults (Ok u)
    → Tried start entry (first ++ item ∷ []) next n
tried_more start entry first now next m n item u tried carried call ends cause =
    let here = carried_here start entry first now next m n item (Ok u) tried carried in
    let reply = (step (situation_after start first) item).reply in
    record {
      at = here.0 ∙ sym (after-append step start first (item ∷ []));
      shown = here.1 ∙ append_known-append entry.shown (replies start first) reply
          ∙ ap (λ bytes. append_known entry.shown (replies start first ++ bytes)) (sym (append-nil reply))
          ∙ ap (append_known entry.shown) (sym (replies-append step start first (item ∷ [])));
      call = call_then tried.call call;
      show_faults = cause ∙ tried.show_faults;
      first_fault = station_ends_then entry m n tried.call.disk_faults tried.show_faults tried.first_fault ends;
    }

-- a fault in an item
tried_into : (start : Situation) (entry : Meaning) (first : List Item) (now next : Situation) (m n : Meaning) (item : Item) (fault : PlainEnd)
    → Tried start entry first now m → Carries (step now item) now next m.shown n.shown (Err fault) → IsShowCall m n → StationFaultEnds m n → HasPlainCause m.show_faults n.show_faults (Err fault)
    → TriedInto start entry first item fault next n
tried_into start entry first now next m n item fault tried carried call ends cause = record {
  carries = carried_here start entry first now next m n item (Err fault) tried carried;
  call = call_then tried.call call;
  first_fault = station_ends_then entry m n tried.call.disk_faults tried.show_faults tried.first_fault ends;
  cause = subst (λ count. HasPlainCause count n.show_faults (Err fault)) tried.show_faults cause;
}

-- the requested item, whatever its step returned
pub tried_on : (start : Situation) (entry : Meaning) (first : List Item) (now next : Situation) (m n : Meaning) (asked : Option Item) (result : Result (Unit {0}) PlainEnd)
    → Tried start entry first now m → IfSome asked (λ item. Carries (step now item) now next m.shown n.shown result) → IsShowCall m n → StationFaultEnds m n → HasPlainCause m.show_faults n.show_faults result
    → IfSome asked (λ item. MatchResult result (λ u. Tried start entry (first ++ item ∷ []) next n) (λ fault. TriedInto start entry first item fault next n))
tried_on start entry first now next m n None result tried carried call ends cause = tt
tried_on start entry first now next m n (Some item) (Ok u) tried carried call ends cause = tried_more start entry first now next m n item u tried carried call ends cause
tried_on start entry first now next m n (Some item) (Err fault) tried carried call ends cause = tried_into start entry first now next m n item fault tried carried call ends cause

-- a plain state is ready for any item
pub always_ready : (result : Result (Unit {0}) PlainEnd) → IfOk result (λ u. Unit {0})
always_ready (Ok u) = tt
always_ready (Err fault) = tt
