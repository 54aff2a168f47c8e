-- How a load ends, stated of its whole script.
use Rattle.std.proofs.Common.{◌≡◌, ℕ, List, [], ◌++◌, Option, Some, Ok, Err, false, sym, subst, ◌∙◌, refl, append-nil}
use Rattle.lis_ports.specs.Meaning.{Meaning}
use Rattle.lis_ports.proofs.Moments.{adds_none}
use Rattle.lis_reply.proofs.Showing.{append_known-nil}
use Rattle.lis_line.specs.declared.carrier.Halt.{Halt}
use Rattle.lis_line.specs.declared.carrier.Halt.TheVariants.{End as AtEnd, Limit as AtLimit, InputFault as AtFault, Stopped}
use Rattle.lis_line.specs.Endings.{HoldEnded}
use Rattle.lis_model.specs.Script.{script, session_cut}
use Rattle.lis_model.specs.State.{State}
use Rattle.lis_model.specs.Step.{Situation, Item, step, after_by}
use Rattle.lis_store.specs.Stored.{IsSound, StoreFits}
use Rattle.lis_session.specs.declared.end.End.{End}
use Rattle.lis_session.specs.Ending.{result_of, InputRead}
use Rattle.lis_session.specs.Item.{FitsAt}
use Rattle.lis_session.specs.Runs.{Carried}
use Rattle.lis_session.specs.Served.{SessionKeeps, situation_at}
use Rattle.lis_session.proofs.Fitting.{store_fits_at}
use Rattle.lis_session.proofs.Going.{has_done_none}
use Rattle.lis_session.proofs.Moments.{adds_since}
use Rattle.lis_load.specs.declared.loader.Loader.{Loader}
use Rattle.lis_load.specs.Load.{Loads, LoadServed, LoadStopped}
use Rattle.lis_load.specs.Loading.{HasLoaded, HoldsNothing}
use Rattle.lis_store.proofs.Holding.{held_fits}
use Rattle.lis_load.proofs.Moments.{load_more, load_stopped_more}
use Rattle.lis_load.proofs.Settling.{all_shown, shown_all}

-- before anything was run
pub loaded_none : (start : Loader) (m : Meaning) → start.held.items ≡ [] → start.session.store.is_broken ≡ false → IsSound start.session.store → HasLoaded start m [] start m (Ok tt)
loaded_none start m none unbroken sound = record {
  keeps = (has_done_none step start.session m unbroken sound).keeps;
  serves = λ state fitting. record {
    moments = adds_none m _;
    past = λ n le. refl;
    ended = all_shown (situation_at start.session state) [] m.shown start m none (sym (append_known-nil m.shown)) sound fitting.own refl;
  };
}

-- some first items, stated of all
loads_more : {start : Situation} {first items : List Item} {old new : Meaning} {end ended : Type 0} (others : List Item) → items ≡ first ++ others → Loads start first old new end → ended → Loads start items old new ended
loads_more {start} {first} {old = old} {new} {ended = ended} others all loads is = subst (λ xs. Loads start xs old new ended) (sym all) (record {
  moments = adds_since old.shown (load_more start first others) loads.moments;
  past = loads.past;
  ended = is;
})

module _ (limit : ℕ) (left_before left : Option (List ℕ)) (start now : Loader) (entry m : Meaning) where
  abbrev pub Halted : Halt End → Type 0
  Halted halt =
      HoldEnded session_cut limit left_before left (HoldsNothing now) (λ first. HasLoaded start entry first now m (Ok tt)) (λ first fault. HasLoaded start entry first now m (Err fault)) halt

  -- whatever the state
  pub load_keeps : (halt : Halt End) → Halted halt → SessionKeeps start.session entry now.session m (result_of halt)
  load_keeps AtEnd ended = ended.1.done.keeps
  load_keeps AtLimit ended = ended.1.done.keeps
  load_keeps AtFault ended = ended.1.done.keeps
  load_keeps (Stopped fault) ended = ended.done.keeps

  -- if the input was known
  module _ (input : List ℕ) (told : left_before ≡ Some input) where
    pub load_input : (halt : Halt End) → Halted halt → InputRead limit input left halt
    load_input AtEnd ended = let read = ended.1.read input told in (read.short, read.at_end)
    load_input AtLimit ended = (ended.1.read input told).long
    load_input halt ended = tt

    module _ (state : State) (fitting : FitsAt (StoreFits start.session.store entry) entry state) where
      abbrev from : Situation
      from = situation_at start.session state

      -- nothing is held back: all was shown, and is in each image
      carried : {first : List Item} (these : List Item) → HoldsNothing now → HasLoaded start entry first now m (Ok tt) → these ≡ first → Carried step from these entry.shown m
      carried {first} these idle loaded is =
          let waits = (loaded.serves state fitting).ended in
          let fits = held_fits now.session.store m _ (after_by step from first).state idle.committed waits.holds in
          subst (λ xs. Carried step from xs entry.shown m) (sym is) (record { shown = shown_all waits idle.shown; stands = (store_fits_at loaded.keeps.sound fits).stands })

      loads_items : {first : List Item} {ended : Type 0} → HasLoaded start entry first now m (Ok tt) → script input limit ≡ first → ended → Loads from (script input limit) entry m ended
      loads_items {first} loaded is = loads_more [] (is ∙ sym (append-nil first)) (loaded.serves state fitting)

      pub loads_so : (halt : Halt End) → Halted halt → Loads from (script input limit) entry m (LoadServed from limit input left entry.shown m halt)
      loads_so AtEnd ended =
          let read = ended.1.read input told in
          loads_items ended.1.done read.is (record { short = read.short; at_end = read.at_end; carried = carried (script input limit) ended.0 ended.1.done read.is })
      loads_so AtLimit ended =
          let read = ended.1.read input told in
          loads_items ended.1.done read.is (record { long = read.long; carried = carried (script input limit) ended.0 ended.1.done read.is })
      loads_so AtFault ended =
          let read = ended.1.read input told in
          loads_more read.1.0 read.1.1 (ended.1.done.serves state fitting)
          (record { taken = read.0.taken; consumed = read.0.consumed; within = read.0.within; carried = carried (session_cut.whole read.0.taken) ended.0 ended.1.done read.0.is })
      loads_so (Stopped fault) ended =
          let front = ended.read input told in
          let loads = ended.done.serves state fitting in
          loads_more front.0 front.1 loads
          (subst (λ xs. LoadStopped from xs entry.shown m fault) (sym front.1) (load_stopped_more from ended.first front.0 entry.shown m fault loads.ended))
