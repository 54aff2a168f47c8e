-- Moments of a load.
use Rattle.std.proofs.Common.{◌≡◌, ℕ, ◌+◌, ◌-◌, ◌≤◌, List, [], ◌++◌, length, Option, refl, sym, subst, ◌∙◌, ap, arith, length-append}
use Rattle.std.proofs.lemmas.List.{take-append-le}
use Rattle.lis_ports.specs.Meaning.{Meaning}
use Rattle.lis_ports.specs.Since.{Begins}
use Rattle.lis_ports.proofs.Always.{always_weaken}
use Rattle.lis_reply.proofs.Showing.{begins_behind}
use Rattle.lis_model.specs.Step.{Situation, Item, step, replies_by, after_by}
use Rattle.lis_store.specs.Stands.{Stands}
use Rattle.lis_session.specs.declared.end.End.{End}
use Rattle.lis_session.specs.declared.end.End.TheVariants.{DiskFault, OutputFault}
use Rattle.lis_session.specs.Session.{out, state_after, SessionMoment}
use Rattle.lis_session.proofs.Moments.{begins_trans, out_begins, out_none, state_front, state_whole, take_none, take_whole}
use Rattle.lis_load.specs.Load.{lag, LoadMoment, LoadStopped}

module _ (start : Situation) where
  pub out_whole : (items : List Item) → out step start items (length items) ≡ replies_by step start items
  out_whole items = ap (replies_by step start) (take_whole items)

  -- the replies to the first `whole` items were shown, and the image represents the state after as many items or after some more
  pub load_at : (items : List Item) (whole count : ℕ) (image : List ℕ) → whole ≤ count → count ≤ whole + lag → count ≤ length items → Stands image (state_after step start items count)
      → LoadMoment start items image (out step start items whole)
  load_at items whole count image behind few within stands = record {
    count = count;
    within = within;
    stands = stands;
    no_more = out_begins step start items whole count behind;
    no_less = out_begins step start items (count - lag) whole (omega (arith, few));
  }

  -- before anything was run
  pub load_none : (items : List Item) (image : List ℕ) → Stands image start.state → LoadMoment start items image []
  load_none items image stands =
      subst (λ xs. LoadMoment start items image xs) (out_none step start items)
      (load_at items 0 0 image (omega arith) (omega arith) (omega arith) (subst (λ xs. Stands image (after_by step start xs).state) (sym (take_none items)) stands))

  -- the image represents the state after all items, and a prefix of the replies that waited was shown
  pub load_between : (items : List Item) (whole : ℕ) (image front rest : List ℕ) → length items ≤ whole + lag → Stands image (after_by step start items).state
      → replies_by step start items ≡ out step start items whole ++ rest → Begins front rest → LoadMoment start items image (out step start items whole ++ front)
  load_between items whole image front rest few stands all begins =
      let said = out step start items whole in
      record {
        count = length items;
        within = omega arith;
        stands = subst (λ s. Stands image s) (sym (state_whole step start items)) stands;
        no_more = subst (λ xs. Begins (said ++ front) xs) (sym (out_whole items ∙ all)) (begins_behind front said rest begins);
        no_less = begins_trans _ said _ (out_begins step start items (length items - lag) whole (omega (arith, few))) (record { rest = front; is = refl });
      }

  -- a moment of the first items is one of all items
  pub load_more : (first others : List Item) (image shown : List ℕ) → LoadMoment start first image shown → LoadMoment start (first ++ others) image shown
  load_more first others image shown m =
      let within : m.count ≤ length first = m.within in
      record {
        count = m.count;
        within = omega (arith, within, length-append first others);
        stands = subst (λ s. Stands image s) (sym (state_front step start first others m.count within)) m.stands;
        no_more = subst (λ xs. Begins shown (replies_by step start xs)) (sym (take-append-le m.count first others within)) m.no_more;
        no_less = subst (λ xs. Begins (replies_by step start xs) shown) (sym (take-append-le (m.count - lag) first others (omega (arith, within)))) m.no_less;
      }

  -- and so is a moment of a session
  pub load_session : (items : List Item) (image shown : List ℕ) → SessionMoment step start items image shown → LoadMoment start items image shown
  load_session items image shown m = record {
    count = m.count;
    within = m.within;
    stands = m.stands;
    no_more = m.no_more;
    no_less = begins_trans _ _ shown (out_begins step start items (m.count - lag) (m.count - 1) (omega arith)) m.no_less;
  }

  -- a fault in the first items is one in all items
  pub load_stopped_more : (first others : List Item) (before : Option (List ℕ)) (m : Meaning) (fault : End) → LoadStopped start first before m fault → LoadStopped start (first ++ others) before m fault
  load_stopped_more first others before m DiskFault stop = tt
  load_stopped_more first others before m OutputFault stop = record {
    bytes = stop.bytes;
    shown = stop.shown;
    moment = always_weaken _ stop.moment (λ image moment. load_more first others image stop.bytes moment);
  }
