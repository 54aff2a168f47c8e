-- An item that is run if nothing is held back, stated since a start.
use Rattle.std.proofs.Common.{◌≡◌, ℕ, List, [], ◌∷◌, ◌++◌, Option, Some, None, Result, Ok, Err, MatchResult, ap, sym, subst, ◌∙◌, inr}
use Rattle.std.specs.Io.KnownBytes.{append_known}
use Rattle.std.specs.Option.{IfSome}
use Rattle.lis_ports.specs.Meaning.{Meaning}
use Rattle.lis_ports.proofs.Always.{always_weaken}
use Rattle.lis_reply.proofs.Showing.{append_known-append}
use Rattle.lis_journal.specs.Images.{KeepsPast}
use Rattle.lis_laws.proofs.Regular.{step_regular, limits_after, last_reply, last_situation}
use Rattle.lis_model.specs.declared.limits.Limits.{Limits}
use Rattle.lis_model.specs.Image.{image_blocks}
use Rattle.lis_model.specs.Step.{Situation, Item, step, replies_by, after_by}
use Rattle.lis_store.specs.Stored.{StoreFits, IsSound}
use Rattle.lis_session.specs.declared.end.End.{End}
use Rattle.lis_session.specs.declared.end.End.TheVariants.{DiskFault, OutputFault}
use Rattle.lis_session.specs.Item.{OneItem, CarriesOut}
use Rattle.lis_session.specs.Served.{SessionKeeps}
use Rattle.lis_session.proofs.Fitting.{store_fits_at}
use Rattle.lis_session.proofs.Moments.{adds_later, moment_in}
use Rattle.lis_load.specs.declared.loader.Loader.{Loader}
use Rattle.lis_load.specs.Loading.{Waits, LoadEnded, HasLoaded, HoldsNothing}
use Rattle.lis_store.proofs.Holding.{held_fits}
use Rattle.lis_load.proofs.Moments.{load_more, load_session}
use Rattle.lis_load.proofs.Settling.{Next, loaded_then, all_shown, shown_all}

module _ (start : Situation) (first : List Item) (item : Item) {before : Option (List ℕ)} {now : Loader} (next : Loader) {mid : Meaning} (m : Meaning) (waits : Waits start first before now mid) (none : now.held.items ≡ [])
    (same : next.held.items ≡ now.held.items) where
  abbrev all : List Item
  all = first ++ item ∷ []

  abbrev last : Situation
  last = after_by step start first

  abbrev said : List ℕ
  said = replies_by step start first

  said_all : mid.shown ≡ append_known before said
  said_all = shown_all waits none

  then_said : (known : Option (List ℕ)) (more : List ℕ) → known ≡ append_known mid.shown more → known ≡ append_known before (said ++ more)
  then_said known more is = is ∙ ap (λ known. append_known known more) said_all ∙ append_known-append before said more

  item_ended : (result : Result (Unit {0}) End) → IsSound next.session.store → OneItem last (step last item) mid m result (StoreFits next.session.store m) next.session.place → LoadEnded start all before next m result
  item_ended (Ok u) sound one =
      let there = sym (last_situation step start first item) in
      all_shown start all before next m (same ∙ none) (then_said m.shown (step last item).reply one.ended.shown ∙ ap (append_known before) (sym (last_reply step start first item))) sound
      (subst (λ (s : Situation). StoreFits next.session.store m s.state) there one.ended.fitting.own) (one.ended.at ∙ ap (λ (s : Situation). s.place) there)
  item_ended (Err DiskFault) sound one = tt
  item_ended (Err OutputFault) sound one =
      let front = one.ended in
      record {
        bytes = said ++ front.0;
        shown = then_said m.shown front.0 front.2.shown;
        moment = always_weaken _ front.2.fitting.stands (λ image stands. load_session start all image (said ++ front.0) (moment_in step start first item image front.0 (inr (front.1, stands))));
      }

  item_next : (result : Result (Unit {0}) End) → IsSound next.session.store → OneItem last (step last item) mid m result (StoreFits next.session.store m) next.session.place
      → Next start all before mid m (LoadEnded start all before next m result)
  item_next result sound one = record {
    moments = adds_later before said said_all (λ image shown within. load_session start all image (said ++ shown) (moment_in step start first item image shown within)) one.moments;
    past = subst (λ (limits : Limits). KeepsPast (image_blocks limits) mid m) (limits_after step step_regular start first) one.past;
    ended = item_ended result sound one;
  }

module _ {start now : Loader} (next : Loader) {entry mid : Meaning} (m : Meaning) {first : List Item} (loaded : HasLoaded start entry first now mid (Ok tt)) (idle : HoldsNothing now) (same : next.held.items ≡ now.held.items) where
  goes_on : (item : Item) (result : Result (Unit {0}) End) → SessionKeeps now.session mid next.session m result
      → CarriesOut step (StoreFits now.session.store mid) now.session.place mid m result (StoreFits next.session.store m) next.session.place item → HasLoaded start entry (first ++ item ∷ []) next m result
  goes_on item result keeps carries = loaded_then (λ from. load_more from first (item ∷ [])) loaded keeps (λ from waits.
      let last = after_by step from first in
      let fits = held_fits now.session.store mid _ last.state idle.committed waits.holds in
      item_next from first item next m waits idle.shown same result keeps.sound
      (subst (λ p. OneItem (record { state = last.state; place = p }) (step (record { state = last.state; place = p }) item) mid m result (StoreFits next.session.store m) next.session.place) waits.at
      (carries last.state (store_fits_at loaded.keeps.sound fits))))

  -- an item that was requested
  pub stepped : (asked : Option Item) (result : Result (Unit {0}) End) → SessionKeeps now.session mid next.session m result
      → IfSome asked (CarriesOut step (StoreFits now.session.store mid) now.session.place mid m result (StoreFits next.session.store m) next.session.place)
      → IfSome asked (λ item. MatchResult result (λ _. HasLoaded start entry (first ++ item ∷ []) next m (Ok tt)) (λ fault. HasLoaded start entry (first ++ item ∷ []) next m (Err fault)))
  stepped None result keeps carries = tt
  stepped (Some item) (Ok u) keeps carries = goes_on item (Ok u) keeps carries
  stepped (Some item) (Err fault) keeps carries = goes_on item (Err fault) keeps carries
