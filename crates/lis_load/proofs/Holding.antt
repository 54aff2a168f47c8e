-- A change that is held back, stated since a start.
use Rattle.std.proofs.Common.{◌≡◌, ◌⊎◌, ℕ, ◌+◌, ◌≤◌, ◌<◌, List, [], ◌∷◌, ◌++◌, length, Option, Some, None, Result, Ok, Err, true, ap, sym, subst, ◌∙◌, inl, inr, arith, append_assoc, append-nil, length-append}
use Rattle.std.specs.Io.KnownBytes.{append_known}
use Rattle.std.specs.List.{flat_map}
use Rattle.std.proofs.lemmas.Grind.{flat_map-append}
use Rattle.std.proofs.lemmas.List.{take-append-le}
use Rattle.lis_ports.specs.Meaning.{Meaning}
use Rattle.lis_laws.proofs.Regular.{last_reply, last_situation}
use Rattle.lis_model.specs.declared.command.Command.{Command}
use Rattle.lis_model.specs.declared.refusal.Refusal.{Refusal}
use Rattle.lis_model.specs.State.{State}
use Rattle.lis_model.specs.Step.{Situation, Outcome, Item, Payload, step, done, replies_by, after_by}
use Rattle.lis_model.specs.Step.Item.{Do}
use Rattle.lis_store.specs.Changes.{Holds}
use Rattle.lis_store.specs.declared.change_fault.ChangeFault.{ChangeFault}
use Rattle.lis_store.specs.declared.change_fault.ChangeFault.TheVariants.{Refused, Disk}
use Rattle.lis_store.specs.Stands.{Stands}
use Rattle.lis_store.specs.Stored.{StoreHolds}
use Rattle.lis_session.specs.declared.end.End.TheVariants.{DiskFault}
use Rattle.lis_session.specs.Parts.{MakesHeld, is_change}
use Rattle.lis_session.specs.Served.{SessionKeeps}
use Rattle.lis_session.specs.Session.{out, state_after}
use Rattle.lis_session.proofs.Moments.{state_front, state_whole}
use Rattle.lis_session.proofs.Staying.{change_stays}
use Rattle.lis_load.specs.declared.loader.Loader.{Loader}
use Rattle.lis_load.specs.Load.{lag, LoadMoment}
use Rattle.lis_load.specs.Loading.{answer, Waits, HasLoaded}
use Rattle.lis_load.proofs.Moments.{load_at, load_more}
use Rattle.lis_load.proofs.Settling.{Next, loaded_then, quiet_next, past_start}

module _ (start : Situation) (first : List Item) (item : Item) where
  abbrev all : List Item
  all = first ++ item ∷ []

  abbrev last : Situation
  last = after_by step start first

  abbrev outcome : Outcome
  outcome = step last item

  one_more : length all ≡ length first + 1
  one_more = length-append first (item ∷ [])

  out_front : (count : ℕ) → count ≤ length first → out step start all count ≡ out step start first count
  out_front count le = ap (replies_by step start) (take-append-le count first (item ∷ []) le)

  before_item : state_after step start all (length first) ≡ last.state
  before_item = state_front step start first (item ∷ []) (length first) (omega arith) ∙ state_whole step start first

  behind_item : state_after step start all (length all) ≡ outcome.next.state
  behind_item = state_whole step start all ∙ ap (λ (s : Situation). s.state) (last_situation step start first item)

  module _ {before : Option (List ℕ)} {now : Loader} {mid : Meaning} (waits : Waits start first before now mid) (room : length now.held.items < lag) where
    whole_first : waits.whole ≤ length first
    whole_first = omega (arith, waits.behind, waits.within)

    shown_front : mid.shown ≡ append_known before (out step start all waits.whole)
    shown_front = waits.shown ∙ ap (append_known before) (sym (out_front waits.whole whole_first))

    -- ---- moments
    at_count : (count : ℕ) (image : List ℕ) → waits.whole ≤ count → count ≤ length first + 1 → Stands image (state_after step start all count) → LoadMoment start all image (out step start all waits.whole)
    at_count count image behind within stands = load_at start all waits.whole count image behind (omega (arith, within, waits.counted, room)) (omega (arith, within, one_more)) stands

    held_moment : (image : List ℕ) → (Stands image (state_after step start first waits.base) ⊎ Stands image last.state) ⊎ Stands image outcome.next.state → LoadMoment start all image (out step start all waits.whole)
    held_moment image (inl (inl base)) =
        at_count waits.base image waits.behind (omega (arith, waits.within)) (subst (λ s. Stands image s) (sym (state_front step start first (item ∷ []) waits.base waits.within)) base)
    held_moment image (inl (inr here)) = at_count (length first) image whole_first (omega arith) (subst (λ s. Stands image s) (sym before_item) here)
    held_moment image (inr made) = at_count (length all) image (omega (arith, one_more, whole_first)) (omega (arith, one_more)) (subst (λ s. Stands image s) (sym behind_item) made)

    held_next : (next : Loader) (m : Meaning) {result : Result (Unit {0}) ChangeFault} (end : Type 0) → Holds (state_after step start first waits.base) last outcome next.session.store mid m result → end → Next start all before mid m end
    held_next next m end holds is = record {
      moments = quiet_next start all before waits.whole shown_front held_moment holds.moments;
      past = past_start start first waits.base mid m holds.past;
      ended = is;
    }

    -- ---- what waits then
    module _ (next : Loader) (m : Meaning) (refused : Option Refusal) (said : outcome.reply ≡ answer refused) (stays : outcome.next.place ≡ last.place) (held : next.held.items ≡ now.held.items ++ refused ∷ [])
        (place : next.session.place ≡ now.session.place) (shown : m.shown ≡ mid.shown) where
      more_held : length next.held.items ≡ length now.held.items + 1
      more_held = ap length held ∙ length-append now.held.items (refused ∷ [])

      answers_more : replies_by step start all ≡ out step start all waits.whole ++ flat_map answer next.held.items
      answers_more =
          let so_far = flat_map answer now.held.items in
          last_reply step start first item ∙ ap (λ xs. xs ++ outcome.reply) waits.answers ∙ append_assoc (out step start first waits.whole) so_far outcome.reply
          ∙ ap (λ xs. out step start first waits.whole ++ (so_far ++ xs)) (said ∙ sym (append-nil (answer refused)))
          ∙ ap (λ xs. out step start first waits.whole ++ xs) (sym (flat_map-append answer now.held.items (refused ∷ [])))
          ∙ ap (λ xs. out step start first waits.whole ++ flat_map answer xs) (sym held)
          ∙ ap (λ xs. xs ++ flat_map answer next.held.items) (sym (out_front waits.whole whole_first))

      based_at : (base : ℕ) → waits.whole ≤ base → base ≤ length all → StoreHolds next.session.store m (state_after step start all base) outcome.next.state → Waits start all before next m
      based_at base behind within holds = record {
        whole = waits.whole;
        base = base;
        counted = omega (arith, one_more, more_held, waits.counted);
        few = omega (arith, more_held, room);
        behind = behind;
        within = within;
        shown = shown ∙ shown_front;
        answers = answers_more;
        holds = subst (λ (s : Situation). StoreHolds next.session.store m (state_after step start all base) s.state) (sym (last_situation step start first item)) holds;
        at = place ∙ waits.at ∙ sym stays ∙ ap (λ (s : Situation). s.place) (sym (last_situation step start first item));
      }

      waits_more : StoreHolds next.session.store m (state_after step start first waits.base) outcome.next.state ⊎ StoreHolds next.session.store m outcome.next.state outcome.next.state → Waits start all before next m
      waits_more (inl holds) =
          based_at waits.base waits.behind (omega (arith, one_more, waits.within))
          (subst (λ s. StoreHolds next.session.store m s outcome.next.state) (sym (state_front step start first (item ∷ []) waits.base waits.within)) holds)
      waits_more (inr holds) =
          based_at (length all) (omega (arith, one_more, whole_first)) (omega arith) (subst (λ s. StoreHolds next.session.store m s outcome.next.state) (sym behind_item) holds)

-- ---- a change
module _ {start now : Loader} (next : Loader) {entry mid : Meaning} (m : Meaning) {first : List Item} (loaded : HasLoaded start entry first now mid (Ok tt)) (room : length now.held.items < lag)
    (command : Command) (payload : Payload) (changes : is_change command ≡ true) (place : next.session.place ≡ now.session.place) where
  abbrev Held : Result (Unit {0}) ChangeFault → Type 0
  Held result = MakesHeld (λ at. done at command payload) now.session.place now.session.store next.session.store mid m result

  module _ (from : Situation) (waits : Waits from first entry.shown now mid) where
    abbrev before_it : Situation
    before_it = after_by step from first

    abbrev base : State
    base = state_after step from first waits.base

    stays : (step before_it (Do command payload)).next.place ≡ before_it.place
    unfolding step
    stays = change_stays before_it command payload changes

    holds_so : (result : Result (Unit {0}) ChangeFault) → Held result → Holds base before_it (step before_it (Do command payload)) next.session.store mid m result
    unfolding step
    holds_so result makes =
        subst (λ p. Holds base (record { state = before_it.state; place = p }) (done (record { state = before_it.state; place = p }) command payload) next.session.store mid m result) waits.at
        (makes base before_it.state waits.holds)

    waits_so : (refused : Option Refusal) → (step before_it (Do command payload)).reply ≡ answer refused → next.held.items ≡ now.held.items ++ refused ∷ [] → m.shown ≡ mid.shown
        → StoreHolds next.session.store m base (step before_it (Do command payload)).next.state ⊎ StoreHolds next.session.store m (step before_it (Do command payload)).next.state (step before_it (Do command payload)).next.state
        → Waits from (first ++ Do command payload ∷ []) entry.shown next m
    waits_so refused said held shown holds = waits_more from first (Do command payload) waits room next m refused said stays held place shown holds

  pub held_made : {u : Unit {0}} → next.held.items ≡ now.held.items ++ None ∷ [] → SessionKeeps now.session mid next.session m (Ok tt) → Held (Ok u) → HasLoaded start entry (first ++ Do command payload ∷ []) next m (Ok tt)
  held_made {u} held keeps makes = loaded_then (λ from. load_more from first (Do command payload ∷ [])) loaded keeps (λ from waits.
      let one = holds_so from waits (Ok u) makes in
      held_next from first (Do command payload) waits room next m _ one (waits_so from waits None one.ended.0 held one.moments.run.shown one.ended.1))

  pub held_refused : {refusal : Refusal} → next.held.items ≡ now.held.items ++ Some refusal ∷ [] → SessionKeeps now.session mid next.session m (Ok tt) → Held (Err (Refused refusal))
      → HasLoaded start entry (first ++ Do command payload ∷ []) next m (Ok tt)
  held_refused {refusal} held keeps makes = loaded_then (λ from. load_more from first (Do command payload ∷ [])) loaded keeps (λ from waits.
      let one = holds_so from waits (Err (Refused refusal)) makes in
      let stood = subst (λ (o : Outcome). StoreHolds next.session.store m (base from waits) o.next.state) (sym one.ended.0) one.ended.1 in
      held_next from first (Do command payload) waits room next m _ one
      (waits_so from waits (Some refusal) (ap (λ (o : Outcome). o.reply) one.ended.0) held one.moments.run.shown (inl stood)))

  pub held_broke : SessionKeeps now.session mid next.session m (Err DiskFault) → Held (Err Disk) → HasLoaded start entry (first ++ Do command payload ∷ []) next m (Err DiskFault)
  held_broke keeps makes = loaded_then (λ from. load_more from first (Do command payload ∷ [])) loaded keeps (λ from waits.
      held_next from first (Do command payload) waits room next m _ (holds_so from waits (Err Disk) makes) tt)
