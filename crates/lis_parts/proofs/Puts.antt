-- What an edited view makes of a file, after the file is read.
use Rattle.std.proofs.Common.{◌≡◌, ℕ, not, is_some, List, [], ◌∷◌, Option, Some, None, Result, Ok, Err, refl, ap, sym, subst, ◌∙◌, inl}
use Rattle.std.specs.Io.KnownBytes.{append_known}
use Rattle.lis_ports.specs.Meaning.{Meaning}
use Rattle.lis_ports.specs.Runs.{Leaves}
use Rattle.lis_ports.specs.Calls.{IsUnchanged}
use Rattle.lis_ports.proofs.Moments.{adds_then, leaves_weaken}
use Rattle.lis_reply.proofs.Showing.{append_known-nil}
use Rattle.lis_grammar.specs.Formula.{Formula}
use Rattle.lis_catalog.specs.Catalog.{slot_of}
use Rattle.lis_model.specs.declared.refusal.Refusal.{Refusal}
use Rattle.lis_model.specs.declared.refusal.Refusal.TheVariants.{NoFileHere}
use Rattle.lis_model.specs.Changes.{has_name}
use Rattle.lis_model.specs.Image.{image_blocks}
use Rattle.lis_model.specs.State.{State}
use Rattle.lis_model.specs.Step.{SituationOf, OutcomeOf, Outcome, Payload, refused, judged, write}
use Rattle.lis_laws.proofs.Regular.{write_stays}
use Rattle.lis_eval.specs.View as seen
use Rattle.lis_store.specs.Seen.{seen_of}
use Rattle.lis_store.proofs.StoreSays.{name_filed}
use Rattle.lis_store.proofs.FilesHere.{slot_seen}
use Rattle.lis_store.specs.Stored.{Stored, IsSound, StoreFits}
use Rattle.lis_store.specs.Changes.{Changes}
use Rattle.lis_store.specs.declared.change_fault.ChangeFault.{ChangeFault}
use Rattle.lis_views.specs.Edits.{Back}
use Rattle.lis_views.specs.Edits.Back.{NotAView, WrongMarks, Content}
use Rattle.lis_cuts.specs.Returns.{Returns, Holds}
use Rattle.lis_cuts.specs.declared.back.Returned.{Returned}
use Rattle.lis_cuts.specs.declared.back.Returned.TheVariants.{NotInForm, OtherMarks, Whole}
use Rattle.lis_session.specs.declared.end.End.{End}
use Rattle.lis_session.specs.declared.end.End.TheVariants.{DiskFault, OutputFault}
use Rattle.lis_session.specs.Session.{root_of}
use Rattle.lis_session.specs.Item.{FitsAt, Replied, ItemEnded, OneItem}
use Rattle.lis_session.specs.Parts.{Answers, Concludes}
use Rattle.lis_session.proofs.Answering.{change_item}
use Rattle.lis_session.proofs.Moments.{adds_later}
use Rattle.lis_session.proofs.Saying.{quiet_broke, unchanged_past, shows_item}
use Rattle.lis_parts.specs.Commands.{done_of, not_a_view_line, marks_line, put_as}

-- ---- an item after a read
module _ {P : Type 0} {k : Stored} {now : SituationOf P} {old mid : Meaning} (outcome : OutcomeOf P) (fitting : FitsAt (StoreFits k old) old now.state) (read : Leaves old mid old.images) (same : IsUnchanged old mid) where
  -- the file could not be read
  pub read_broke : (fits : State → Type 0) (place : P) → OneItem now outcome old mid (Err DiskFault) fits place
  read_broke fits place =
      quiet_broke {next = outcome.next} (leaves_weaken _ read (λ image is. inl (fitting.stands.leaves image is))) (unchanged_past same (image_blocks now.state.limits)) outcome.reply fits place

  -- it was read
  pub read_then : {new : Meaning} {result : Result (Unit {0}) End} {fits : State → Type 0} {place : P} → OneItem now outcome mid new result fits place → OneItem now outcome old new result fits place
  read_then {new} {result} {fits} {place} item = record {
    moments = adds_then (read_broke fits place).moments (adds_later old.shown [] (read.run.shown ∙ sym (append_known-nil old.shown)) (λ image shown in_item. in_item) item.moments);
    past = λ n le. item.past n le ∙ unchanged_past same (image_blocks now.state.limits) n le;
    ended = ends result item.ended;
  }
    where
      replied : (reply : List ℕ) → Replied outcome.next mid new fits place reply → Replied outcome.next old new fits place reply
      replied reply after = record { shown = after.shown ∙ ap (λ known. append_known known reply) read.run.shown; fitting = after.fitting; at = after.at }

      ends : (result : Result (Unit {0}) End) → ItemEnded outcome mid new fits place result → ItemEnded outcome old new fits place result
      ends (Ok u) ended = replied outcome.reply ended
      ends (Err DiskFault) ended = tt
      ends (Err OutputFault) ended = (ended.0, ended.1, replied ended.0 ended.2)

-- ---- what was returned
pub told_not_a_view : (payload : Payload) (back : Back) → Returns back NotInForm payload → back ≡ NotAView
told_not_a_view payload NotAView is = refl
told_not_a_view payload WrongMarks is = absurd (let no : ◌≡◌ {A = Returned} NotInForm OtherMarks = is in cc)
told_not_a_view payload (Content bytes) is = absurd (let no : ◌≡◌ {A = Returned} NotInForm Whole = is.0 in cc)

pub told_wrong_marks : (payload : Payload) (back : Back) → Returns back OtherMarks payload → back ≡ WrongMarks
told_wrong_marks payload NotAView is = absurd (let no : ◌≡◌ {A = Returned} OtherMarks NotInForm = is in cc)
told_wrong_marks payload WrongMarks is = refl
told_wrong_marks payload (Content bytes) is = absurd (let no : ◌≡◌ {A = Returned} OtherMarks Whole = is.0 in cc)

pub told_content : (payload : Payload) (back : Back) → Returns back Whole payload → (bytes : List ℕ) × (back ≡ Content bytes) × Holds payload bytes
told_content payload NotAView is = absurd (let no : ◌≡◌ {A = Returned} Whole NotInForm = is in cc)
told_content payload WrongMarks is = absurd (let no : ◌≡◌ {A = Returned} Whole OtherMarks = is in cc)
told_content payload (Content bytes) is = (bytes, refl, is.1)

-- ---- what is made of it
module _ {k : Stored} {old : Meaning} {state : State} (name : List ℕ) (payload : Payload) (back : Back) (fitting : FitsAt (StoreFits k old) old state) where
  abbrev pub PutAs : Meaning → Result (Unit {0}) End → Stored → Type 0
  PutAs new result after = OneItem (root_of state) (put_as (root_of state) name back) old new result (StoreFits after new) []

  pub puts_not_a_view : {new : Meaning} {result : Result (Unit {0}) End} → Returns back NotInForm payload → Answers old new not_a_view_line result → PutAs new result k
  puts_not_a_view returns answers =
      shows_item (put_as (root_of state) name back) [] fitting answers (ap (put_as (root_of state) name) (told_not_a_view payload back returns))

  pub puts_wrong_marks : {new : Meaning} {result : Result (Unit {0}) End} → Returns back OtherMarks payload → Answers old new marks_line result → PutAs new result k
  puts_wrong_marks returns answers =
      shows_item (put_as (root_of state) name back) [] fitting answers (ap (put_as (root_of state) name) (told_wrong_marks payload back returns))

  -- the new bytes are written at the root
  pub puts_content : {D : Type 0} {after : Stored} {result : Result (Unit {0}) End} (meaning : D → Meaning) (mid new : D) (written : Result (Unit {0}) ChangeFault) → Returns back Whole payload → IsSound after
      → Changes (root_of state) (write (root_of state) name payload) after old (meaning mid) written → Concludes meaning mid new written result → PutAs (meaning new) result after
  puts_content {after = after} {result} meaning mid new written returns sound changes concludes =
      let told = told_content payload back returns in
      let is : put_as (root_of state) name back ≡ write (root_of state) name payload = ap (put_as (root_of state) name) told.1 ∙ ap (write (root_of state) name) (sym told.2) in
      subst (λ (o : Outcome). OneItem (root_of state) o old (meaning new) result (StoreFits after (meaning new)) []) (sym is)
      (change_item (write_stays (root_of state) name payload) sound meaning mid new written changes concludes)

-- ---- a file, by whether the state has it
abbrev pub FindsSlot : Stored → List ℕ → Option ℕ → Type 0
FindsSlot k name slot = seen.slot_of (seen_of k.metadata) name ≡ slot

pub slot_named : (k : Stored) (name : List ℕ) (slot : Option ℕ) → FindsSlot k name slot → slot_of k.metadata.catalog name ≡ slot
slot_named k name slot is = sym (slot_seen k.metadata name k.metadata.catalog.entries) ∙ is

module _ (state : State) (name : List ℕ) (formula : Result (List Formula) Refusal) (done : List Formula → Outcome) where
  abbrev pub Done : Outcome
  Done = done_of (root_of state) name formula done

  pub done_refused : {refusal : Refusal} → formula ≡ Err refusal → Done ≡ refused (root_of state) refusal
  done_refused is = ap (λ f. done_of (root_of state) name f done) is

  module _ {k : Stored} {m : Meaning} {place : List Formula} (is : formula ≡ Ok place) (sound : IsSound k) (fits : StoreFits k m state) where
    judged_by : (slot : Option ℕ) → FindsSlot k name slot → Done ≡ judged (root_of state) ((not (is_some slot), NoFileHere) ∷ []) (done place)
    judged_by slot found =
        let has : has_name state.files name ≡ is_some slot = name_filed k.metadata fits.kept state sound.metadata sound.free fits.tells name ∙ ap is_some (slot_named k name slot found) in
        ap (λ f. done_of (root_of state) name f done) is ∙ ap (λ t. judged (root_of state) ((not t, NoFileHere) ∷ []) (done place)) has

    pub done_nowhere : FindsSlot k name None → Done ≡ refused (root_of state) NoFileHere
    done_nowhere none = judged_by None none

    pub done_here : (slot : ℕ) → FindsSlot k name (Some slot) → Done ≡ done place
    done_here slot found = judged_by (Some slot) found
