-- What is kept of a reply that is not shown.
use Rattle.std.proofs.Common.{◌≡◌, ◌⊎◌, ℕ, ◌+◌, ◌≤◌, ◌==◌, Bool, true, false, not, List, [], ◌∷◌, ◌++◌, length, map, filter, drop, Some, Result, Ok, Err, refl, ap, ap₂, sym, subst, inl, inr, ◌∙◌, length-append, length-drop, arith}
use Rattle.std.specs.List.{flat_map}
use Rattle.std.specs.Result.{is_err}
use Rattle.std.specs.Io.KnownBytes.{append_known}
use Rattle.std.proofs.lemmas.List.{length-map}
use Rattle.lis_graph.proofs.Filters.{filter_le}
use Rattle.lis_ports.specs.Meaning.{Meaning}
use Rattle.lis_ports.specs.declared.disk.Failed.{Failed}
use Rattle.lis_ports.specs.Runs.{IsDiskRun, Leaves}
use Rattle.lis_ports.proofs.Moments.{adds_weaken, leaves_none}
use Rattle.lis_reply.proofs.Showing.{append_known-nil}
use Rattle.lis_grammar.specs.Formula.{Formula}
use Rattle.lis_model.specs.declared.refusal.Refusal.{Refusal}
use Rattle.lis_model.specs.declared.refusal.Refusal.TheVariants.{NoFileHere}
use Rattle.lis_model.specs.Replies.{body_line, ok_line, refusal_line, listing_lines}
use Rattle.lis_model.specs.State.{State}
use Rattle.lis_model.specs.Table.{Entry}
use Rattle.lis_model.specs.Step.{Situation, Outcome, shown, shown_here, is_here}
use Rattle.lis_bits.specs.Rows.{Rows, get}
use Rattle.lis_eval.specs.View.{Placed, Seen, IsView}
use Rattle.lis_incr.specs.Lines.{lines_of, words_from, names_from, lines_from}
use Rattle.lis_incr.specs.declared.listing.Line.TheVariants.{Prop, File}
use Rattle.lis_store.specs.declared.change_fault.ChangeFault.{ChangeFault}
use Rattle.lis_store.specs.declared.change_fault.ChangeFault.TheVariants.{Refused, Disk}
use Rattle.lis_store.specs.Stored.{Stored, IsSound, StoreFits}
use Rattle.lis_store.specs.Judging.{is_among}
use Rattle.lis_store.proofs.ToldBy.{told_fits}
use Rattle.lis_store.proofs.StoreSays.{here_told}
use Rattle.lis_store.specs.Changes.{Changes}
use Rattle.lis_store.specs.Stands.{Stands}
use Rattle.lis_session.specs.declared.tally.Tally.{Tally}
use Rattle.lis_session.specs.Item.{InItem, FitsAt}
use Rattle.lis_session.specs.Tally.{is_refusal, quiet, Tallied, Concluded}
use Rattle.lis_laws.proofs.Regular.{shown_if_here, refused_nowhere}
use Rattle.lis_session.specs.Parts.{answer_of}
use Rattle.lis_session.proofs.Answering.{changed_item}
use Rattle.lis_session.proofs.Saying.{quiet_done}

abbrev pub tally_with : Bool → ℕ → Tally
tally_with refused listed = record { refused = refused; listed = listed }

-- what a change of the store gives
module _ {k : Stored} {old new : Meaning} {now : Situation} {outcome : Outcome} {lines : ℕ} (stays : outcome.next.place ≡ now.place) (none : lines ≡ 0) (sound : IsSound k) where
  pub tallied_change : {result : Result Tally Failed} (changed : Result (Unit {0}) ChangeFault) → Changes now outcome k old new changed → Concluded changed result
      → Tallied now outcome lines old new result (StoreFits k new) now.place
  tallied_change (Ok u) changes is = rw is (record { made = changed_item stays sound (Ok u) changes; tally = ap₂ (λ reply n. tally_with (is_refusal reply) n) (sym changes.ended.0) (sym none) })
  tallied_change (Err (Refused refusal)) changes is =
      rw is (record { made = changed_item stays sound (Err (Refused refusal)) changes; tally = ap₂ (λ (o : Outcome) n. tally_with (is_refusal o.reply) n) (sym changes.ended.0) (sym none) })
  tallied_change (Err Disk) changes is = rw is (record { made = changed_item stays sound (Err Disk) changes; tally = tt })

-- an item that changes no state, and makes no disk call
pub tallied_still : {k : Stored} {m : Meaning} {now : Situation} (outcome : Outcome) (lines : ℕ) (place : List Formula) (reply : List ℕ) (tally : Tally)
    → FitsAt (StoreFits k m) m now.state → outcome ≡ record { next = record { state = now.state; place = place }; reply = reply } → tally ≡ tally_with (is_refusal reply) lines
    → Tallied now outcome lines m m (Ok tally) (StoreFits k m) place
tallied_still {k} {m} {now} outcome lines place reply tally fitting is told = subst (λ (o : Outcome). Tallied now o lines m m (Ok tally) (StoreFits k m) place) (sym is) (record {
  made = quiet_done {next = record { state = now.state; place = place }} (leaves_none m _) (λ n le. refl) fitting refl;
  tally = told;
})

-- ---- bodies of replies
-- lines of one letter, and `ok`
pub no_refusal : (letter : ℕ) (texts : List (List ℕ)) → (letter == 110) ≡ false → is_refusal (flat_map (body_line letter) texts ++ ok_line) ≡ false
no_refusal letter [] other = refl
no_refusal letter (text ∷ texts) other = other

files_no_refusal : (files : List Entry) → is_refusal (flat_map (λ (file : Entry). body_line 102 file.name) files ++ ok_line) ≡ false
files_no_refusal [] = refl
files_no_refusal (file ∷ files) = refl

pub listing_no_refusal : (words : List (List ℕ)) (files : List Entry) → is_refusal (listing_lines words files ++ ok_line) ≡ false
listing_no_refusal [] files = files_no_refusal files
listing_no_refusal (word ∷ words) files = refl

-- `ok`, or a refusal
pub refused_answer : (answer : Result (Unit {0}) Refusal) → is_refusal (answer_of answer) ≡ is_err answer
refused_answer (Ok u) = refl
refused_answer (Err refusal) = refl

-- ---- a file of which something is shown
pub tallied_look : {k : Stored} {m : Meaning} (now : Situation) (name body : List ℕ) → IsSound k → FitsAt (StoreFits k m) m now.state → is_refusal (body ++ ok_line) ≡ false
    → Tallied now (shown_here now name body) 0 m m (Ok (tally_with (not (is_among k.metadata now.place name)) 0)) (StoreFits k m) now.place
tallied_look {k} {m} now name body sound fitting said = by (is_among k.metadata now.place name) (sym (here_told k now.state sound (told_fits k m now.state sound fitting.own) now.place name))
  where
    by : (here : Bool) → is_here now name ≡ here → Tallied now (shown_here now name body) 0 m m (Ok (tally_with (not here) 0)) (StoreFits k m) now.place
    by false is = tallied_still _ 0 now.place (refusal_line NoFileHere) _ fitting (refused_nowhere now name body is) refl
    by true is = tallied_still _ 0 now.place (body ++ ok_line) _ fitting (shown_if_here now name body is) (ap (λ b. tally_with b 0) (sym said))

-- ---- lines
lines_length : (words names : List (List ℕ)) → length (lines_of words names) ≡ length words + length names
lines_length words names =
    length-append (map (λ word. Prop word) words) (map (λ name. File name) names)
    ∙ ap₂ ◌+◌ (length-map words (λ word. Prop word)) (length-map names (λ name. File name))

-- a listing has at most as many lines as there are words and files
pub few_lines : (v : Seen) (marks others : Rows) (word file : ℕ) → IsView v → length (lines_from v marks others word file) ≤ v.limits.props + v.limits.files
few_lines v marks others word file kept =
    let is_word : List ℕ × ℕ → Bool = λ w. get marks 0 w.1 in
    let is_file : Placed → Bool = λ (f : Placed). get others 0 f.slot in
    let words : length (words_from v marks word) ≤ length v.words =
    omega (arith, length-map (filter is_word (drop word v.words)) (λ w. w.0), filter_le is_word (drop word v.words), length-drop word v.words) in
    let files : length (names_from v others file) ≤ length v.files =
    omega (arith, length-map (filter is_file (drop file v.files)) (λ (f : Placed). f.entry.name), filter_le is_file (drop file v.files), length-drop file v.files) in
    omega (arith, lines_length (words_from v marks word) (names_from v others file), words, files, kept.few_words, kept.few_files)

-- ---- as the disk shows it
-- at each moment of a tally
pub tallied_leaves : {old new : Meaning} {before : Situation} {outcome : Outcome} {lines : ℕ} {result : Result Tally Failed} {fits : State → Type 0} {place : List Formula} → IsDiskRun old new
    → Tallied before outcome lines old new result fits place → Leaves old new (λ image. Stands image before.state ⊎ Stands image outcome.next.state)
tallied_leaves {old} {new} {before} {outcome} run tallied = record { run = run; adds = adds_weaken _ tallied.made.moments (λ image bytes since. by image bytes since.0 since.1 since.2) }
  where
    by : (image bytes shown : List ℕ) → append_known old.shown shown ≡ Some bytes → InItem before.state (quiet outcome) image shown → (Stands image before.state ⊎ Stands image outcome.next.state) × (old.shown ≡ Some bytes)
    by image bytes shown told (inl quiet) = (inl quiet.1, sym (append_known-nil old.shown) ∙ ap (append_known old.shown) (sym quiet.0) ∙ told)
    by image bytes [] told (inr front) = (inr front.1, sym (append_known-nil old.shown) ∙ told)
    by image bytes (b ∷ shown) told (inr front) = absurd (cc front.0.is)
