-- What a journal that fits a disk says of the images that the disk may leave.
use Rattle.std.proofs.Common.{◌≡◌, inl, inr, ℕ, ◌*◌, ◌<◌, ◌≤◌, ◌==◌, nat_lt, ◌||◌, Bool, true, false, cond, List, [], ◌∷◌, ◌++◌, length, Option, Some, None, is_some, IfSome, IsTrue, refl, sym, ◌∙◌, ap, subst, arith}
use Rattle.std.specs.List.{list_all}
use Rattle.std.proofs.lemmas.Bool.{and_parts, ltb-true, eqb-true, ne_eqb, cond-false, false≢true}
use Rattle.std.proofs.lemmas.List.Folds.{list_any-append}
use Rattle.lis_ports.specs.Meaning.{Meaning}
use Rattle.lis_ports.specs.Runs.{IsDiskRun, Always, IsSettled}
use Rattle.lis_ports.specs.Calls.{IsUnchanged}
use Rattle.lis_ports.proofs.Always.{always_settled}
use Rattle.lis_ports.proofs.Parts.{length-part}
use Rattle.lis_journal.specs.declared.layout.Layout.{Layout}
use Rattle.lis_journal.specs.Record.{homes_start, block, has_open, HomeBlock, first_bad, all_recorded, apply, bad_record, replayed, open_count}
use Rattle.lis_journal.specs.Journal.{Held, OpenRecords, no_records}
use Rattle.lis_journal.specs.Images.{IsOutside, StandsFor, StandsBut, is_among, look, held_in, IsAtRest, FitsAt, Fits, KeepsPast, with_placed}
use Rattle.lis_journal.specs.Spreads.{Spreads, SamePast}
use Rattle.lis_journal.specs.Staging.{has_entry}
use Rattle.lis_journal.proofs.Entries.{AtHome, block-apply, length-look, look-past, look-absent, neither}
use Rattle.lis_journal.proofs.Series.{all_sound}
use Rattle.lis_journal.proofs.Gates.{all_closed}
use Rattle.lis_journal.proofs.Holding.{fits_placed}
use Rattle.lis_journal.proofs.Phases.{full, rest_stands, stands_full, shut_rest, replayed-closed as replayed-shut}

-- a block that is kept has 4,096 bytes
pub kept_whole : (journal : Held) {m : Meaning} {kept : ℕ → List ℕ} → Fits journal m kept → (n : ℕ) → IsOutside journal.layout n → n < journal.layout.blocks → length (kept n) ≡ 4096
kept_whole journal {m} {kept} fits n out lt =
    let holds = fits.reads.holds in
    let es = all_recorded 2 journal.records.count m.bytes in
    let sound = all_sound journal.layout 2 journal.records.count m.bytes (full holds) holds.form in
    let len = length-part (4096 * n) 4096 m.bytes (omega (arith, lt, holds.long)) in
    ap length (sym (holds.latest n (block n m.bytes) ∙ holds.same n out refl)) ∙ length-look journal.layout.blocks es n (block n m.bytes) sound.within len

-- Each image, and the bytes as they read, represent what is kept, except for the placed blocks.
pub fits_but : (journal : Held) {m : Meaning} {kept : ℕ → List ℕ} → Fits journal m kept → (image : List ℕ) → m.images image → StandsBut journal.layout journal.placed kept image
fits_but journal {kept = kept} fits image is = rest_stands journal.layout journal.records journal.placed kept image (fits.leaves image is)

-- With nothing placed, each image, and the bytes as they read, represent what is kept.
pub fits_stand : (journal : Held) {m : Meaning} {kept : ℕ → List ℕ} → journal.placed ≡ [] → Fits journal m kept → Always m (StandsFor journal.layout kept)
fits_stand journal {m} {kept} none fits = record {
  reads = stands_full journal.layout kept m.bytes (rest_stands journal.layout journal.records [] kept m.bytes fits.reads);
  leaves = λ image is. stands_full journal.layout kept image (subst (λ placed. StandsBut journal.layout placed kept image) none (fits_but journal fits image is));
}

-- a block as it reads, with its latest content in the open records over it, is what is kept of it
pub fits_reads : (journal : Held) {m : Meaning} {kept : ℕ → List ℕ} → Fits journal m kept → (n : ℕ) → IsOutside journal.layout n → look journal.records.latest n (block n m.bytes) ≡ kept n
fits_reads journal fits n out = fits.reads.holds.same n out refl

-- what a block has is what is kept of it, with what is staged over it
pub fits_held : (journal : Held) {m : Meaning} {kept : ℕ → List ℕ} → Fits journal m kept → (n : ℕ) → IsOutside journal.layout n → held_in journal m.bytes n ≡ look journal.staged n (kept n)
fits_held journal fits n out = ap (look journal.staged n) (fits_reads journal fits n out)

-- over a call that changes nothing the journal fits as before
pub fits_unchanged : (journal : Held) {a b : Meaning} {kept : ℕ → List ℕ} → IsDiskRun a b → IsUnchanged a b → Fits journal a kept → Fits journal b kept
fits_unchanged journal {kept = kept} run same fits = record {
  honest = run.honest ∙ fits.honest;
  reads = subst (IsAtRest journal.layout journal.records [] kept) (sym same.bytes) fits.reads;
  leaves = λ image is. fits.leaves image (same.images.only image is);
}

-- A settled image with all gates closed is kept as it is.
pub settled_fits : {m : Meaning} (journal : Held) (bytes : List ℕ) → journal.records ≡ no_records → IsTrue m.is_honest → IsSettled m bytes → homes_start journal.layout < journal.layout.blocks → 4096 * journal.layout.blocks ≤ length bytes → has_open bytes ≡ false → Fits journal m (λ n. block n bytes)
settled_fits {m} journal bytes none honest settled enough long closed =
    let gate = all_closed bytes closed in
    let rest = shut_rest journal.layout (λ n. block n bytes) bytes enough (record { long = long; same = λ n out. refl }) (λ k lt. gate k) in
    let at = always_settled (IsAtRest journal.layout no_records [] (λ n. block n bytes)) bytes settled rest in
    subst (λ (records : OpenRecords). FitsAt journal.layout records journal.placed m (λ n. block n bytes)) (sym none)
    (fits_placed journal.placed (record { honest = honest; reads = at.reads; leaves = at.leaves }))

-- ---- replays
pub replayed_parts : (layout : Layout) (image replay : List ℕ) → replayed layout image ≡ Some replay → (first_bad layout 2 (open_count image) image ≡ None) × (apply (all_recorded 2 (open_count image) image) image ≡ replay)
unfolding replayed bad_record
replayed_parts layout image replay is = by (first_bad layout 2 (open_count image) image) is
  where
    by : (bad : Option ℕ) → cond (is_some bad) None (Some (apply (all_recorded 2 (open_count image) image) image)) ≡ Some replay → (bad ≡ None) × (apply (all_recorded 2 (open_count image) image) image ≡ replay)
    by None e = (refl, cc)
    by (Some b) e = cc

look-front : (start : ℕ) (es : List HomeBlock) (old : List ℕ) → 0 < start → AtHome start es → look es 0 old ≡ old
look-front start [] old some home = refl
look-front start (e ∷ es) old some home =
    let ne : 0 ≡ e.home → ⊥ = λ same. absurd (omega (arith, same, some, home.0)) in
    ap (look es 0) (cond-false (0 == e.home) e.bytes old (ne_eqb 0 e.home ne)) ∙ look-front start es old some home.1

-- with all gates closed the replayed image is the image itself
pub replayed-closed : (layout : Layout) (image : List ℕ) → homes_start layout < layout.blocks → 4096 * layout.blocks ≤ length image → has_open image ≡ false → replayed layout image ≡ Some image
replayed-closed layout image enough long closed = replayed-shut layout image (omega (arith, enough, long)) (all_closed image closed 0)

-- no record has block 0
pub replayed-front : (layout : Layout) (image replay : List ℕ) → homes_start layout < layout.blocks → 4096 * layout.blocks ≤ length image → replayed layout image ≡ Some replay → block 0 replay ≡ block 0 image
replayed-front layout image replay enough long is =
    let parts = replayed_parts layout image replay is in
    let m = open_count image in
    let sound = all_sound layout 2 m image (omega (arith, enough, long)) parts.0 in
    ap (block 0) (sym parts.1)
    ∙ (block-apply layout.blocks (all_recorded 2 m image) image 0 sound.within long ∙ look-front (homes_start layout) (all_recorded 2 m image) (block 0 image) (omega arith) sound.home)

-- ---- what follows the image
placed_within : (blocks n : ℕ) (placed : List ℕ) → IsTrue (list_all (λ m. nat_lt m blocks) placed) → blocks ≤ n → is_among placed n ≡ false
placed_within blocks n [] within le = refl
placed_within blocks n (m ∷ placed) within le =
    let parts = and_parts (nat_lt m blocks) (list_all (λ m. nat_lt m blocks) placed) within in
    let lt = ltb-true m blocks parts.0 in
    let ne : m ≡ n → ⊥ = λ e. absurd (omega (arith, e, lt, le)) in
    ap (λ b. b || is_among placed n) (ne_eqb m n ne) ∙ placed_within blocks n placed parts.1 le

pub past_kept : {layout : Layout} {records : OpenRecords} {placed : List ℕ} {a b : Meaning} {kept : ℕ → List ℕ} → IsTrue (list_all (λ m. nat_lt m layout.blocks) placed) → FitsAt layout records placed a kept → Spreads a b (SamePast layout.blocks) → KeepsPast layout.blocks a b
past_kept {layout} {records} {placed} {a} {b} {kept} within fits spreads n le =
    let out : IsOutside layout n = inr (omega (arith, fits.reads.holds.enough, le)) in
    let was = spreads.reads in
    let at : (others image : List ℕ) → is_among others n ≡ false → IsAtRest layout records others kept image → block n image ≡ kept n =
    λ others image not_in rest.
    let holds = rest.holds in
    let sound = all_sound layout 2 records.count image (full holds) holds.form in
    sym (look-past layout.blocks n (all_recorded 2 records.count image) (block n image) sound.within le)
    ∙ (holds.latest n (block n image) ∙ holds.same n out not_in) in
    let from : block n was.0 ≡ block n a.bytes = elim was.1 as (λ _. block n was.0 ≡ block n a.bytes) [
      | inl image ↦ at placed was.0 (placed_within layout.blocks n placed within le) (fits.leaves was.0 image) ∙ sym (at [] a.bytes refl fits.reads)
      | inr same ↦ ap (block n) same
    ] in
    was.2 n le ∙ from

pub among_more : (placed : List ℕ) (n m : ℕ) → is_among (with_placed placed n) m ≡ false → is_among (n ∷ placed) m ≡ false
among_more placed n m e = by (is_among placed n) (n == m) refl refl e
  where
    by : (old same : Bool) → is_among placed n ≡ old → (n == m) ≡ same → is_among (cond old placed (placed ++ n ∷ [])) m ≡ false → (same || is_among placed m) ≡ false
    by true true is here e = absurd (false≢true (sym e ∙ subst (λ k. is_among placed k ≡ true) (eqb-true n m here) is))
    by true false is here e = e
    by false same is here e =
        let parts = neither (is_among placed m) ((n == m) || false) (sym (list_any-append (λ k. k == m) placed (n ∷ [])) ∙ e) in
        let other = neither (n == m) false parts.1 in
        ap (λ b. b || is_among placed m) (sym here ∙ other.0) ∙ parts.0

-- the same with other names for the layout, the records and the placed blocks
pub fits_told : {layout now : Layout} {records now_records : OpenRecords} {placed now_placed : List ℕ} {m : Meaning} {kept : ℕ → List ℕ} → layout ≡ now → records ≡ now_records → placed ≡ now_placed → FitsAt layout records placed m kept → FitsAt now now_records now_placed m kept
fits_told {now = now} {records = records} {now_records = now_records} {placed = placed} {m = m} {kept = kept} blocks_are records_are placed_are fits =
    subst (λ p. FitsAt now now_records p m kept) placed_are
    (subst (λ (r : OpenRecords). FitsAt now r placed m kept) records_are
    (subst (λ b. FitsAt b records placed m kept) blocks_are fits))

-- what is staged for a block over its latest content
pub content_some : {T : Type 0} (o : Option T) (bytes_of : T → List ℕ) (staged latest : List HomeBlock) (n : ℕ) → has_entry staged n ≡ false → IfSome o (λ x. (old : List ℕ) → look latest n old ≡ bytes_of x) → IfSome o (λ x. (old : List ℕ) → look staged n (look latest n old) ≡ bytes_of x)
content_some None bytes_of staged latest n absent some = tt
content_some (Some x) bytes_of staged latest n absent some = λ old. look-absent staged n (look latest n old) absent ∙ some old

-- a commit with nothing placed leaves nothing placed
pub none_placed : (old new : Held) {A B : Type 0} → old.placed ≡ [] → (old.staged ≡ [] → A × B × (new ≡ old)) → (0 < length old.staged → new.placed ≡ []) → new.placed ≡ []
none_placed old new none idle some = by old.staged refl
  where
    by : (es : List HomeBlock) → old.staged ≡ es → new.placed ≡ []
    by [] is = ap (λ (h : Held). h.placed) (idle is).2 ∙ none
    by (e ∷ es) is = some (omega (arith, ap length is))
