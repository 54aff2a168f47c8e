-- What becomes of memory when a file is put into it, instead of another or into a free slot.
use Rattle.std.proofs.Common.{rules}
use Rattle.lis_store.proofs.Common.{◌≡◌, refl, sym, ap, ◌∙◌, subst, ℕ, ◌+◌, ◌<◌, ◌≤◌, ◌==◌, zero, suc, not, Bool, true, List, [], length, map, filter, set, Option, None, Some, is_some, IfSome, IsSome, IsSomeAnd, arith, ne_eqb, not_from_false, length-map, Among, filter_among, Filed, rec_at, Ext, numbers_at, FileRecord, Limits, State, File, blocks_taken, used_blocks, file_added, file_removed, Metadata, IsSaved, block_of, is_marked, marked_count, AreSound, emptied, blocks_told, Tells, filed_at_slot, eq-eqb, map_among, given, filter_drops, Files}
use Rattle.std.proofs.lemmas.List.{set-get_or}
use Rattle.lis_content.proofs.Numbers.{length-given}
use Rattle.lis_store.specs.Drafts.{Draft, with_own, AreOwnWords}
use Rattle.lis_store.specs.Replacing.{MayReplace}
use Rattle.lis_store.specs.ReplacingIn.{AreInForm, MayPut, MayComeIn, MakesRoom, IsVacant, RefilesIn, record_in, file_gone}
use Rattle.lis_store.specs.Contents.{blocks_gone}
use Rattle.lis_store.specs.Changes.{AreEditsFew}
use Rattle.lis_store.proofs.Differing.{none_rising}
use Rattle.lis_store.proofs.Fitting.{most_own}
use Rattle.lis_store.proofs.Housed.{IsHoused, housed_given}
use Rattle.lis_store.proofs.Unfiled.{left_is, coming, tells_without}
use Rattle.lis_store.proofs.PutIn.{may_come, none_has}
use Rattle.lis_store.proofs.Retaken.{retaken, sound_retaken}
use Rattle.lis_store.proofs.Settled.{end_is, limits_same, form_end}
use Rattle.lis_store.proofs.SettledMarks.{saved_settled, few_settled, few_again, marked_settled, edits_settled}
use Rattle.lis_store.proofs.SettledTells.{tells_settled}
use Rattle.lis_store.proofs.Vacated.{rec_there}

-- ---- room for a file
-- a list of all numbers below n has at least n elements
covers : (n : ℕ) (xs : List ℕ) → ((k : ℕ) → k < n → Among xs k) → n ≤ length xs
covers zero xs all = omega arith
covers (suc n) xs all =
    let keep : ℕ → Bool = λ x. not (x == n) in
    let fewer = filter_drops keep xs n (all n (omega arith)) (ap not (eq-eqb n n refl)) in
    let rest = covers n (filter keep xs) (λ k lt. filter_among keep xs k (all k (omega (arith, lt))) (not_from_false (k == n) (ne_eqb k n (λ same. omega (arith, lt, same))))) in
    omega (arith, fewer, rest)

-- if each slot has a file there is no room
pub all_filed : (k : Metadata) → AreSound k → ((slot : ℕ) → slot < k.limits.files → is_some (rec_at k.catalog slot) ≡ true) → k.limits.files ≤ length k.catalog.entries
all_filed k sound each =
    let slots : List ℕ = map (λ (f : Filed). f.slot) k.catalog.entries in
    omega (
      arith,
      length-map k.catalog.entries (λ (f : Filed). f.slot),
      covers k.limits.files slots (λ slot lt.
          let found = rec_there (rec_at k.catalog slot) (each slot lt) in
          map_among (λ (f : Filed). f.slot) k.catalog.entries (record { slot = slot; rec = found.0 }) (filed_at_slot k.catalog sound.catalog slot found.0 found.1)),
    )

-- a slot without a file is not described
emptied_is : (p : Metadata) (slot : ℕ) → AreInForm p → rec_at p.catalog slot ≡ None → emptied p slot ≡ p
emptied_is p slot form none =
    let same : set p.ext.sets slot [] ≡ p.ext.sets = ap (set p.ext.sets slot) (sym (none_has (numbers_at p.ext slot) (form.free slot none))) ∙ set-get_or p.ext.sets slot [] in
    ap (λ ss. record p { ext = record p.ext { sets = ss } }) same

pub vacant_free : (p : Metadata) (slot : ℕ) → AreInForm p → slot < p.limits.files → rec_at p.catalog slot ≡ None → length p.catalog.entries < p.limits.files → IsVacant slot [] p
vacant_free p slot form below none spare = record {
  below = below;
  spare = spare;
  free = none;
  was = none_has (numbers_at p.ext slot) (form.free slot none);
  rising = none_rising;
  few = omega arith;
  sound = form.sound;
  form = subst (λ (k : Metadata). AreInForm k) (sym (emptied_is p slot form none)) form;
}

pub may_there : (asked : Option ℕ) (p : Metadata) (draft : Draft) → MayPut p asked draft → IfSome asked (λ s. IsSome (rec_at p.catalog s))
may_there asked p draft may = search (rules)

pub may_comes : (asked : Option ℕ) (p v : Metadata) (slot : ℕ) (draft : Draft) → AreInForm p → IfSome asked (λ s. slot ≡ s) → MayPut p asked draft → MakesRoom slot (record_in p asked) p v → MayComeIn v draft
may_comes None p v slot draft form is may same = subst (λ (k : Metadata). MayComeIn k draft) (sym same) (may_come p draft may)
may_comes (Some s) p v slot draft form is may makes = by (rec_at p.catalog s) may makes
  where
    by : (o : Option FileRecord) → IsSomeAnd o (λ (rec : FileRecord). MayReplace p s rec draft) → MakesRoom slot o p v → MayComeIn v draft
    by None may makes = absurd may
    by (Some rec) may makes = coming p v slot rec form makes draft (subst (λ n. MayReplace p n rec draft) (sym is) may)

-- what stays when room is made
record Stays (p v : Metadata) : Type 0 where
  limits : v.limits ≡ p.limits
  axioms : v.axioms ≡ p.axioms
  taken : v.taken ≡ p.taken
  ext : v.ext ≡ p.ext
  saved : (at : ℕ → List ℕ) → IsSaved p at → IsSaved v at
  marked : (block : ℕ) → is_marked p block ≡ true → is_marked v block ≡ true

stays : (gone : Option FileRecord) (slot : ℕ) (p v : Metadata) → MakesRoom slot gone p v → Stays p v
stays gone slot p v same = search (rules)

pub limits_room : (gone : Option FileRecord) (slot : ℕ) (p v : Metadata) → MakesRoom slot gone p v → v.limits ≡ p.limits
limits_room gone slot p v makes = (stays gone slot p v makes).limits

-- ---- memory is well formed
module _ {gone : Option FileRecord} {draft : Draft} {blocks : List ℕ} {p q : Metadata} (r : RefilesIn gone draft blocks p q) where
  abbrev stay : Stays p r.vacated
  stay = stays gone r.slot p r.vacated r.makes

  pub form_refiled : AreInForm q
  form_refiled = subst (λ (k : Metadata). AreInForm k) (sym (end_is r.vacant r.may r.settles)) (form_end r.vacant r.may r.settles)

  pub limits_refiled : q.limits ≡ p.limits
  limits_refiled = limits_same r.vacant r.may r.settles ∙ stay.limits

  pub axioms_refiled : q.axioms ≡ p.axioms
  axioms_refiled = ap (λ (k : Metadata). k.axioms) (end_is r.vacant r.may r.settles) ∙ stay.axioms

  pub saved_refiled : (at : ℕ → List ℕ) → IsSaved p at → IsSaved q at
  saved_refiled at saved = saved_settled r.vacant r.may r.settles at (stay.saved at saved)

  pub marked_refiled : (block : ℕ) → is_marked p block ≡ true → is_marked q block ≡ true
  marked_refiled block is = marked_settled r.vacant r.may r.settles block (stay.marked block is)

  pub edits_refiled : AreEditsFew p.ext q.ext
  edits_refiled = subst (λ (e : Ext). AreEditsFew e q.ext) stay.ext (edits_settled r.vacant r.may r.settles)

-- how many more blocks are marked: 128 words are removed and as many learnt, and the file's slot is described once
pub few_refiled : (gone : Option FileRecord) {draft : Draft} {blocks : List ℕ} {p q : Metadata} → AreInForm p → RefilesIn gone draft blocks p q → marked_count q ≤ marked_count p + 257 + most_own p.limits 256
few_refiled None form r = omega (arith, few_settled r.vacant r.may r.settles, ap (λ (k : Metadata). marked_count k) r.makes, ap (λ (k : Metadata). most_own k.limits 256) r.makes)
few_refiled (Some rec) {draft} {blocks} {p} form r =
    let home = ap (λ (l : Limits). is_marked r.vacated (block_of l Files r.slot)) (stays (Some rec) r.slot p r.vacated r.makes).limits ∙ r.makes.slot_marked in
    omega (arith, few_again r.vacant r.may r.settles home, r.makes.marks.few, form.short r.slot, ap (λ (k : Metadata). most_own k.limits 256) r.makes.metadata)

-- ---- the state that it represents
-- memory represents the same, whatever is marked
tells_marked : {o : Metadata} {at : ℕ → List ℕ} {s : State} (marks : List Bool) → Tells o at s → Tells (record o { marks = marks }) at s
tells_marked marks tells = search (rules)

-- Memory represented s, whatever blocks are taken now, and a file is removed, if there is one.
tells_room : (gone : Option FileRecord) (o : Metadata) (taken marks : List Bool) (v : Metadata) (slot : ℕ) → AreInForm (retaken o taken marks) → MakesRoom slot gone (retaken o taken marks) v → rec_at v.catalog slot ≡ None → AreSound o
    → {at : ℕ → List ℕ} {s : State} → Tells o at s → Tells (record (emptied v slot) { taken = given o.taken (blocks_gone o.limits at gone) }) at (file_gone s gone)
tells_room None o taken marks v slot form same free sound {at} {s} tells =
    let T : Metadata → Type 0 = λ k. Tells (record k { taken = o.taken }) at s in
    let none = ap (λ (k : Metadata). rec_at k.catalog slot) (sym same) ∙ free in
    subst T (sym (ap (λ (k : Metadata). emptied k slot) same ∙ emptied_is (retaken o taken marks) slot form none)) (tells_marked marks tells)
tells_room (Some rec) o taken marks v slot form makes free sound {at} {s} tells =
    let T : Metadata → Type 0 = λ k. Tells (record (emptied k slot) { taken = given o.taken (blocks_told o.limits at rec) }) at (file_removed s rec.name) in
    subst T (sym (left_is (retaken o taken marks) v slot rec form makes)) (tells_without o taken marks v slot rec form makes sound at s tells (emptied o slot).ext refl v.marks)

-- Then blocks hold the bytes of the file that is put in.
pub tells_refiled : (file : File) (own : List (List ℕ)) {gone : Option FileRecord} {blocks : List ℕ} {q : Metadata} (o : Metadata) (taken marks : List Bool) → AreInForm (retaken o taken marks)
    → RefilesIn gone (with_own file own) blocks (retaken o taken marks) q
    → AreSound o → {at there : ℕ → List ℕ} {s : State} → Tells o at s → AreOwnWords (file_gone s gone).declared (file_gone s gone).axioms own file → {held : List ℕ} → IsHoused o.limits o.taken taken (blocks_gone o.limits at gone) held file.bytes blocks at there
    → used_blocks (file_gone s gone) + blocks_taken (file_gone s gone).limits.version (length file.bytes) ≤ (file_gone s gone).limits.blocks → Tells q there (file_added (file_gone s gone) file)
tells_refiled file own {gone} {blocks} o taken marks form r sound {at} {there} tells are_own {held} housed room =
    let v = r.vacated in
    let was = given o.taken (blocks_gone o.limits at gone) in
    let stay = stays gone r.slot (retaken o taken marks) v r.makes in
    let H : Limits → List Bool → Type 0 = λ limits ts. IsHoused limits was ts [] held file.bytes blocks at there in
    let as_many : length was ≡ length v.taken =
    omega (arith, length-given o.taken (blocks_gone o.limits at gone), sound.blocks, r.vacant.sound.blocks, ap (λ (l : Limits). l.blocks) stay.limits) in
    tells_settled file own r.vacant r.may r.settles was (sound_retaken (emptied v r.slot) was v.marks r.vacant.form.sound as_many refl)
    (tells_room gone o taken marks v r.slot form r.makes r.vacant.free sound tells) are_own
    (subst (λ l. H l v.taken) (sym stay.limits) (subst (λ ts. H o.limits ts) (sym stay.taken) (housed_given housed))) room
