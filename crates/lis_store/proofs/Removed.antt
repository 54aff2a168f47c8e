-- What removing a file gives.
use Rattle.lis_store.proofs.Common.{◌≡◌, refl, sym, ap, ◌∙◌, subst, ℕ, ◌+◌, ◌<◌, ◌≤◌, Bool, List, [], length, set, arith, given, Ext, numbers_at, differs, FileRecord, State, file_removed, Metadata, IsSaved, marked_count, AreSound, blocks_told, Tells, numbers_where}
use Rattle.lis_store.specs.Saving.{IsReady}
use Rattle.lis_store.specs.ReplacingIn.{AreInForm}
use Rattle.lis_store.specs.Removing.{TakesOut}
use Rattle.lis_store.specs.Changes.{AreEditsFew}
use Rattle.lis_store.proofs.Differing.{differ_few, none_rising}
use Rattle.lis_store.proofs.Edits.{edits_at}
use Rattle.lis_store.proofs.Fitting.{most_own, own_few}
use Rattle.lis_store.proofs.Unfiled.{gone, set_gone, form_gone, tells_without}
use Rattle.lis_store.proofs.Vacated.{slot_below}

module _ (slot : ℕ) (rec : FileRecord) (p q : Metadata) (form : AreInForm p) (out : TakesOut slot rec p q) where
  abbrev numbers : List ℕ
  numbers = numbers_at p.ext slot

  abbrev v : Metadata
  v = out.vacated

  pub sets_are : q.ext.sets ≡ set p.ext.sets slot []
  sets_are = out.empties.sets ∙ ap (λ (k : Metadata). set k.ext.sets slot []) out.vacates.metadata

  abbrev end : Metadata
  end = gone p v slot rec form out.vacates q.ext q.marks sets_are

  pub end_is : q ≡ end
  end_is = out.empties.metadata ∙ ap (λ (k : Metadata). record k { ext = q.ext; marks = q.marks }) out.vacates.metadata

  pub form_removed : AreInForm q
  form_removed =
      subst (λ (k : Metadata). AreInForm k) (sym end_is)
      (form_gone p v slot rec form out.vacates q.ext q.marks sets_are (subst (λ (k : Metadata). AreSound k) end_is out.sound))

  -- ---- how much is marked, and how often rows are edited
  ext_is : v.ext ≡ p.ext
  ext_is = ap (λ (k : Metadata). k.ext) out.vacates.metadata

  was : numbers ≡ numbers_at v.ext slot
  was = ap (λ (e : Ext). numbers_at e slot) (sym ext_is)

  pub few_marked : marked_count q ≤ marked_count p + 129 + most_own p.limits 128
  few_marked =
      let one = out.vacates.marks.few in
      let turned : length (numbers_where v.ext.props (differs numbers [])) ≤ 128 = omega (arith, differ_few v.ext.props numbers [] out.vacates.rising none_rising, form.short slot) in
      let two = own_few slot [] v q numbers 128 out.empties was turned in
      omega (arith, one, two, form.short slot, ap (λ (k : Metadata). most_own k.limits 128) out.vacates.metadata)

  pub few_edits : AreEditsFew p.ext q.ext
  few_edits =
      let made = subst (λ (e : Ext). q.ext.edits ≤ e.edits + length (numbers_where e.props (differs numbers []))) ext_is (out.empties.edits numbers was) in
      let slot_in : slot < length p.ext.sets = omega (arith, slot_below p slot rec form out.vacates.there, form.sound.files) in
      let no_fewer = subst (λ (e : Ext). e.edits ≤ q.ext.edits) ext_is out.empties.no_fewer in
      edits_at p.ext q.ext slot numbers [] slot_in refl (set_gone p v slot rec form out.vacates q.ext q.marks sets_are) no_fewer made

-- ---- the state that it represents
-- Memory represented s, and the blocks of the file in the slot are freed before the file is removed.
pub ready_removed : (slot : ℕ) (rec : FileRecord) (o : Metadata) (taken marks : List Bool) (q : Metadata) (form : AreInForm (record o { taken = taken; marks = marks })) (out : TakesOut slot rec (record o { taken = taken; marks = marks }) q)
    → AreSound o → (at : ℕ → List ℕ) (s : State) → Tells o at s → taken ≡ given o.taken (blocks_told o.limits at rec) → IsSaved (record o { taken = taken; marks = marks }) at → IsReady q at (file_removed s rec.name)
ready_removed slot rec o taken marks q form out sound at s tells gave saved =
    let p : Metadata = record o { taken = taken; marks = marks } in
    let without = tells_without o taken marks out.vacated slot rec form out.vacates sound at s tells q.ext (sets_are slot rec p q form out) q.marks in
    let T : List Bool → Type 0 = λ ts. Tells (record (end slot rec p q form out) { taken = ts }) at (file_removed s rec.name) in
    record {
      tells = subst (λ (k : Metadata). Tells k at (file_removed s rec.name)) (sym (end_is slot rec p q form out)) (subst T (sym gave) without);
      saved = (out.empties.marks (numbers_at o.ext slot) (was slot rec p q form out)).saved at (out.vacates.marks.saved at saved);
    }
