-- Well-formed memory with other taken blocks and without marks, and stores over it.
use Rattle.lis_store.proofs.Common.{rules, ◌≡◌, refl, sym, ap, ◌∙◌, ℕ, ◌≤◌, Bool, true, false, Some, List, [], length, replicate, IsTrue, arith, length-replicate, slice_get, Pair, Held, are_whole, data_start, Metadata, AreSound}
use Rattle.lis_kept.specs.Sound.{IsSoundAxiom}
use Rattle.lis_store.specs.Stored.{Stored, PairsAreApart, IsSound}
use Rattle.lis_store.specs.Saving.{clean, settled}
use Rattle.lis_store.specs.ReplacingIn.{AreInForm}
use Rattle.lis_journal.specs.Journal.{shape_of}
use Rattle.lis_kept.specs.Image.{image_shape}
use Rattle.lis_store.specs.declared.saving.TheConstants.{MOST_HELD}

-- ---- with other taken blocks
module _ (p : Metadata) (taken marks : List Bool) where
  abbrev pub retaken : Metadata
  retaken = record p { taken = taken; marks = marks }

  pub form_retaken : AreSound retaken → AreInForm p → AreInForm retaken
  form_retaken sound form = assumption

pub sound_retaken : (o : Metadata) (taken marks : List Bool) → AreSound o → length taken ≡ length o.taken → length marks ≡ length o.marks → AreSound (retaken o taken marks)
sound_retaken o taken marks sound as_many as_long = assumption (axioms, as_many ∙ sound.blocks, long)
  where
    axioms : (slot left right : ℕ) → slice_get o.axioms slot ≡ Some (Pair left right) → IsSoundAxiom (retaken o taken marks) slot left right
    axioms slot left right is = assumption (sound.axioms slot left right is)

    long : data_start o.limits ≤ length marks
    long = omega (arith, sound.marks, as_long)

form_clean : (k : Metadata) → AreInForm k → AreInForm (clean k)
form_clean k form =
    let unset = replicate (length k.marks) false in
    form_retaken k k.taken unset (sound_retaken k k.taken unset form.sound refl (length-replicate (length k.marks) false)) form

-- ---- well-formed stores
pub in_form : (k : Stored) → IsSound k → AreInForm k.metadata
in_form k sound = record { sound = sound.metadata; free = sound.free; closed = sound.closed; short = sound.short; in_use = sound.in_use; tests = sound.tests }

-- a store between calls
pub sound_at : (q : Metadata) (j : Held) (b : Bool) → AreInForm q → PairsAreApart q → shape_of j ≡ image_shape q.limits → j.is_broken ≡ false → length j.staged ≤ MOST_HELD → IsTrue (are_whole j.staged) → j.placed ≡ []
    → q.marks ≡ replicate (length q.marks) false → IsSound (record { metadata = q; journal = j; is_broken = b })
sound_at q j b form pairs image unbroken few whole placed unmarked = assumption

-- and a broken store
pub sound_lost : (q : Metadata) (j : Held) → AreInForm q → PairsAreApart q → shape_of j ≡ image_shape q.limits → IsSound (record { metadata = q; journal = j; is_broken = true })
sound_lost q j form pairs image = search rules

pub settled_sound : (q : Metadata) (j : Held) → AreInForm q → PairsAreApart q → shape_of j ≡ image_shape q.limits → j.is_broken ≡ false → IsSound (settled q j)
settled_sound q j form pairs image unbroken =
    sound_at (clean q) (record j { staged = []; placed = [] }) false (form_clean q form) pairs image unbroken (omega arith) refl refl
    (ap (λ n. replicate n false) (sym (length-replicate (length q.marks) false)))
