-- What is kept by each task, and by words that request none.
use Rattle.std.proofs.Common.{◌≡◌, ℕ, List, Option, Some, None, refl, subst}
use Rattle.lis_ports.specs.Meaning.{Meaning}
use Rattle.lis_line.specs.declared.carrier.Halt.{Halt}
use Rattle.lis_open.specs.declared.mounting.OpenFault.{OpenFault}
use Rattle.lis_session.specs.declared.end.End.{End}
use Rattle.lis_shell.specs.declared.status.Status.{Status}
use Rattle.lis_shell.specs.declared.status.Status.TheVariants.{Usage}
use Rattle.lis_shell.specs.declared.words.Task.{Task}
use Rattle.lis_shell.specs.declared.words.Task.TheVariants.{Try, Make, Upgrade, OnImage}
use Rattle.lis_shell.specs.Causes.{ByOpening, IsTryStatus}
use Rattle.lis_shell.specs.MakesImage.{MadeImage}
use Rattle.lis_shell.specs.Keeps.{KeptBy, TaskKeeps}

not_usage : (opening : OpenFault → Type 0) (ended : Halt End → Type 0) (status : Status) → ByOpening opening ended status → status ≡ Usage → ⊥
not_usage opening ended status at is = subst (ByOpening opening ended) is at

module _ (words : List (List ℕ)) (untouched unmoved : Type 0) (left left_after : Option (List ℕ)) (old new : Meaning) (status : Status) where
  kept_unasked : (task : Option Task) → KeptBy words task untouched unmoved left left_after old new status → status ≡ Usage → (task ≡ None) × untouched × unmoved
  kept_unasked None kept is = (refl, kept.1, kept.2)
  kept_unasked (Some (Try limits)) kept is = absurd (subst IsTryStatus is kept.only)
  kept_unasked (Some (Make limits)) kept is = absurd (subst (MadeImage limits old new) is kept.0.made)
  kept_unasked (Some (OnImage task)) kept is = absurd (not_usage _ _ status kept.0.only is)
  kept_unasked (Some Upgrade) kept is = absurd (not_usage _ _ status kept.0.image.only is)

module _ {words : List (List ℕ)} {task : Option Task} {untouched unmoved : Type 0} {left left_after : Option (List ℕ)} {old new : Meaning} {status : Status} where
  -- the words are refused only if they request nothing
  pub unasked : TaskKeeps words task untouched unmoved left left_after old new status → status ≡ Usage → (task ≡ None) × untouched × unmoved
  unasked keeps is = kept_unasked words untouched unmoved left left_after old new status task keeps.kept is

  pub kept_by : (one : Option Task) → TaskKeeps words task untouched unmoved left left_after old new status → task ≡ one
      → KeptBy words one untouched unmoved left left_after old new status
  kept_by one keeps is = subst (λ (asked : Option Task). KeptBy words asked untouched unmoved left left_after old new status) is keeps.kept
