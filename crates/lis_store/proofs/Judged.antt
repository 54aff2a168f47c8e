-- Rows of refusals that are judged, and commands that are refused.
use Rattle.lis_store.proofs.Common.{common_steps, rules, ◌≡◌, refl, sym, ap₂, ◌∙◌, subst, Bool, true, false, cond, List, [], ◌∷◌, ◌++◌, Option, Some, None, Result, Ok, Err, same_Some, Meaning, Refusal, Situation, Outcome, refused, State}
use native.Mathlib.Omega.{arith}
use Rattle.lis_ports.proofs.Moments.{leaves_none}
use Rattle.lis_model.specs.Step.{judged, first_refusal}
use Rattle.lis_store.specs.declared.change_fault.ChangeFault.{ChangeFault}
use Rattle.lis_store.specs.declared.change_fault.ChangeFault.TheVariants.{Refused}
use Rattle.lis_store.specs.Stored.{Stored, StoreHolds}
use Rattle.lis_store.specs.Changes.{Holds, Judges}

pub judged_refused : (now : Situation) (checks : List (Bool × Refusal)) (done : Outcome) (refusal : Refusal) → first_refusal checks ≡ Some refusal → judged now checks done ≡ refused now refusal
judged_refused now [] done refusal first = absurd cc
judged_refused now (check ∷ checks) done refusal first = grind (arith, common_steps, same_Some, judged_refused now checks done refusal)

pub judged_done : (now : Situation) (checks : List (Bool × Refusal)) (done : Outcome) → first_refusal checks ≡ None → judged now checks done ≡ done
judged_done now [] done none = refl
judged_done now (check ∷ checks) done none = search (rules, judged_done now checks done)

-- the first check of a row that refuses nothing
pub passed : (b : Bool) (refusal : Refusal) (rest : Option Refusal) → cond b (Some refusal) rest ≡ None → (b ≡ false) × (rest ≡ None)
passed true refusal rest none = absurd cc
passed false refusal rest none = (refl, none)

-- all checks of a row that refuses nothing
abbrev pub AllPass : List (Bool × Refusal) → Type 0
AllPass [] = Unit {0}
AllPass (check ∷ checks) = (check.0 ≡ false) × AllPass checks

pub all_pass : (checks : List (Bool × Refusal)) → first_refusal checks ≡ None → AllPass checks
all_pass [] none = tt
all_pass (check ∷ checks) none = let first = passed check.0 check.1 (first_refusal checks) none in (first.0, all_pass checks first.1)

-- ---- rows one after another
pub refused_first : (checks others : List (Bool × Refusal)) (refusal : Refusal) → first_refusal checks ≡ Some refusal → first_refusal (checks ++ others) ≡ Some refusal
refused_first [] others refusal first = absurd cc
refused_first (check ∷ checks) others refusal first = search (rules, refused_first checks others refusal)

pub refused_then : (checks others : List (Bool × Refusal)) → first_refusal checks ≡ None → first_refusal (checks ++ others) ≡ first_refusal others
refused_then [] others none = refl
refused_then (check ∷ checks) others none = search (rules, refused_then checks others)

pub judges_refused : {T : Type 0} (checks : List (Bool × Refusal)) (result : Result T Refusal) (refusal : Refusal) → result ≡ Err refusal → first_refusal checks ≡ Some refusal → Judges checks result
judges_refused checks result refusal ends first = subst (λ r. Judges checks r) (sym ends) first

-- what a row says that follows one that refuses nothing
pub judges_then : {T : Type 0} (checks others : List (Bool × Refusal)) (result : Result T Refusal) → first_refusal checks ≡ None → Judges others result → Judges (checks ++ others) result
judges_then checks others (Ok done) none judges = refused_then checks others none ∙ judges
judges_then checks others (Err refusal) none judges = refused_then checks others none ∙ judges

-- ---- rows with the same refusals: each check is the same if none before it holds
abbrev pub Alike : List (Bool × Refusal) → List (Bool × Refusal) → Type 0
Alike [] [] = Unit {0}
Alike [] (other ∷ others) = ⊥
Alike (check ∷ checks) [] = ⊥
Alike (check ∷ checks) (other ∷ others) = (check.1 ≡ other.1) × (check.0 ≡ other.0) × (check.0 ≡ false → Alike checks others)

pub same_first : (checks others : List (Bool × Refusal)) → Alike checks others → first_refusal checks ≡ first_refusal others
same_first [] [] alike = refl
same_first [] (other ∷ others) alike = absurd alike
same_first (check ∷ checks) [] alike = absurd alike
same_first (check ∷ checks) (other ∷ others) alike =
    by check.0 refl (λ passes. same_first checks others (alike.2 passes))
    ∙ ap₂ (λ b r. cond b (Some r) (first_refusal others)) alike.1 alike.0
  where
    by : (b : Bool) → check.0 ≡ b → (check.0 ≡ false → first_refusal checks ≡ first_refusal others)
        → cond b (Some check.1) (first_refusal checks) ≡ cond b (Some check.1) (first_refusal others)
    by true e more = refl
    by false e more = more e

-- rows with the same first checks
pub same_behind : (front checks others : List (Bool × Refusal)) → (AllPass front → first_refusal checks ≡ first_refusal others) → first_refusal (front ++ checks) ≡ first_refusal (front ++ others)
same_behind [] checks others same = same tt
same_behind (check ∷ front) checks others same = by check.0 (λ passes. same_behind front checks others (λ rest. same (passes, rest)))
  where
    by : (b : Bool) → (b ≡ false → first_refusal (front ++ checks) ≡ first_refusal (front ++ others)) → cond b (Some check.1) (first_refusal (front ++ checks)) ≡ cond b (Some check.1) (first_refusal (front ++ others))
    by true more = refl
    by false more = more refl

-- after a refusal nothing is changed
pub change_refused : {T : Type 0} (k : Stored) (m : Meaning) (base : State) (now : Situation) (outcome : Outcome) (refusal : Refusal) (result : Result T ChangeFault) → StoreHolds k m base now.state
    → outcome ≡ refused now refusal → result ≡ Err (Refused refusal) → Holds base now outcome k m m result
change_refused k m base now outcome refusal result holds is ends =
    subst (λ r. Holds base now outcome k m m r) (sym ends) (record { moments = leaves_none m _; past = λ n le. refl; ended = (is, holds) })

-- the same for a store and its view
pub view_refused : {T : Type 0} {old now : Stored} {m : Meaning} {base : State} {outcome : Outcome} {result : Result T ChangeFault} → old ≡ now → (sit : Situation) (refusal : Refusal) → StoreHolds now m base sit.state
    → (StoreHolds old m base sit.state → outcome ≡ refused sit refusal) → result ≡ Err (Refused refusal) → Holds base sit outcome now m m result
view_refused {now = now} {m = m} {base = base} {outcome = outcome} {result = result} view sit refusal holds is ends =
    change_refused now m base sit outcome refusal result holds (is (subst (λ k. StoreHolds k m base sit.state) (sym view) holds)) ends
