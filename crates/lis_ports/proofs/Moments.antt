-- How moments of calls and runs in sequence add up.
use Rattle.std.proofs.Common.{◌⊎◌, ℕ, List, refl, sym, ◌∙◌, inl, inr, arith}
use Rattle.lis_ports.specs.Meaning.{Meaning, Now}
use Rattle.lis_ports.specs.Runs.{Adds, IsDiskRun, Leaves}

either : {A B C : Type 0} → A ⊎ B → (A → C) → (B → C) → C
either {C = C} h f g = elim h as (λ _. C) [ inl a ↦ f a | inr b ↦ g b ]

-- no call at all
pub adds_none : (m : Meaning) (P : List ℕ → List ℕ → Type 0) → Adds m m P
adds_none m P = record {
  later = omega arith;
  only = λ t image bytes le had. inl had;
  keeps = λ t image bytes le had. had;
}

pub adds_weaken : {a b : Meaning} {P : List ℕ → List ℕ → Type 0} (R : List ℕ → List ℕ → Type 0) → Adds a b P → ((image bytes : List ℕ) → P image bytes → R image bytes) → Adds a b R
adds_weaken R ab weaker = record {
  later = ab.later;
  only = λ t image bytes le had. either (ab.only t image bytes le had) (λ h. inl h) (λ p. inr (weaker image bytes p));
  keeps = ab.keeps;
}

-- two runs in sequence
pub adds_then : {a b c : Meaning} {P : List ℕ → List ℕ → Type 0} → Adds a b P → Adds b c P → Adds a c P
adds_then ab bc = record {
  later = omega (arith, ab.later, bc.later);
  only = λ t image bytes le had.
      either (bc.only t image bytes (omega (arith, le, ab.later)) had) (λ h. ab.only t image bytes le h) (λ p. inr p);
  keeps = λ t image bytes le had. bc.keeps t image bytes (omega (arith, le, ab.later)) (ab.keeps t image bytes le had);
}

-- each moment since the start of a run is one of its start, or it has P
pub each_moment : {a b : Meaning} {P : List ℕ → List ℕ → Type 0} → Adds a b P → ((image bytes : List ℕ) → a.moments a.clock image bytes → Now a image bytes) → (image bytes : List ℕ) → b.moments a.clock image bytes → Now a image bytes ⊎ P image bytes
each_moment {a} ab only_now image bytes had =
    either (ab.only a.clock image bytes (omega arith) had) (λ h. inl (only_now image bytes h)) (λ p. inr p)

pub run_none : (m : Meaning) → IsDiskRun m m
run_none m = record {
  later = omega arith;
  honest = refl;
  len = refl;
  recorded = refl;
  shown = refl;
  show_faults = refl;
  disk_faults = omega arith;
}

pub run_then : {a b c : Meaning} → IsDiskRun a b → IsDiskRun b c → IsDiskRun a c
run_then ab bc = record {
  later = omega (arith, ab.later, bc.later);
  honest = bc.honest ∙ ab.honest;
  len = bc.len ∙ ab.len;
  recorded = bc.recorded ∙ ab.recorded;
  shown = bc.shown ∙ ab.shown;
  show_faults = bc.show_faults ∙ ab.show_faults;
  disk_faults = omega (arith, ab.disk_faults, bc.disk_faults);
}

pub leaves_none : (m : Meaning) (Q : List ℕ → Type 0) → Leaves m m Q
leaves_none m Q = record { run = run_none m; adds = adds_none m _ }

-- one call of a disk, after which each image has Q
pub leaves_call : {a b : Meaning} (Q : List ℕ → Type 0) → IsDiskRun a b → Adds a b (Now b) → ((image : List ℕ) → b.images image → Q image) → Leaves a b Q
leaves_call Q run ab each = record {
  run = run;
  adds = adds_weaken _ ab (λ image bytes now. (each image now.0, sym run.shown ∙ now.1));
}

pub leaves_weaken : {a b : Meaning} {P : List ℕ → Type 0} (Q : List ℕ → Type 0) → Leaves a b P → ((image : List ℕ) → P image → Q image) → Leaves a b Q
leaves_weaken Q ab weaker = record {
  run = ab.run;
  adds = adds_weaken _ ab.adds (λ image bytes p. (weaker image p.0, p.1));
}

-- two runs in sequence
pub leaves_then : {a b c : Meaning} {Q : List ℕ → Type 0} → Leaves a b Q → Leaves b c Q → Leaves a c Q
leaves_then ab bc = record {
  run = run_then ab.run bc.run;
  adds = adds_then ab.adds (adds_weaken _ bc.adds (λ image bytes q. (q.0, sym ab.run.shown ∙ q.1)));
}
