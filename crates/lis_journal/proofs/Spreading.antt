-- How calls spread, and what stays true over them.
use Rattle.std.proofs.Common.{◌≡◌, ◌⊎◌, ℕ, List, IsTrue, refl, sym, ◌∙◌, subst, inl, inr, OnOk, OnErr, Result, Ok, Err}
use Rattle.lis_ports.specs.Meaning.{Meaning}
use Rattle.lis_ports.specs.Bytes.{Torn}
use Rattle.lis_ports.specs.Runs.{IsDiskRun, Leaves, Always}
use Rattle.lis_ports.specs.Calls.{Elapses, IsTorn, IsSynced, IsUnsynced}
use Rattle.lis_ports.proofs.Moments.{leaves_none, leaves_call, leaves_then, leaves_weaken}
use Rattle.lis_ports.proofs.Parts.{torn_refl}
use Rattle.lis_journal.specs.Spreads.{Spreads}

pub spreads_none : (m : Meaning) (R : List ℕ → List ℕ → Type 0) → ((image : List ℕ) → R image image) → Spreads m m R
spreads_none m R same = record {
  moments = leaves_none m _;
  images = λ image is. (image, is, same image);
  reads = (m.bytes, inr refl, same m.bytes);
}

pub spreads_torn : {a b : Meaning} (R : List ℕ → List ℕ → Type 0) (at n : ℕ) → IsDiskRun a b → Elapses a b → IsTorn at n a b → ((from image : List ℕ) → Torn at n from image → R from image) → Spreads a b R
spreads_torn {a} {b} R at n run time torn weaker =
    let images : (image : List ℕ) → b.images image → (from : List ℕ) × a.images from × R from image = λ image is. let was = torn.only image is in (was.0, was.1, weaker was.0 image was.2) in
    record {
      moments = leaves_call _ run time images;
      images = images;
      reads = (a.bytes, inr refl, weaker a.bytes b.bytes torn.bytes);
    }

pub spreads_synced : {a b : Meaning} (R : List ℕ → List ℕ → Type 0) → IsDiskRun a b → Elapses a b → IsSynced a b → ((image : List ℕ) → R image image) → Spreads a b R
spreads_synced {a} {b} R run time synced refl_R =
    let images : (image : List ℕ) → b.images image → (from : List ℕ) × a.images from × R from image = λ image is. (image, (synced.images.only image is).0, refl_R image) in
    record {
      moments = leaves_call _ run time images;
      images = images;
      reads = (b.bytes, inr synced.bytes, refl_R b.bytes);
    }

pub spreads_unsynced : {a b : Meaning} (R : List ℕ → List ℕ → Type 0) → IsDiskRun a b → Elapses a b → IsUnsynced a b → ((image : List ℕ) → R image image) → Spreads a b R
spreads_unsynced {a} {b} R run time unsynced refl_R =
    let images : (image : List ℕ) → b.images image → (from : List ℕ) × a.images from × R from image = λ image is. (image, unsynced.images.only image is, refl_R image) in
    record {
      moments = leaves_call _ run time images;
      images = images;
      reads = (b.bytes, unsynced.bytes, refl_R b.bytes);
    }

-- a sync, failed or not
pub spreads_sync : {a b : Meaning} {T E : Type 0} (R : List ℕ → List ℕ → Type 0) (result : Result T E) → IsDiskRun a b → Elapses a b → OnOk result (IsTrue a.is_honest → IsSynced a b) → OnErr result (IsTrue a.is_honest → IsUnsynced a b) → ((image : List ℕ) → R image image) → IsTrue a.is_honest → Spreads a b R
spreads_sync R (Ok x) run time synced unsynced refl_R honest = spreads_synced R run time (synced honest) refl_R
spreads_sync R (Err e) run time synced unsynced refl_R honest = spreads_unsynced R run time (unsynced honest) refl_R

pub spreads_weaken : {a b : Meaning} {R : List ℕ → List ℕ → Type 0} (S : List ℕ → List ℕ → Type 0) → Spreads a b R → ((from image : List ℕ) → R from image → S from image) → Spreads a b S
spreads_weaken S spreads weaker = record {
  moments = leaves_weaken _ spreads.moments (λ image is. (is.0, is.1, weaker is.0 image is.2));
  images = λ image is. let was = spreads.images image is in (was.0, was.1, weaker was.0 image was.2);
  reads = (spreads.reads.0, spreads.reads.1, weaker spreads.reads.0 _ spreads.reads.2);
}

-- two runs in sequence
pub spreads_then : {a b c : Meaning} (R : List ℕ → List ℕ → Type 0) → ((x y z : List ℕ) → R x y → R y z → R x z) → Spreads a b R → Spreads b c R → Spreads a c R
spreads_then {a} {b} {c} R trans ab bc = record {
  moments = leaves_then ab.moments (leaves_weaken _ bc.moments (λ image is.
      let was = ab.images is.0 is.1 in (was.0, was.1, trans was.0 is.0 image was.2 is.2)));
  images = λ image is.
      let mid = bc.images image is in
      let was = ab.images mid.0 mid.1 in
      (was.0, was.1, trans was.0 mid.0 image was.2 mid.2);
  reads = elim bc.reads.1 as (λ _. (from : List ℕ) × (a.images from ⊎ (from ≡ a.bytes)) × R from c.bytes) [
    | inl image ↦ let was = ab.images bc.reads.0 image in (was.0, inl was.1, trans was.0 bc.reads.0 c.bytes was.2 bc.reads.2)
    | inr same ↦ (ab.reads.0, ab.reads.1, trans ab.reads.0 b.bytes c.bytes ab.reads.2 (subst (λ from. R from c.bytes) same bc.reads.2))
  ];
}

pub torn_trans : (at n : ℕ) (x y z : List ℕ) → Torn at n x y → Torn at n y z → Torn at n x z
torn_trans at n x y z xy yz = record { len = yz.len ∙ xy.len; before = yz.before ∙ xy.before; after = yz.after ∙ xy.after }

-- a write and a sync, failed or not
pub spreads_write_sync : {a b c : Meaning} {T E : Type 0} (at n : ℕ) (result : Result T E) → IsDiskRun a b → Elapses a b → (IsTrue a.is_honest → IsTorn at n a b) → IsDiskRun b c → Elapses b c → OnOk result (IsTrue b.is_honest → IsSynced b c) → OnErr result (IsTrue b.is_honest → IsUnsynced b c) → IsTrue a.is_honest → Spreads a c (Torn at n)
spreads_write_sync at n result run_ab time_ab torn run_bc time_bc synced unsynced honest =
    spreads_then (Torn at n) (torn_trans at n)
    (spreads_torn (Torn at n) at n run_ab time_ab (torn honest) (λ from image t. t))
    (spreads_sync (Torn at n) result run_bc time_bc synced unsynced (torn_refl at n) (run_ab.honest ∙ honest))

-- what R preserves is true at the end
pub always_spread : {a b : Meaning} {S : List ℕ → Type 0} (R : List ℕ → List ℕ → Type 0) (T : List ℕ → Type 0) → Always a S → Spreads a b R → ((from image : List ℕ) → S from → R from image → T image) → Always b T
always_spread {a} {b} {S} R T all spreads step = record {
  reads = step spreads.reads.0 b.bytes
      (elim spreads.reads.1 as (λ _. S spreads.reads.0) [
        | inl image ↦ all.leaves spreads.reads.0 image
        | inr same ↦ subst S (sym same) all.reads
      ]) spreads.reads.2;
  leaves = λ image is. let was = spreads.images image is in step was.0 image (all.leaves was.0 was.1) was.2;
}

-- and at each moment
pub leaves_spread : {a b : Meaning} {S : List ℕ → Type 0} (R : List ℕ → List ℕ → Type 0) (T : List ℕ → Type 0) → Always a S → Spreads a b R → ((from image : List ℕ) → S from → R from image → T image) → Leaves a b T
leaves_spread R T all spreads step =
    leaves_weaken T spreads.moments (λ image is. step is.0 image (all.leaves is.0 is.1) is.2)

both : {A P Q S : Type 0} → A ⊎ (P × S) → A ⊎ (Q × S) → A ⊎ ((P × Q) × S)
both (inl a) q = inl a
both (inr p) (inl a) = inl a
both (inr p) (inr q) = inr ((p.0, q.0), p.1)

-- what two clauses say of each moment, together
pub leaves_both : {a b : Meaning} {P Q : List ℕ → Type 0} → Leaves a b P → Leaves a b Q → Leaves a b (λ image. P image × Q image)
leaves_both one two = record {
  run = one.run;
  adds = record {
    later = one.adds.later;
    only = λ t image bytes le had. both (one.adds.only t image bytes le had) (two.adds.only t image bytes le had);
    keeps = one.adds.keeps;
  };
}
