-- Contents that are put over earlier ones.
use Rattle.std.proofs.Common.{◌≡◌, ℕ, ◌+◌, ◌<◌, ◌≤◌, ◌==◌, cond, List, [], ◌∷◌, ◌++◌, length, get_or, take, sym, ◌∙◌, ap, arith}
use Rattle.std.proofs.lemmas.List.{take_more, take_all}
use Rattle.lis_journal.specs.Record.{HomeBlock}
use Rattle.lis_journal.specs.Images.{look}
use Rattle.lis_journal.specs.Staging.{Staging}
use Rattle.lis_journal.specs.Phases.{Absorbs}
use Rattle.lis_journal.proofs.Series.{look-append}

pub absorbs_put : (first es latest later : List HomeBlock) (home : ℕ) (bytes : List ℕ) → Absorbs first es latest → ((m : ℕ) (old : List ℕ) → look later m old ≡ cond (m == home) bytes (look latest m old)) → Absorbs first (es ++ record { home = home; bytes = bytes } ∷ []) later
absorbs_put first es latest later home bytes absorbs looks = λ m old.
    looks m old
    ∙ (ap (cond (m == home) bytes) (absorbs m old)
    ∙ sym (look-append es (record { home = home; bytes = bytes } ∷ []) m (look first m old)))

pub absorbs_then : (first es middle fs last : List HomeBlock) → Absorbs first es middle → Absorbs middle fs last → Absorbs first (es ++ fs) last
absorbs_then first es middle fs last one two = λ m old.
    two m old ∙ (ap (look fs m) (one m old) ∙ sym (look-append es fs m (look first m old)))

-- the contents that were absorbed by the k-th turn of the loop
pub record SoAbsorbed (before : Staging) (es : List HomeBlock) (now : Staging) (k : ℕ) : Type 0 where
  pub layout : now.layout ≡ before.layout
  pub capacity : now.capacity ≡ before.capacity
  pub few : length now.entries ≤ length before.entries + k
  pub absorbs : Absorbs before.entries (take k es) now.entries

pub absorbed_more : (before now next : Staging) (es : List HomeBlock) (k home : ℕ) (bytes : List ℕ) (d : HomeBlock) → k < length es → home ≡ (get_or es k d).home → bytes ≡ (get_or es k d).bytes → SoAbsorbed before es now k → next.layout ≡ now.layout → next.capacity ≡ now.capacity → length next.entries ≤ length now.entries + 1 → ((m : ℕ) (old : List ℕ) → look next.entries m old ≡ cond (m == home) bytes (look now.entries m old)) → SoAbsorbed before es next (k + 1)
absorbed_more before now next es k home bytes d lt is_home is_bytes so_far layout capacity few looks = record {
  layout = layout ∙ so_far.layout;
  capacity = capacity ∙ so_far.capacity;
  few = omega (arith, few, so_far.few);
  absorbs = λ m old.
      absorbs_put before.entries (take k es) now.entries next.entries home bytes so_far.absorbs looks m old
      ∙ (ap (λ h. look (take k es ++ record { home = h; bytes = bytes } ∷ []) m (look before.entries m old)) is_home
      ∙ (ap (λ b. look (take k es ++ record { home = (get_or es k d).home; bytes = b } ∷ []) m (look before.entries m old)) is_bytes
      ∙ ap (λ fs. look fs m (look before.entries m old)) (sym (take_more es k d lt))));
}

pub absorbed_all : (before now : Staging) (es : List HomeBlock) (k : ℕ) → length es ≤ k → SoAbsorbed before es now k → Absorbs before.entries es now.entries
absorbed_all before now es k le so_far = λ m old.
    so_far.absorbs m old ∙ ap (λ fs. look fs m (look before.entries m old)) (take_all k es le)
