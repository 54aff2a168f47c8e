-- How much of a state a store reports.
use Rattle.lis_store.proofs.Common.{◌≡◌, length, sym, ap, ◌∙◌, arith, free_count, State, free_blocks, axioms_of, axioms_counted}
use Rattle.lis_store.specs.Stored.{Stored, IsSound}
use Rattle.lis_store.proofs.ToldBy.{ToldBy}
use Rattle.lis_store.specs.Counting.{CountsState}
use Rattle.lis_store.proofs.StoreSays.{files_counted, known_counted}
use Rattle.lis_store.proofs.FreeBlocks.{used_told}

module _ (k : Stored) (s : State) (sound : IsSound k) (fits : ToldBy k s) where
  pub axioms_are : axioms_of k.metadata ≡ s.axioms
  axioms_are = ap (λ (t : State). t.axioms) fits.tells.state

  free_are : free_count k.metadata.taken ≡ free_blocks s
  free_are = omega (arith, used_told k s sound fits)

  pub counts_state : CountsState k.metadata s
  counts_state = record {
    files = sym (files_counted k.metadata fits.kept s sound.metadata sound.free fits.tells);
    known = sym (known_counted k.metadata fits.kept s sound.metadata sound.free fits.tells);
    axioms = sym (axioms_counted k.metadata sound.metadata sound.pairs) ∙ ap length axioms_are;
    free = free_are;
  }
