-- What home blocks spell is represented by the images with these blocks.
use Rattle.std.proofs.Common.{rules}
use Rattle.lis_store.proofs.Common.{◌≡◌, refl, ap, ◌∙◌, subst, ℕ, List, [], Option, Some, None, IsTrue, IsSomeAnd, arith, Meaning, block, replayed, are_free, homes_of, among_homes, SpellsSuper, data_start, State, Metadata, IsWritten, AreSound, FreeSlotsAreEmpty, Tells, Limits, are_in_range}
use Rattle.lis_ports.specs.Runs.{Always}
use Rattle.lis_ports.proofs.Always.{always_weaken}
use Rattle.lis_journal.specs.Images.{IsOutside, KeepsBut, StandsFor as KeptBy, StandsBut}
use Rattle.lis_journal.proofs.Fitting.{fits_stand, replayed-front}
use Rattle.lis_store.specs.Stands.{Stands}
use Rattle.lis_store.specs.Stored.{Stored, PairsAreApart, IsSound, StoreFits}
use Rattle.lis_store.proofs.Elsewhere.{AreSameBut, tells_elsewhere, written_elsewhere}
use Rattle.lis_store.proofs.Spelled.{contents_of, tells_spells}
use Rattle.lis_kept.specs.Image.{image_layout}
use Rattle.lis_journal.specs.declared.layout.Layout.{Layout}
use Rattle.lis_kept.proofs.Image.{same_layout}
use Rattle.lis_kept.proofs.InArea.{some_properties}

-- If memory represents a state by these blocks, so does each image whose replayed image has them, whatever it has in free blocks.
module _ (k : Metadata) (at : ℕ → List ℕ) (s : State) (sound : AreSound k) (empty : FreeSlotsAreEmpty k) (pairs : PairsAreApart k) (tells : Tells k at s) (written : IsWritten k at)
    (blocks : List ℕ) (free : IsTrue (are_free k.taken blocks)) where
  abbrev placed : List ℕ
  placed = homes_of (data_start k.limits) blocks

  limits_are : k.limits ≡ s.limits
  limits_are = ap (λ (t : State). t.limits) tells.state

  range_is : IsTrue (are_in_range s.limits)
  range_is = subst (λ (l : Limits). IsTrue (are_in_range l)) limits_are sound.range

  same_replay : (replay : List ℕ) → KeepsBut (image_layout s.limits) placed at replay → AreSameBut k blocks at (λ n. block n replay)
  same_replay replay keeps n out none = keeps.same n (subst (λ (l : Limits). IsOutside (image_layout l) n) limits_are out) (among_homes (data_start k.limits) blocks n ∙ none)

  pub told_stands : (image : List ℕ) → StandsBut (image_layout s.limits) placed at image → Stands image s
  unfolding StandsBut Stands
  told_stands image but = by (replayed (image_layout s.limits) image) refl but.1
    where
      by : (o : Option (List ℕ)) → replayed (image_layout s.limits) image ≡ o → IsSomeAnd o (KeepsBut (image_layout s.limits) placed at) → Stands image s
      by None none keeps = absurd keeps
      by (Some r) is keeps =
          let there : ℕ → List ℕ = λ n. block n r in
          let same = same_replay r keeps in
          let tells_then = tells_elsewhere k blocks at there sound free same s tells in
          record {
            range = range_is;
            super = subst (λ (bytes : List ℕ). SpellsSuper s.limits bytes) (replayed-front (image_layout s.limits) image r (omega (arith, some_properties s.limits range_is)) but.0 is) tells_then.super;
            long = but.0;
            replay = r;
            replays = is;
            contents = contents_of k;
            spells = tells_spells k there s sound empty pairs (written_elsewhere k blocks at there sound free same written) tells_then;
          }

  pub stands_but : (layout : Layout) → layout ≡ image_layout k.limits → (image : List ℕ) → StandsBut layout placed at image → Stands image s
  stands_but layout is image but = told_stands image (subst (λ l. StandsBut l placed at image) (is ∙ ap image_layout limits_are) but)

-- what keeps all blocks keeps all except some
pub stands_all_but : (layout : Layout) (ns : List ℕ) (at : ℕ → List ℕ) (image : List ℕ) → KeptBy layout at image → StandsBut layout ns at image
unfolding StandsBut KeptBy
stands_all_but layout ns at image kept = search (rules)

-- and the converse, if there are no exceptions
pub stands_none_but : (layout : Layout) (ns : List ℕ) (at : ℕ → List ℕ) (image : List ℕ) → ns ≡ [] → StandsBut layout ns at image → KeptBy layout at image
unfolding StandsBut KeptBy
stands_none_but layout ns at image none but = search (rules)

-- ---- the laws
pub placed_stand : (k : Stored) (kept : ℕ → List ℕ) (blocks : List ℕ) (s : State) → IsSound k → Tells k.metadata kept s → IsWritten k.metadata kept → IsTrue (are_free k.metadata.taken blocks)
    → (image : List ℕ) → StandsBut k.journal.layout (homes_of (data_start k.metadata.limits) blocks) kept image → Stands image s
placed_stand k kept blocks s sound tells written free image but = stands_but k.metadata kept s sound.metadata sound.free sound.pairs tells written blocks free k.journal.layout (same_layout sound.image) image but

pub change_stands : (new : Stored) (layout : Layout) (kept : ℕ → List ℕ) (t : State) → AreSound new.metadata → FreeSlotsAreEmpty new.metadata → PairsAreApart new.metadata
    → Tells new.metadata kept t → IsWritten new.metadata kept → layout ≡ image_layout new.metadata.limits
    → (image : List ℕ) → KeptBy layout kept image → Stands image t
change_stands new layout kept t sound empty pairs tells written is image stands =
    stands_but new.metadata kept t sound empty pairs tells written [] refl layout is image (stands_all_but layout [] kept image stands)

pub fitting_stands : (m : Meaning) (k : Stored) (s : State) → IsSound k → StoreFits k m s → Always m (λ image. Stands image s)
fitting_stands m k s sound fits =
    always_weaken (λ image. Stands image s) (fits_stand k.journal (sound.placed fits.unbroken) fits.journal)
    (λ image stands. change_stands k k.journal.layout fits.kept s sound.metadata sound.free sound.pairs fits.tells fits.written (same_layout sound.image) image stands)
