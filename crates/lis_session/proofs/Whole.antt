-- An opening, and what is done after it.
use Rattle.std.proofs.Common.{◌≡◌, ◌⊎◌, ℕ, ◌≤◌, if◌then◌else◌, List, [], length, take, Option, Some, ap, sym, subst, ◌∙◌, inl, inr, arith}
use Rattle.std.specs.Io.KnownBytes.{append_known, IsAtEnd}
use Rattle.std.proofs.lemmas.Bool.{le-leb}
use Rattle.lis_ports.specs.Meaning.{Meaning, Now}
use Rattle.lis_ports.specs.Runs.{Adds, Leaves, Always}
use Rattle.lis_ports.specs.Since.{Since}
use Rattle.lis_ports.proofs.Moments.{adds_then, adds_weaken, each_moment}
use Rattle.lis_reply.proofs.Showing.{append_known-nil}
use Rattle.lis_model.specs.declared.limits.Limits.{Limits}
use Rattle.lis_model.specs.Step.{SituationOf, OutcomeOf}
use Rattle.lis_model.specs.Script.{Cut, script_by}
use Rattle.lis_store.specs.Stands.{Stands}
use Rattle.lis_session.specs.Session.{SessionMoment, OpenedMoment, EachMoment, FullHeadline}
use Rattle.lis_session.specs.Runs.{Carried, CarriedAll, CarriedToLimit, Goes, OpensInto}
use Rattle.lis_session.proofs.Moments.{moment_none}

-- the law of a disk on moments since now
abbrev pub OnlyNow : Meaning → Type 0
OnlyNow m = (image bytes : List ℕ) → m.moments m.clock image bytes → Now m image bytes

-- what is done after an opening that left the images of its start or ones with Q, if P holds of these with nothing shown
module _ {old mid : Meaning} (P : List ℕ → List ℕ → Type 0) where
  pub opening_moments : {Q : List ℕ → Type 0} → ((image : List ℕ) → Q image → P image []) → Leaves old mid (λ image. old.images image ⊎ Q image) → Adds old mid (OpenedMoment old P)
  opening_moments {Q} quiet opening = adds_weaken _ opening.adds (λ image bytes had. by image bytes had.0 had.1)
    where
      by : (image bytes : List ℕ) → old.images image ⊎ Q image → old.shown ≡ Some bytes → OpenedMoment old P image bytes
      by image bytes (inl there) told = inl (there, told)
      by image bytes (inr stood) told = inr ([], append_known-nil old.shown ∙ told, quiet image stood)

  pub moments_behind : {new : Meaning} → mid.shown ≡ old.shown → Adds old mid (OpenedMoment old P) → Adds mid new (Since mid.shown P) → Adds old new (OpenedMoment old P)
  moments_behind same opening moments = adds_then opening (adds_weaken _ moments (λ image bytes since. inr (since.0, ap (λ known. append_known known since.0) (sym same) ∙ since.1, since.2)))

  pub opens_into : {new : Meaning} {limits : Limits} (end : Option (List ℕ) → Type 0) → mid.shown ≡ old.shown → Adds old mid (OpenedMoment old P)
      → Goes P limits mid new (end mid.shown) → OpensInto P old new (end old.shown)
  opens_into end same opening goes = record { moments = moments_behind same opening goes.moments; ended = subst end same goes.ended }

pub headline : {old new : Meaning} (P : List ℕ → List ℕ → Type 0) → OnlyNow old → Adds old new (OpenedMoment old P) → EachMoment old new (OpenedMoment old P)
headline {old} P only_now adds = λ image bytes had.
    elim (each_moment adds only_now image bytes had) as (λ _. OpenedMoment old P image bytes) [
      | inl now ↦ inl now
      | inr moment ↦ moment
    ]

-- if each image at the start is a moment with nothing shown, there is no exception
pub no_exception : {old new : Meaning} (P : List ℕ → List ℕ → Type 0) → ((image : List ℕ) → old.images image → P image []) → OnlyNow old → Adds old new (OpenedMoment old P) → EachMoment old new (Since old.shown P)
no_exception {old} P quiet only_now adds = λ image bytes had. at image bytes (headline P only_now adds image bytes had)
  where
    at : (image bytes : List ℕ) → OpenedMoment old P image bytes → Since old.shown P image bytes
    at image bytes (inl now) = ([], append_known-nil old.shown ∙ now.1, quiet image now.0)
    at image bytes (inr since) = since

module _ {P I : Type 0} (by : SituationOf P → I → OutcomeOf P) {old new : Meaning} (start : SituationOf P) (items : List I) where
  stands_at_start : ((image : List ℕ) → old.images image → Stands image start.state) → OnlyNow old → Adds old new (OpenedMoment old (SessionMoment by start items)) → FullHeadline by start items old new
  stands_at_start stands = no_exception (SessionMoment by start items) (λ image is. moment_none by start items image (stands image is))

  -- if a store fits there
  pub full_headline : Always old (λ image. Stands image start.state) → OnlyNow old → Adds old new (Since old.shown (SessionMoment by start items)) → FullHeadline by start items old new
  full_headline always only_now adds = stands_at_start always.leaves only_now (adds_weaken _ adds (λ image bytes since. inr since))

  -- if nothing is unsynced there
  pub headline_settled : Stands old.bytes start.state → ((image : List ℕ) → old.images image → image ≡ old.bytes) → OnlyNow old
      → Adds old new (OpenedMoment old (SessionMoment by start items)) → FullHeadline by start items old new
  headline_settled stands settled = stands_at_start (λ image is. subst (λ xs. Stands xs start.state) (sym (settled image is)) stands)

-- an input that is not longer than the limit ends with all of its items, and not at the limit
module _ {P I : Type 0} {by : SituationOf P → I → OutcomeOf P} {cut : Cut I} {start : SituationOf P} {limit : ℕ} {bytes : List ℕ} {before : Option (List ℕ)} {new : Meaning} where
  pub complete : {left : Option (List ℕ)} → CarriedAll by cut start limit bytes left before new → IsAtEnd left × Carried by start (cut.all bytes) before new
  complete all =
      let short : script_by cut bytes limit ≡ cut.all bytes = ap (λ t. if t then cut.all bytes else cut.whole (take limit bytes)) (le-leb (length bytes) limit all.short) in
      (all.at_end, subst (λ items. Carried by start items before new) short all.carried)

  pub no_limit : length bytes ≤ limit → CarriedToLimit by cut start limit bytes before new → ⊥
  no_limit short past = omega (arith, short, past.long)
