-- What a stop may leave of a session over an image.
use Rattle.std.specs.Prelude.{◌≡◌, ◌⊎◌, ℕ, ◌+◌, ◌-◌, ◌≤◌, ◌<◌, List, [], length, take}
use Rattle.lis_ports.specs.Meaning.{Meaning, Now}
use Rattle.lis_ports.specs.Since.{Begins, Since}
use Rattle.lis_grammar.specs.Formula.{Formula}
use Rattle.lis_model.specs.State.{State}
use Rattle.lis_model.specs.Step.{SituationOf, OutcomeOf, Situation, Item, step, replies_by, after_by}
use Rattle.lis_eval.specs.declared.scratch.Scratch.{Scratch}
use Rattle.lis_eval.specs.Room.{HasRoom}
use Rattle.lis_store.specs.Stands.{Stands}
use Rattle.lis_store.specs.Stored.{Stored, IsSound}

-- a session: the store on which it runs commands, and the place of the next command, or the places if there are several
pub record SituatedOf (P : Type 0) : Type 0 where
  pub store : Stored
  pub place : P

abbrev pub Situated : Type 0
Situated = SituatedOf (List Formula)

-- the store is sound, and the working memory is enough for its limits
pub record CanWork (store : Stored) (scratch : Scratch) : Type 0 where
  pub sound : IsSound store
  pub room : HasRoom scratch store.metadata.limits

-- a state, with the root as the place
abbrev pub root_of : State → Situation
root_of state = record { state = state; place = [] }

-- ---- moments of a session from a start, over these items, if `by` says what each of them does
module _ {P I : Type 0} (by : SituationOf P → I → OutcomeOf P) (start : SituationOf P) (items : List I) where
  -- the replies to this many first items, one after another
  abbrev pub out : ℕ → List ℕ
  out count = replies_by by start (take count items)

  -- the state after this many first items
  abbrev pub state_after : ℕ → State
  state_after count = (after_by by start (take count items)).state

  -- The image represents the state after some first items. All their replies except the last were shown, and nothing past them.
  pub record SessionMoment (image shown : List ℕ) : Type 0 where
    pub count : ℕ
    pub within : count ≤ length items
    pub stands : Stands image (state_after count)
    pub no_more : Begins shown (out count)
    pub no_less : Begins (out (count - 1)) shown

  -- The same by what was shown. Of the items whose replies were shown whole, `whole` is the greatest count. The image represents the state
  -- after this many items or after one more.
  pub record ShownMoment (image shown : List ℕ) : Type 0 where
    pub whole : ℕ
    pub within : whole ≤ length items
    pub is_shown : Begins (out whole) shown
    pub greatest : (more : ℕ) → more ≤ length items → Begins (out more) shown → more ≤ whole
    pub count : ℕ
    pub which : (count ≡ whole) ⊎ ((count ≡ whole + 1) × (whole < length items))
    pub stands : Stands image (state_after count)
    pub no_more : Begins shown (out count)

  -- the two say the same
  pub record SaysTheSame (image shown : List ℕ) : Type 0 where
    pub by_shown : SessionMoment image shown → ShownMoment image shown
    pub by_count : ShownMoment image shown → SessionMoment image shown

abbrev pub OneForm : Type 0
OneForm = (start : Situation) (items : List Item) (image shown : List ℕ) → SaysTheSame step start items image shown

-- P holds of an image and of what was shown since an opening began; or a crash at its start could have left the image, with nothing shown
-- since
abbrev pub OpenedMoment : Meaning → (List ℕ → List ℕ → Type 0) → List ℕ → List ℕ → Type 0
OpenedMoment old P image bytes = Now old image bytes ⊎ Since old.shown P image bytes

-- each moment since the start has Q
abbrev pub EachMoment : Meaning → Meaning → (List ℕ → List ℕ → Type 0) → Type 0
EachMoment old new Q = (image bytes : List ℕ) → new.moments old.clock image bytes → Q image bytes

-- an opening, and after it a session from the root
abbrev pub Headline : State → List Item → Meaning → Meaning → Type 0
Headline state items old new = EachMoment old new (OpenedMoment old (SessionMoment step (root_of state) items))

-- a session without an opening, and without an exception
abbrev pub FullHeadline : {P I : Type 0} → (SituationOf P → I → OutcomeOf P) → SituationOf P → List I → Meaning → Meaning → Type 0
FullHeadline by start items old new = EachMoment old new (Since old.shown (SessionMoment by start items))
