-- Moments of a session: how they grow with its items, and where the session is at a time.
use Rattle.std.proofs.Common.{◌≡◌, ℕ, zero, suc, ◌+◌, ◌-◌, ◌≤◌, ◌<◌, List, [], ◌∷◌, ◌++◌, length, take, drop, Option, refl, ap, sym, subst, ◌∙◌, inl, inr, arith, append_assoc, append-nil, length-append}
use Rattle.std.specs.Io.KnownBytes.{append_known}
use Rattle.std.proofs.Math.Seq.{take-add, take-append_seam}
use Rattle.std.proofs.lemmas.List.{take-append-le, take-append-drop}
use Rattle.lis_ports.specs.Meaning.{Meaning}
use Rattle.lis_ports.specs.Runs.{Adds}
use Rattle.lis_ports.specs.Shown.{AppendsFront}
use Rattle.lis_ports.specs.Since.{Begins, Since}
use Rattle.lis_ports.proofs.Moments.{adds_then, adds_weaken}
use Rattle.lis_reply.proofs.Showing.{append_known-append, begins_behind}
use Rattle.lis_model.specs.Step.{SituationOf, OutcomeOf, replies_by, after_by}
use Rattle.lis_model.proofs.Runs.{replies-append}
use Rattle.lis_store.specs.Stands.{Stands}
use Rattle.lis_session.specs.Session.{out, state_after, SessionMoment}
use Rattle.lis_session.specs.Item.{InItem}
use Rattle.lis_laws.proofs.Regular.{AreRegular, last_reply, last_situation}

pub begins_whole : (bytes : List ℕ) → Begins bytes bytes
begins_whole bytes = record { rest = []; is = sym (append-nil bytes) }

pub begins_nothing : (bytes : List ℕ) → Begins [] bytes
begins_nothing bytes = record { rest = bytes; is = refl }

pub begins_trans : (a b c : List ℕ) → Begins a b → Begins b c → Begins a c
begins_trans a b c ab bc = record { rest = ab.rest ++ bc.rest; is = bc.is ∙ ap (λ xs. xs ++ bc.rest) ab.is ∙ append_assoc a ab.rest bc.rest }

pub begins_length : (a b : List ℕ) → Begins a b → length a ≤ length b
begins_length a b ab = omega (arith, ap length ab.is, length-append a ab.rest)

-- a prefix that was shown, as a list
pub front_begins : (before now : Option (List ℕ)) (bytes : List ℕ) → AppendsFront before now bytes
    → (shown : List ℕ) × Begins shown bytes × (now ≡ append_known before shown)
front_begins before now bytes front =
    (take front.count bytes, record { rest = drop front.count bytes; is = sym (take-append-drop front.count bytes) }, front.front)

-- what holds of moments since a start
pub adds_since : {old new : Meaning} (before : Option (List ℕ)) {P Q : List ℕ → List ℕ → Type 0} → ((image shown : List ℕ) → P image shown → Q image shown)
    → Adds old new (Since before P) → Adds old new (Since before Q)
adds_since before weaker adds = adds_weaken _ adds (λ image bytes since. (since.0, since.1, weaker image since.0 since.2))

-- the same for moments since a later time, stated since the start
pub adds_later : {mid new : Meaning} (before : Option (List ℕ)) {P Q : List ℕ → List ℕ → Type 0} (said : List ℕ) → mid.shown ≡ append_known before said
    → ((image shown : List ℕ) → P image shown → Q image (said ++ shown)) → Adds mid new (Since mid.shown P) → Adds mid new (Since before Q)
adds_later before said told weaker adds = adds_weaken _ adds (λ image bytes since. (
  said ++ since.0,
  sym (append_known-append before said since.0) ∙ ap (λ known. append_known known since.0) (sym told) ∙ since.1,
  weaker image since.0 since.2,
))

pub take_none : {I : Type 0} (items : List I) → take 0 items ≡ []
take_none [] = refl
take_none (item ∷ items) = refl

pub take_whole : {I : Type 0} (items : List I) → take (length items) items ≡ items
take_whole items = ap (take (length items)) (sym (append-nil items)) ∙ take-append_seam items []

module _ {P I : Type 0} (by : SituationOf P → I → OutcomeOf P) where
  pub out_grows : AreRegular by → (start : SituationOf P) (items : List I) (j k : ℕ) → j < k → k ≤ length items → length (out by start items j) < length (out by start items k)
  out_grows regular start [] j k less within = absurd (omega (arith, less, within))
  out_grows regular start (item ∷ items) j zero less within = absurd (omega (arith, less))
  out_grows regular start (item ∷ items) zero (suc k) less within =
      omega (arith, (regular start item).some, length-append (by start item).reply (out by (by start item).next items k))
  out_grows regular start (item ∷ items) (suc j) (suc k) less within =
      omega (
        arith,
        out_grows regular (by start item).next items j k (omega (arith, less)) (omega (arith, within)),
        length-append (by start item).reply (out by (by start item).next items j),
        length-append (by start item).reply (out by (by start item).next items k),
      )

  module _ (start : SituationOf P) where
    pub out_none : (items : List I) → out by start items 0 ≡ []
    out_none items = ap (replies_by by start) (take_none items)

    pub out_begins : (items : List I) (j k : ℕ) → j ≤ k → Begins (out by start items j) (out by start items k)
    out_begins items j k le =
        let sum : j + (k - j) ≡ k = omega arith in
        let front : List I = take j items in
        let more : List I = take (k - j) (drop j items) in
        record {
          rest = replies_by by (after_by by start front) more;
          is = ap (λ n. replies_by by start (take n items)) (sym sum) ∙ ap (replies_by by start) (take-add j (k - j) items) ∙ replies-append by start front more;
        }

    pub state_front : (first others : List I) (k : ℕ) → k ≤ length first → state_after by start (first ++ others) k ≡ state_after by start first k
    state_front first others k le = ap (λ items. (after_by by start items).state) (take-append-le k first others le)

    pub state_whole : (items : List I) → state_after by start items (length items) ≡ (after_by by start items).state
    state_whole items = ap (λ xs. (after_by by start xs).state) (take_whole items)

    -- after some first items, of whose replies all except the last were shown
    moment_at : (items first others : List I) (image shown : List ℕ) → items ≡ first ++ others → Stands image (after_by by start first).state
        → Begins shown (replies_by by start first) → Begins (out by start first (length first - 1)) shown → SessionMoment by start items image shown
    moment_at items first others image shown all stands no_more no_less =
        let front : take (length first) items ≡ first = ap (take (length first)) all ∙ take-append_seam first others in
        let fewer : take (length first - 1) items ≡ take (length first - 1) first = ap (take (length first - 1)) all ∙ take-append-le (length first - 1) first others (omega arith) in
        record {
          count = length first;
          within = omega (arith, ap length all, length-append first others);
          stands = subst (λ xs. Stands image (after_by by start xs).state) (sym front) stands;
          no_more = subst (λ xs. Begins shown (replies_by by start xs)) (sym front) no_more;
          no_less = subst (λ xs. Begins (replies_by by start xs) shown) (sym fewer) no_less;
        }

    -- before anything was run
    pub moment_none : (items : List I) (image : List ℕ) → Stands image start.state → SessionMoment by start items image []
    moment_none items image stands = moment_at items [] items image [] refl stands (begins_whole []) (begins_whole [])

    -- a moment of the first items is one of all items
    pub moment_more : (first others : List I) (image shown : List ℕ) → SessionMoment by start first image shown → SessionMoment by start (first ++ others) image shown
    moment_more first others image shown m =
        let within : m.count ≤ length first = m.within in
        record {
          count = m.count;
          within = omega (arith, within, length-append first others);
          stands = subst (λ s. Stands image s) (sym (state_front first others m.count within)) m.stands;
          no_more = subst (λ xs. Begins shown (replies_by by start xs)) (sym (take-append-le m.count first others within)) m.no_more;
          no_less = subst (λ xs. Begins (replies_by by start xs) shown) (sym (take-append-le (m.count - 1) first others (omega (arith, within)))) m.no_less;
        }

    -- a moment inside the next item
    pub moment_in : (first : List I) (item : I) (image shown : List ℕ) → InItem (after_by by start first).state (by (after_by by start first) item) image shown
        → SessionMoment by start (first ++ item ∷ []) image (replies_by by start first ++ shown)
    moment_in first item image shown (inl quiet) =
        let said = replies_by by start first in
        let same : said ++ shown ≡ said = ap (λ xs. said ++ xs) quiet.0 ∙ append-nil said in
        let all : out by start first (length first) ≡ said = ap (replies_by by start) (take_whole first) in
        subst (λ xs. SessionMoment by start (first ++ item ∷ []) image xs) (sym same)
        (moment_at (first ++ item ∷ []) first (item ∷ []) image said refl quiet.1 (begins_whole said)
        (subst (λ xs. Begins (out by start first (length first - 1)) xs) all (out_begins first (length first - 1) (length first) (omega arith))))
    moment_in first item image shown (inr front) =
        let all : List I = first ++ item ∷ [] in
        let said = replies_by by start first in
        let fewer : length all - 1 ≡ length first = omega (arith, length-append first (item ∷ [])) in
        let before : take (length all - 1) all ≡ first = ap (λ n. take n all) fewer ∙ take-append_seam first (item ∷ []) in
        moment_at all all [] image (said ++ shown) (sym (append-nil all)) (subst (λ (s : SituationOf P). Stands image s.state) (sym (last_situation by start first item)) front.1)
        (subst (λ xs. Begins (said ++ shown) xs) (sym (last_reply by start first item)) (begins_behind shown said _ front.0))
        (subst (λ xs. Begins (replies_by by start xs) (said ++ shown)) (sym before) (record { rest = shown; is = refl }))

    -- one more item
    pub session_on : {old mid new : Meaning} (first : List I) (item : I) → Adds old mid (Since old.shown (SessionMoment by start first)) → mid.shown ≡ append_known old.shown (replies_by by start first)
        → Adds mid new (Since mid.shown (InItem (after_by by start first).state (by (after_by by start first) item)))
        → Adds old new (Since old.shown (SessionMoment by start (first ++ item ∷ [])))
    session_on {old} first item before shown in_item =
        adds_then (adds_since old.shown (moment_more first (item ∷ [])) before) (adds_later old.shown (replies_by by start first) shown (moment_in first item) in_item)
