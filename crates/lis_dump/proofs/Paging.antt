-- Texts that come on pages one after another, and what a loop keeps that puts them there.
use Rattle.std.proofs.Common.{◌≡◌, ℕ, ◌+◌, ◌≤◌, List, [], ◌++◌, length, drop, slice_get, option_to_list, Result, Ok, Err, IfOk, refl, sym, ap, ◌∙◌, append_assoc}
use Rattle.std.specs.List.{flat_map}
use Rattle.std.proofs.lemmas.Grind.{flat_map-append}
use Rattle.std.proofs.lemmas.List.{append-nil, drop_all}
use Rattle.lis_ports.specs.Meaning.{Meaning}
use Rattle.lis_model.specs.State.{State}
use Rattle.lis_store.specs.Stored.{Stored, StoreFits}
use Rattle.lis_session.specs.declared.end.End.{End}
use Rattle.lis_session.specs.Item.{FitsAt}
use Rattle.lis_session.specs.Parts.{Answers}
use Rattle.lis_session.specs.Showing.{Shows}
use Rattle.lis_session.proofs.Described.{split_at, drop_none}
use Rattle.lis_session.proofs.Shown.{both, as_shown, shown_none, shown_same, shown_then, shown_front}
use Rattle.lis_dump.specs.Showing.{waiting, Pages}

none_waits : (result : Result (Unit {0}) End) (page : List ℕ) → IfOk result (λ (done : Unit {0}). page ≡ []) → [] ≡ waiting result page
none_waits (Ok u) page empty = sym empty
none_waits (Err end) page empty = refl

module _ {k : Stored} where
  -- ---- one text
  pub paged_none : (m : Meaning) (page : List ℕ) → Pages k (λ state. []) page page m m (Ok tt)
  paged_none m page = record { said = λ state. []; shows = shown_none m; is = λ state fitting. append-nil page }

  -- a line for which there is room
  pub line_paged : (m : Meaning) (page line : List ℕ) → Pages k (λ state. line) page (page ++ line) m m (Ok tt)
  line_paged m page line = record { said = λ state. []; shows = shown_none m; is = λ state fitting. refl }

  -- the page is shown
  pub page_shown : {old new : Meaning} {page after : List ℕ} {result : Result (Unit {0}) End} → Answers old new page result → IfOk result (λ (done : Unit {0}). after ≡ []) → Pages k (λ state. []) page after old new result
  page_shown {page = page} {after = after} {result = result} answers empty = record { said = λ state. page; shows = as_shown answers; is = λ state fitting. ap (λ xs. page ++ xs) (none_waits result after empty) }

  -- a text is shown after an empty page
  pub text_shown : {text : State → List ℕ} {page : List ℕ} {old new : Meaning} {result : Result (Unit {0}) End} → page ≡ [] → Shows k text old new result → Pages k text page page old new result
  text_shown {text = text} {page = page} {result = result} empty shows = record {
    said = text;
    shows = shows;
    is = λ state fitting. ap (λ xs. xs ++ text state) empty ∙ (sym (append-nil (text state)) ∙ ap (λ xs. text state ++ xs) (by result));
  }
    where
      by : (result : Result (Unit {0}) End) → [] ≡ waiting result page
      by (Ok u) = sym empty
      by (Err end) = refl

  -- another text, the same for the states that fit
  pub paged_same : {text : State → List ℕ} {before after : List ℕ} {old new : Meaning} {result : Result (Unit {0}) End} (other : State → List ℕ)
      → ((state : State) → FitsAt (StoreFits k old) old state → text state ≡ other state) → Pages k text before after old new result → Pages k other before after old new result
  paged_same {before = before} other same pages = record { said = pages.said; shows = pages.shows; is = λ state fitting. ap (λ text. before ++ text) (sym (same state fitting)) ∙ pages.is state fitting }

  -- ---- two texts
  module _ (first more : State → List ℕ) {before middle : List ℕ} {a b : Meaning} where
    pub paged_then : {after : List ℕ} {c : Meaning} {result : Result (Unit {0}) End} (u : Unit {0}) → Pages k first before middle a b (Ok u) → Pages k more middle after b c result
        → Pages k (both first more) before after a c result
    paged_then {after = after} {result = result} u one two = record {
      said = both one.said two.said;
      shows = shown_then one.said two.said u result one.shows two.shows;
      is = λ state fitting.
          sym (append_assoc before (first state) (more state))
          ∙ (ap (λ text. text ++ more state) (one.is state fitting)
          ∙ (append_assoc (one.said state) middle (more state)
          ∙ (ap (λ text. one.said state ++ text) (two.is state ((one.shows.shows state fitting).ended.fitting))
          ∙ sym (append_assoc (one.said state) (two.said state) (waiting result after)))));
    }

    -- the first of them was not shown whole
    pub paged_front : {after : List ℕ} (end : End) → Pages k first before middle a b (Err end) → Pages k (both first more) before after a b (Err end)
    paged_front end one = record {
      said = both one.said more;
      shows = shown_front one.said more end one.shows;
      is = λ state fitting.
          sym (append_assoc before (first state) (more state))
          ∙ (ap (λ text. text ++ more state) (one.is state fitting ∙ append-nil (one.said state))
          ∙ sym (append-nil (one.said state ++ more state)));
    }

  -- a text began on an empty page, and what is left on the page is shown
  module _ {text : State → List ℕ} {before page : List ℕ} {a b : Meaning} (empty : before ≡ []) where
    pub paged_out : {c : Meaning} (u : Unit {0}) (result : Result (Unit {0}) End) → Pages k text before page a b (Ok u) → Answers b c page result → Shows k text a c result
    paged_out u result pages answers =
        shown_same text (λ state fitting. sym (pages.is state fitting) ∙ ap (λ xs. xs ++ text state) empty) (shown_then pages.said (λ state. page) u result pages.shows (as_shown answers))

    pub paged_broke : (end : End) → Pages k text before page a b (Err end) → Shows k text a b (Err end)
    paged_broke end pages =
        shown_same text (λ state fitting. sym (pages.is state fitting ∙ append-nil (pages.said state)) ∙ ap (λ xs. xs ++ text state) empty) pages.shows

-- ---- what a loop keeps
-- This much of the text came on pages since the start, and this is left.
pub record PagedSoFar (k : Stored) (all left : State → List ℕ) (before page : List ℕ) (old now : Meaning) : Type 0 where
  pub said : State → List ℕ
  pub pages : Pages k said before page old now (Ok tt)
  pub is : (state : State) → all state ≡ said state ++ left state

module _ {k : Stored} where
  -- all is left
  pub so_far_none : {all left : State → List ℕ} (m : Meaning) (page : List ℕ) → ((state : State) → all state ≡ left state) → PagedSoFar k all left page page m m
  so_far_none m page same = record { said = λ state. []; pages = paged_none m page; is = same }

  module _ {all left : State → List ℕ} {before page : List ℕ} {old now next : Meaning} (piece rest : State → List ℕ) (so_far : PagedSoFar k all left before page old now)
      (splits : (state : State) → left state ≡ piece state ++ rest state) where
    pub so_far_more : {after : List ℕ} (u : Unit {0}) → Pages k piece page after now next (Ok u) → PagedSoFar k all rest before after old next
    so_far_more u pages = record {
      said = both so_far.said piece;
      pages = paged_then so_far.said piece tt so_far.pages pages;
      is = λ state. so_far.is state ∙ (ap (λ text. so_far.said state ++ text) (splits state) ∙ sym (append_assoc (so_far.said state) (piece state) (rest state)));
    }

    pub so_far_broke : {after : List ℕ} (end : End) → Pages k piece page after now next (Err end) → Pages k all before after old next (Err end)
    so_far_broke end pages =
        paged_same all (λ state fitting. sym (so_far.is state ∙ ap (λ text. so_far.said state ++ text) (splits state)))
        (paged_then so_far.said (both piece rest) tt so_far.pages (paged_front piece rest end pages))

  -- nothing is left
  pub so_far_all : {all left : State → List ℕ} {before page : List ℕ} {old now : Meaning} → PagedSoFar k all left before page old now → ((state : State) → FitsAt (StoreFits k old) old state → left state ≡ [])
      → Pages k all before page old now (Ok tt)
  so_far_all {all = all} so_far none =
      paged_same all (λ state fitting. sym (so_far.is state ∙ (ap (λ text. so_far.said state ++ text) (none state fitting) ∙ append-nil (so_far.said state)))) so_far.pages

-- ---- a list, by indexes
module _ {X : Type 0} where
  -- the text of the n-th element of a list, if there is one, and of those from the n-th on
  abbrev text_at : (X → List ℕ) → List X → ℕ → List ℕ
  text_at text xs n = flat_map text (option_to_list (slice_get xs n))

  abbrev text_from : (X → List ℕ) → List X → ℕ → List ℕ
  text_from text xs n = flat_map text (drop n xs)

  text_next : (text : X → List ℕ) (xs : List X) (n : ℕ) → text_from text xs n ≡ text_at text xs n ++ text_from text xs (n + 1)
  text_next text xs n = ap (flat_map text) (split_at xs n) ∙ flat_map-append text (option_to_list (slice_get xs n)) (drop (n + 1) xs)

  -- the first n came on pages
  abbrev pub PagedTo : Stored → (X → List ℕ) → (State → List X) → List ℕ → List ℕ → Meaning → Meaning → ℕ → Type 0
  PagedTo k text xs before page old now n = PagedSoFar k (λ state. flat_map text (xs state)) (λ state. text_from text (xs state) n) before page old now

  module _ {k : Stored} (text : X → List ℕ) (xs : State → List X) where
    pub to_none : (m : Meaning) (page : List ℕ) → PagedTo k text xs page page m m 0
    to_none m page = so_far_none m page (λ state. ap (flat_map text) (sym (drop_none (xs state))))

    module _ {before page after : List ℕ} {old now next : Meaning} (n : ℕ) (so_far : PagedTo k text xs before page old now n) where
      pub to_more : (u : Unit {0}) → Pages k (λ state. text_at text (xs state) n) page after now next (Ok u) → PagedTo k text xs before after old next (n + 1)
      to_more u pages = so_far_more (λ state. text_at text (xs state) n) (λ state. text_from text (xs state) (n + 1)) so_far (λ state. text_next text (xs state) n) u pages

      pub to_broke : (end : End) → Pages k (λ state. text_at text (xs state) n) page after now next (Err end) → Pages k (λ state. flat_map text (xs state)) before after old next (Err end)
      to_broke end pages = so_far_broke (λ state. text_at text (xs state) n) (λ state. text_from text (xs state) (n + 1)) so_far (λ state. text_next text (xs state) n) end pages

    pub to_all : {before page : List ℕ} {old now : Meaning} (n : ℕ) → PagedTo k text xs before page old now n → ((state : State) → FitsAt (StoreFits k old) old state → length (xs state) ≤ n)
        → Pages k (λ state. flat_map text (xs state)) before page old now (Ok tt)
    to_all n so_far few = so_far_all so_far (λ state fitting. ap (flat_map text) (drop_all n (xs state) (few state fitting)))
