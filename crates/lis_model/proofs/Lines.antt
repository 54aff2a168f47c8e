-- What the first segment of an input adds to its items.
use Rattle.std.proofs.Common.{◌≡◌, ℕ, ◌<◌, ◌≤◌, nat_lt, Bool, true, false, cond, ◌||◌, Option, Some, None, List, [], ◌∷◌, ◌++◌, length, take, drop, ◌-◌, ◌⊎◌, zero, suc, refl, ap, sym, subst, ◌∙◌, inl, inr, arith, append-nil, length-append}
use Rattle.std.proofs.lemmas.List.{length-drop}
use Rattle.std.proofs.Math.Seq.{take-append_seam, drop-append_seam}
use Rattle.std.proofs.lemmas.List.Folds.{list_any-append}
use Rattle.std.proofs.lemmas.Bool.{or_right, le-leb}
use Rattle.std.proofs.lemmas.Bool.Decides.{leb_tells}
use Rattle.std.specs.Option.{option_to_list}
use Rattle.std.specs.List.{list_any}
use Rattle.lis_model.specs.declared.refusal.Refusal.TheVariants.{CutPayload, PayloadEnd}
use Rattle.lis_model.specs.Step.{Item, no_payload}
use Rattle.lis_model.specs.Step.Item.{Bad}
use Rattle.lis_model.specs.Script.{before_feed, after_feed, item_of, payload_size, payload_of, FirstOf, First, Cut, session_cut, first_ended, first_with, first_by, first_of, items_within, all_items, whole_within, whole_items}
use Rattle.lis_words.specs.Bytes.{is_feed}

-- a text with no line feed in it
abbrev pub IsOneLine : List ℕ → Type 0
IsOneLine text = list_any is_feed text ≡ false

pub after_feed_shorter : (bytes : List ℕ) → length (after_feed bytes) ≤ length bytes
after_feed_shorter [] = omega arith
after_feed_shorter (b ∷ bytes) = by (is_feed b) (after_feed_shorter bytes)
  where
    by : (t : Bool) → length (after_feed bytes) ≤ length bytes → length (cond t bytes (after_feed bytes)) ≤ length (b ∷ bytes)
    by true more = omega arith
    by false more = omega (arith, more)

pub ended_shorter : (item : Option Item) (bytes : List ℕ) → length (first_ended item bytes).rest ≤ length bytes
ended_shorter item [] = omega arith
ended_shorter item (b ∷ bytes) = by (is_feed b) (after_feed_shorter bytes)
  where
    by : (t : Bool) → length (after_feed bytes) ≤ length bytes
        → length (cond {A = First} t (record { item = item; rest = bytes; is_whole = true }) (record { item = Some (Bad PayloadEnd); rest = after_feed bytes; is_whole = list_any is_feed bytes })).rest
        ≤ length (b ∷ bytes)
    by true more = omega arith
    by false more = omega (arith, more)

pub with_shorter : (text : List ℕ) (size : ℕ) (bytes : List ℕ) → length (first_with text size bytes).rest ≤ length bytes
with_shorter text size bytes = by (nat_lt (length bytes) size) (ended_shorter (item_of text (payload_of size (take size bytes))) (drop size bytes)) (length-drop size bytes)
  where
    by : (t : Bool) → length (first_ended (item_of text (payload_of size (take size bytes))) (drop size bytes)).rest ≤ length (drop size bytes)
        → length (drop size bytes) ≡ length bytes - size
        → length (cond {A = First} t (record { item = Some (Bad CutPayload); rest = []; is_whole = false }) (first_ended (item_of text (payload_of size (take size bytes))) (drop size bytes))).rest
        ≤ length bytes
    by true more len = omega arith
    by false more len = omega (arith, more, len)

feed_shorter : (b : ℕ) (bytes : List ℕ) → length (after_feed (b ∷ bytes)) ≤ length bytes
feed_shorter b bytes = by (is_feed b) (after_feed_shorter bytes)
  where
    by : (t : Bool) → length (after_feed bytes) ≤ length bytes → length (cond t bytes (after_feed bytes)) ≤ length bytes
    by true more = omega arith
    by false more = more

rest_shorter : (b : ℕ) (bytes : List ℕ) → length (first_of (b ∷ bytes)).rest ≤ length bytes
rest_shorter b bytes = by (payload_size (before_feed (b ∷ bytes))) (feed_shorter b bytes)
  where
    by : (size : Option ℕ) → length (after_feed (b ∷ bytes)) ≤ length bytes → length (first_by size (b ∷ bytes)).rest ≤ length bytes
    by None more = more
    by (Some n) more = omega (arith, more, with_shorter (before_feed (b ∷ bytes)) n (after_feed (b ∷ bytes)))

-- ---- items in sequence, if each part takes at least one byte
abbrev pub TakesSome : {I : Type 0} → (List ℕ → FirstOf I) → Type 0
TakesSome first = (b : ℕ) (bytes : List ℕ) → length (first (b ∷ bytes)).rest ≤ length bytes

-- more turns than there are bytes change nothing
items_fuel : {I : Type 0} (first : List ℕ → FirstOf I) → TakesSome first → (n m : ℕ) (bytes : List ℕ) → length bytes ≤ n → length bytes ≤ m → items_within first n bytes ≡ items_within first m bytes
items_fuel first some zero zero bytes h k = refl
items_fuel first some zero (suc m) [] h k = refl
items_fuel first some zero (suc m) (b ∷ bytes) h k = absurd (omega arith)
items_fuel first some (suc n) zero [] h k = refl
items_fuel first some (suc n) zero (b ∷ bytes) h k = absurd (omega arith)
items_fuel first some (suc n) (suc m) [] h k = refl
items_fuel first some (suc n) (suc m) (b ∷ bytes) h k =
    ap (λ items. option_to_list (first (b ∷ bytes)).item ++ items)
    (items_fuel first some n m (first (b ∷ bytes)).rest (omega (arith, some b bytes)) (omega (arith, some b bytes)))

whole_fuel : {I : Type 0} (first : List ℕ → FirstOf I) → TakesSome first → (n m : ℕ) (bytes : List ℕ) → length bytes ≤ n → length bytes ≤ m → whole_within first n bytes ≡ whole_within first m bytes
whole_fuel first some zero zero bytes h k = refl
whole_fuel first some zero (suc m) [] h k = refl
whole_fuel first some zero (suc m) (b ∷ bytes) h k = absurd (omega arith)
whole_fuel first some (suc n) zero [] h k = refl
whole_fuel first some (suc n) zero (b ∷ bytes) h k = absurd (omega arith)
whole_fuel first some (suc n) (suc m) [] h k = refl
whole_fuel first some (suc n) (suc m) (b ∷ bytes) h k =
    ap (λ items. cond (first (b ∷ bytes)).is_whole (option_to_list (first (b ∷ bytes)).item ++ items) [])
    (whole_fuel first some n m (first (b ∷ bytes)).rest (omega (arith, some b bytes)) (omega (arith, some b bytes)))

-- A cut of inputs by their first segments: what the first segment requests, and then the items of the rest.
pub record CutsBy {I : Type 0} (cut : Cut I) (first : List ℕ → FirstOf I) : Type 0 where
  pub all_none : cut.all [] ≡ []
  pub whole_none : cut.whole [] ≡ []
  pub all : (bytes : List ℕ) (part : FirstOf I) → 0 < length bytes → first bytes ≡ part → cut.all bytes ≡ option_to_list part.item ++ cut.all part.rest
  pub whole : (bytes : List ℕ) (part : FirstOf I) → 0 < length bytes → first bytes ≡ part
      → cut.whole bytes ≡ cond part.is_whole (option_to_list part.item ++ cut.whole part.rest) []

pub cuts_by : {I : Type 0} (first : List ℕ → FirstOf I) → TakesSome first
    → CutsBy (record { all = λ bytes. items_within first (length bytes) bytes; whole = λ bytes. whole_within first (length bytes) bytes }) first
cuts_by {I} first some = record { all_none = refl; whole_none = refl; all = all; whole = whole }
  where
    all : (bytes : List ℕ) (part : FirstOf I) → 0 < length bytes → first bytes ≡ part
        → items_within first (length bytes) bytes ≡ option_to_list part.item ++ items_within first (length part.rest) part.rest
    all [] part h is = absurd (omega arith)
    all (b ∷ bytes) part h is =
        ap (λ items. option_to_list (first (b ∷ bytes)).item ++ items)
        (items_fuel first some (length bytes) (length (first (b ∷ bytes)).rest) (first (b ∷ bytes)).rest (some b bytes) (omega arith))
        ∙ ap (λ (f : FirstOf I). option_to_list f.item ++ items_within first (length f.rest) f.rest) is

    whole : (bytes : List ℕ) (part : FirstOf I) → 0 < length bytes → first bytes ≡ part
        → whole_within first (length bytes) bytes ≡ cond part.is_whole (option_to_list part.item ++ whole_within first (length part.rest) part.rest) []
    whole [] part h is = absurd (omega arith)
    whole (b ∷ bytes) part h is =
        ap (λ items. cond (first (b ∷ bytes)).is_whole (option_to_list (first (b ∷ bytes)).item ++ items) [])
        (whole_fuel first some (length bytes) (length (first (b ∷ bytes)).rest) (first (b ∷ bytes)).rest (some b bytes) (omega arith))
        ∙ ap (λ (f : FirstOf I). cond f.is_whole (option_to_list f.item ++ whole_within first (length f.rest) f.rest) []) is

pub session_cuts : CutsBy session_cut first_of
unfolding all_items whole_items
session_cuts = cuts_by first_of rest_shorter

-- the items of a session: what the first segment of its input requests, and then those of the rest
pub all_items_of : (bytes : List ℕ) (first : First) → 0 < length bytes → first_of bytes ≡ first
    → all_items bytes ≡ option_to_list first.item ++ all_items first.rest
all_items_of bytes first some is = session_cuts.all bytes first some is

pub all_items_none : all_items [] ≡ []
all_items_none = session_cuts.all_none

pub before_feed_at : (text more : List ℕ) → IsOneLine text → before_feed (text ++ 10 ∷ more) ≡ text
before_feed_at [] more h = refl
before_feed_at (b ∷ text) more h = by (is_feed b) h (before_feed_at text more)
  where
    by : (t : Bool) → (t || list_any is_feed text) ≡ false → (IsOneLine text → before_feed (text ++ 10 ∷ more) ≡ text)
        → cond t [] (b ∷ before_feed (text ++ 10 ∷ more)) ≡ b ∷ text
    by true h ih = absurd (cc)
    by false h ih = ap (λ xs. b ∷ xs) (ih h)

pub after_feed_at : (text more : List ℕ) → IsOneLine text → after_feed (text ++ 10 ∷ more) ≡ more
after_feed_at [] more h = refl
after_feed_at (b ∷ text) more h = by (is_feed b) h (after_feed_at text more)
  where
    by : (t : Bool) → (t || list_any is_feed text) ≡ false → (IsOneLine text → after_feed (text ++ 10 ∷ more) ≡ more)
        → cond t (text ++ 10 ∷ more) (after_feed (text ++ 10 ∷ more)) ≡ more
    by true h ih = absurd (cc)
    by false h ih = ih h

pub before_feed_all : (text : List ℕ) → IsOneLine text → before_feed text ≡ text
before_feed_all [] h = refl
before_feed_all (b ∷ text) h = by (is_feed b) h (before_feed_all text)
  where
    by : (t : Bool) → (t || list_any is_feed text) ≡ false → (IsOneLine text → before_feed text ≡ text)
        → cond t [] (b ∷ before_feed text) ≡ b ∷ text
    by true h ih = absurd (cc)
    by false h ih = ap (λ xs. b ∷ xs) (ih h)

pub after_feed_all : (text : List ℕ) → IsOneLine text → after_feed text ≡ []
after_feed_all [] h = refl
after_feed_all (b ∷ text) h = by (is_feed b) h (after_feed_all text)
  where
    by : (t : Bool) → (t || list_any is_feed text) ≡ false → (IsOneLine text → after_feed text ≡ [])
        → cond t text (after_feed text) ≡ []
    by true h ih = absurd (cc)
    by false h ih = ih h

pub has_feed : (text more : List ℕ) → list_any is_feed (text ++ 10 ∷ more) ≡ true
has_feed text more = list_any-append is_feed text (10 ∷ more) ∙ or_right (list_any is_feed text) true refl

-- a line with its line feed, and nothing that follows it by its words
pub line_alone : (text more : List ℕ) → IsOneLine text → payload_size text ≡ None
    → first_of (text ++ 10 ∷ more) ≡ record { item = item_of text no_payload; rest = more; is_whole = true }
line_alone text more one none =
    ap (λ line. first_by (payload_size line) (text ++ 10 ∷ more)) (before_feed_at text more one)
    ∙ ap (λ size. first_by size (text ++ 10 ∷ more)) none
    ∙ ap (λ line. record { item = item_of line no_payload; rest = after_feed (text ++ 10 ∷ more); is_whole = list_any is_feed (text ++ 10 ∷ more) }) (before_feed_at text more one)
    ∙ ap (λ rest. record { item = item_of text no_payload; rest = rest; is_whole = list_any is_feed (text ++ 10 ∷ more) }) (after_feed_at text more one)
    ∙ ap (λ whole. record { item = item_of text no_payload; rest = more; is_whole = whole }) (has_feed text more)

-- a line with its line feed, and bytes that follow it
pub line_with : (text more : List ℕ) (size : ℕ) → IsOneLine text → payload_size text ≡ Some size
    → first_of (text ++ 10 ∷ more) ≡ first_with text size more
line_with text more size one some =
    ap (λ line. first_by (payload_size line) (text ++ 10 ∷ more)) (before_feed_at text more one)
    ∙ ap (λ n. first_by n (text ++ 10 ∷ more)) some
    ∙ ap (λ line. first_with line size (after_feed (text ++ 10 ∷ more))) (before_feed_at text more one)
    ∙ ap (λ rest. first_with text size rest) (after_feed_at text more one)

-- the last line, without a line feed
pub last_alone : (text : List ℕ) → IsOneLine text → payload_size text ≡ None
    → first_of text ≡ record { item = item_of text no_payload; rest = []; is_whole = false }
last_alone text one none =
    ap (λ line. first_by (payload_size line) text) (before_feed_all text one)
    ∙ ap (λ size. first_by size text) none
    ∙ ap (λ line. record { item = item_of line no_payload; rest = after_feed text; is_whole = list_any is_feed text }) (before_feed_all text one)
    ∙ ap (λ rest. record { item = item_of text no_payload; rest = rest; is_whole = list_any is_feed text }) (after_feed_all text one)
    ∙ ap (λ whole. record { item = item_of text no_payload; rest = []; is_whole = whole }) one

pub last_with : (text : List ℕ) (size : ℕ) → IsOneLine text → payload_size text ≡ Some size → first_of text ≡ first_with text size []
last_with text size one some =
    ap (λ line. first_by (payload_size line) text) (before_feed_all text one)
    ∙ ap (λ n. first_by n text) some
    ∙ ap (λ line. first_with line size (after_feed text)) (before_feed_all text one)
    ∙ ap (λ rest. first_with text size rest) (after_feed_all text one)

-- fewer bytes than must follow
pub with_cut : (text bytes : List ℕ) (size : ℕ) → length bytes < size
    → first_with text size bytes ≡ record { item = Some (Bad CutPayload); rest = []; is_whole = false }
with_cut text bytes size few = rw (le-leb (suc (length bytes)) size few) refl

-- a payload, and what follows it
pub with_payload : (text payload more : List ℕ) (size : ℕ) → length payload ≡ size
    → first_with text size (payload ++ more) ≡ first_ended (item_of text (payload_of size payload)) more
with_payload text payload more size is =
    let enough : nat_lt (length (payload ++ more)) size ≡ false = by (leb_tells (suc (length (payload ++ more))) size) in
    rw enough
    (ap (λ xs. first_ended (item_of text (payload_of size xs)) (drop size (payload ++ more))) (subst (λ n. take n (payload ++ more) ≡ payload) is (take-append_seam payload more))
    ∙ ap (λ xs. first_ended (item_of text (payload_of size payload)) xs) (subst (λ n. drop n (payload ++ more) ≡ more) is (drop-append_seam payload more)))
  where
    by : ((nat_lt (length (payload ++ more)) size ≡ true) × (suc (length (payload ++ more)) ≤ size)) ⊎ ((nat_lt (length (payload ++ more)) size ≡ false) × (size < suc (length (payload ++ more))))
        → nat_lt (length (payload ++ more)) size ≡ false
    by (inl h) = absurd (omega (arith, h.1, is, length-append payload more))
    by (inr h) = h.0

-- a payload, and the end of the input
pub with_end : (text payload : List ℕ) (size : ℕ) → length payload ≡ size
    → first_with text size payload ≡ record { item = item_of text (payload_of size payload); rest = []; is_whole = false }
with_end text payload size is = ap (first_with text size) (sym (append-nil payload)) ∙ with_payload text payload [] size is

-- a payload, and a byte that is no line feed
pub with_other : (text payload : List ℕ) (b : ℕ) (more : List ℕ) (size : ℕ) → length payload ≡ size → is_feed b ≡ false
    → first_with text size (payload ++ b ∷ more) ≡ record { item = Some (Bad PayloadEnd); rest = after_feed more; is_whole = list_any is_feed more }
with_other text payload b more size is other = with_payload text payload (b ∷ more) size is ∙ rw other refl
