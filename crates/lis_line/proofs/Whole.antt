-- Items that are complete in bytes.
use Rattle.std.proofs.Common.{◌≡◌, ℕ, ◌+◌, ◌-◌, ◌≤◌, ◌<◌, Bool, true, false, not, cond, ◌||◌, List, [], ◌∷◌, ◌++◌, length, take, drop, Option, Some, None, suc, ap, sym, subst, ◌∙◌, refl, inl, inr, arith, append_assoc}
use Rattle.std.specs.List.{prefix_len, list_any}
use Rattle.std.proofs.lemmas.List.{take-append-drop, take_all, length-take, length-drop}
use Rattle.std.proofs.lemmas.List.Sums.{prefix_len-le-length}
use Rattle.std.proofs.lemmas.Bool.{eqb-true, cases_lt}
use Rattle.lis_model.specs.declared.refusal.Refusal.TheVariants.{PayloadEnd, LongLine}
use Rattle.lis_model.specs.Step.{Item, Payload, no_payload}
use Rattle.lis_model.specs.Step.Item.{Bad}
use Rattle.lis_model.specs.Script.{First, after_feed, item_of, item_of_words, is_long, line_words, size_of_words, payload_size, payload_of, first_of, first_with, first_ended, session_cut}
use Rattle.lis_model.proofs.Lines.{IsOneLine, session_cuts, line_alone, line_with, after_feed_at, has_feed, with_payload, with_cut}
use Rattle.lis_line.specs.Reading.{IsWhole, LiesWhole}
use Rattle.lis_line.proofs.Kept.{session_lines}
use Rattle.lis_line.proofs.Asking.{not_whole_items, whole_is, whole_then}
use Rattle.lis_words.specs.Bytes.{is_feed}

-- ---- the first line
abbrev pub line_len : List ℕ → ℕ
line_len bytes = prefix_len (λ b. not (is_feed b)) bytes

one_more : (n : ℕ) → 1 + n ≡ suc n
one_more n = omega arith

line_front : (bytes : List ℕ) → IsOneLine (take (line_len bytes) bytes)
line_front [] = refl
line_front (b ∷ bytes) = by (is_feed b) refl (line_front bytes)
  where
    by : (t : Bool) → is_feed b ≡ t → IsOneLine (take (line_len bytes) bytes) → IsOneLine (take (cond (not t) (1 + line_len bytes) 0) (b ∷ bytes))
    by true e more = refl
    by false e more = rw (one_more (line_len bytes), e) more

line_back : (bytes : List ℕ) → line_len bytes < length bytes → drop (line_len bytes) bytes ≡ 10 ∷ drop 1 (drop (line_len bytes) bytes)
line_back [] some = absurd (omega (arith, some))
line_back (b ∷ bytes) some = by (is_feed b) refl (line_back bytes) some
  where
    by : (t : Bool) → is_feed b ≡ t → (line_len bytes < length bytes → drop (line_len bytes) bytes ≡ 10 ∷ drop 1 (drop (line_len bytes) bytes))
        → cond (not t) (1 + line_len bytes) 0 < length (b ∷ bytes)
        → drop (cond (not t) (1 + line_len bytes) 0) (b ∷ bytes) ≡ 10 ∷ drop 1 (drop (cond (not t) (1 + line_len bytes) 0) (b ∷ bytes))
    by true e more some = ap (λ x. x ∷ bytes) (eqb-true b 10 e)
    by false e more some = rw (one_more (line_len bytes)) (more (omega (arith, some)))

-- the bytes have no line feed
pub no_line : (bytes : List ℕ) (n : ℕ) → n ≡ line_len bytes → n ≡ length bytes → list_any is_feed bytes ≡ false
no_line bytes n is all = subst IsOneLine (ap (λ k. take k bytes) (sym is ∙ all) ∙ take_all (length bytes) bytes (omega arith)) (line_front bytes)

-- or the first line ends at a line feed
pub line_within : (bytes : List ℕ) (n : ℕ) → n ≡ line_len bytes → n ≤ length bytes
line_within bytes n is = omega (arith, is, prefix_len-le-length (λ b. not (is_feed b)) bytes)

pub first_line : (bytes : List ℕ) (n : ℕ) → n ≡ line_len bytes → n < length bytes
    → (bytes ≡ take n bytes ++ 10 ∷ drop 1 (drop n bytes)) × (list_any is_feed (take n bytes) ≡ false)
first_line bytes n is some = (
  sym (take-append-drop n bytes) ∙ ap (λ xs. take n bytes ++ xs) (subst (λ k. drop k bytes ≡ 10 ∷ drop 1 (drop k bytes)) (sym is) (line_back bytes (omega (arith, is, some)))),
  subst (λ k. IsOneLine (take k bytes)) (sym is) (line_front bytes),
)

-- the bytes after a line feed
pub behind_feed : (rest : List ℕ) → take (length rest - 1) (drop 1 rest) ≡ drop 1 rest
behind_feed rest = take_all (length rest - 1) (drop 1 rest) (omega (arith, length-drop 1 rest))

feed_at : (bytes : List ℕ) → list_any is_feed bytes ≡ true → (line : List ℕ) × (rest : List ℕ) × (bytes ≡ line ++ 10 ∷ rest) × IsOneLine line
feed_at bytes some = elim (cases_lt (line_len bytes) (length bytes)) as (λ _. (line : List ℕ) × (rest : List ℕ) × (bytes ≡ line ++ 10 ∷ rest) × IsOneLine line) [
  | inl within ↦ let split = first_line bytes (line_len bytes) refl within in (take (line_len bytes) bytes, drop 1 (drop (line_len bytes) bytes), split.0, split.1)
  | inr past ↦
      let none = no_line bytes (line_len bytes) refl (omega (arith, past, line_within bytes (line_len bytes) refl)) in
      absurd (cc)
]

-- ---- a payload, and what ends it
-- If there are enough bytes, the segment is whole exactly if a line feed follows the payload.
ended_is_whole : (item : Option Item) (bytes : List ℕ) → (first_ended item bytes).is_whole ≡ list_any is_feed bytes
ended_is_whole item [] = refl
ended_is_whole item (b ∷ bytes) = by (is_feed b)
  where
    by : (t : Bool) → (cond {A = First} t (record { item = item; rest = bytes; is_whole = true }) (record { item = Some (Bad PayloadEnd); rest = after_feed bytes; is_whole = list_any is_feed bytes })).is_whole
        ≡ (t || list_any is_feed bytes)
    by true = refl
    by false = refl

pub with_is_whole : (line bytes : List ℕ) (size : ℕ) → size ≤ length bytes → (first_with line size bytes).is_whole ≡ list_any is_feed (drop size bytes)
with_is_whole line bytes size enough =
    ap (λ xs. (first_with line size xs).is_whole) (sym (take-append-drop size bytes))
    ∙ ap (λ (f : First). f.is_whole) (with_payload line (take size bytes) (drop size bytes) size (omega (arith, length-take size bytes, enough)))
    ∙ ended_is_whole (item_of line (payload_of size (take size bytes))) (drop size bytes)

-- a line that a payload follows requests something
sized_asks : (line : List ℕ) (size : ℕ) (payload : Payload) → payload_size line ≡ Some size → (item : Item) × (item_of line payload ≡ Some item)
sized_asks line size payload = by (is_long line) (line_words line)
  where
    by : (long : Bool) (words : List (List ℕ)) → cond {A = Option ℕ} long None (size_of_words words) ≡ Some size
        → (item : Item) × (cond {A = Option Item} long (Some (Bad LongLine)) (item_of_words words payload) ≡ Some item)
    by true words sized = absurd (cc)
    by false [] sized = absurd (cc)
    by false (first ∷ words) sized = (_, refl)

-- what ends it: its line feed, or everything up to the next one
ended_at : (item : Item) (text : List ℕ) → IsOneLine text
    → (asked : Item) × ((more : List ℕ) → first_ended (Some item) (text ++ 10 ∷ more) ≡ record { item = Some asked; rest = more; is_whole = true })
ended_at item [] one = (item, λ more. refl)
ended_at item (b ∷ text) one = by (is_feed b) one
  where
    by : (t : Bool) → (t || list_any is_feed text) ≡ false
        → (asked : Item) × ((more : List ℕ)
        → cond {A = First} t (record { item = Some item; rest = text ++ 10 ∷ more; is_whole = true }) (record { item = Some (Bad PayloadEnd); rest = after_feed (text ++ 10 ∷ more); is_whole = list_any is_feed (text ++ 10 ∷ more) })
        ≡ record { item = Some asked; rest = more; is_whole = true })
    by true one = absurd (cc)
    by false one = (
      Bad PayloadEnd,
      λ more. ap (λ rest. record { item = Some (Bad PayloadEnd); rest = rest; is_whole = list_any is_feed (text ++ 10 ∷ more) }) (after_feed_at text more one)
          ∙ ap (λ whole. record { item = Some (Bad PayloadEnd); rest = more; is_whole = whole }) (has_feed text more),
    )

-- ---- the first segment
segment_lies : (bytes front rest : List ℕ) (item : Item) → bytes ≡ front ++ rest
    → ((more : List ℕ) → first_of (front ++ more) ≡ record { item = Some item; rest = more; is_whole = true }) → LiesWhole session_cut bytes
segment_lies bytes front rest item is whole = record { front = front; rest = rest; is = is; item = item; whole = whole_is session_cuts session_lines front (Some item) whole }

pub sized_lies : (bytes line behind : List ℕ) (size : ℕ) → bytes ≡ line ++ 10 ∷ behind → IsOneLine line → payload_size line ≡ Some size
    → (first_with line size behind).is_whole ≡ true → LiesWhole session_cut bytes
sized_lies bytes line behind size is one sized whole = elim (cases_lt (length behind) size) as (λ _. LiesWhole session_cut bytes) [
  | inl few ↦ let cut = ap (λ (f : First). f.is_whole) (with_cut line behind size few) in absurd (cc)
  | inr enough ↦
      let payload : List ℕ = take size behind in
      let all : length payload ≡ size = omega (arith, length-take size behind, enough) in
      let ends = feed_at (drop size behind) (sym (with_is_whole line behind size enough) ∙ whole) in
      let asks = sized_asks line size (payload_of size payload) sized in
      let ended = ended_at asks.0 ends.0 ends.3 in
      segment_lies bytes (line ++ 10 ∷ (payload ++ (ends.0 ++ 10 ∷ []))) ends.1 ended.0
      (is ∙ ap (λ xs. line ++ 10 ∷ xs) (sym (take-append-drop size behind) ∙ ap (λ xs. payload ++ xs) ends.2
      ∙ sym (append_assoc payload (ends.0 ++ 10 ∷ []) ends.1 ∙ ap (λ xs. payload ++ xs) (append_assoc ends.0 (10 ∷ []) ends.1)))
      ∙ sym (append_assoc line (10 ∷ (payload ++ (ends.0 ++ 10 ∷ []))) ends.1))
      (λ more. ap first_of (append_assoc line (10 ∷ (payload ++ (ends.0 ++ 10 ∷ []))) more)
      ∙ line_with line ((payload ++ (ends.0 ++ 10 ∷ [])) ++ more) size one sized
      ∙ ap (first_with line size) (append_assoc payload (ends.0 ++ 10 ∷ []) more ∙ ap (λ xs. payload ++ xs) (append_assoc ends.0 (10 ∷ []) more))
      ∙ with_payload line payload (ends.0 ++ 10 ∷ more) size all
      ∙ ap (λ item. first_ended item (ends.0 ++ 10 ∷ more)) asks.1
      ∙ ended.1 more)
]

-- a line that no payload follows, with its line feed
alone : (line : List ℕ) (item : Option Item) → IsOneLine line → payload_size line ≡ None → item_of line no_payload ≡ item
    → (more : List ℕ) → first_of ((line ++ 10 ∷ []) ++ more) ≡ record { item = item; rest = more; is_whole = true }
alone line item one none asks more =
    ap first_of (append_assoc line (10 ∷ []) more) ∙ line_alone line more one none ∙ ap (λ asked. record { item = asked; rest = more; is_whole = true }) asks

pub line_lies : (bytes line behind : List ℕ) → bytes ≡ line ++ 10 ∷ behind → IsOneLine line → payload_size line ≡ None
    → (item_of line no_payload ≡ None → ⊥) → LiesWhole session_cut bytes
line_lies bytes line behind is one none some = by (item_of line no_payload) refl some
  where
    by : (item : Option Item) → item_of line no_payload ≡ item → (item ≡ None → ⊥) → LiesWhole session_cut bytes
    by None asks some = absurd (some refl)
    by (Some item) asks some = segment_lies bytes (line ++ 10 ∷ []) behind item (is ∙ sym (append_assoc line (10 ∷ []) behind)) (alone line (Some item) one none asks)

-- ---- lines that request nothing, one after another
pub record Passing (bytes rest : List ℕ) : Type 0 where
  pub passed : List ℕ
  pub is : bytes ≡ passed ++ rest
  pub blank : IsWhole session_cut passed []

pub passing_none : (bytes : List ℕ) → Passing bytes bytes
passing_none bytes = record { passed = []; is = refl; blank = record { all = λ more. refl; whole = λ more. refl } }

pub passing_more : (bytes rest line behind : List ℕ) → Passing bytes rest → rest ≡ line ++ 10 ∷ behind → IsOneLine line → payload_size line ≡ None
    → item_of line no_payload ≡ None → Passing bytes behind
passing_more bytes rest line behind passing is one none asks = record {
  passed = passing.passed ++ (line ++ 10 ∷ []);
  is = passing.is ∙ ap (λ xs. passing.passed ++ xs) (is ∙ sym (append_assoc line (10 ∷ []) behind)) ∙ sym (append_assoc passing.passed (line ++ 10 ∷ []) behind);
  blank = whole_then passing.blank (whole_is session_cuts session_lines (line ++ 10 ∷ []) None (alone line None one none asks));
}

pub passing_lies : (bytes rest : List ℕ) → Passing bytes rest → LiesWhole session_cut rest → LiesWhole session_cut bytes
passing_lies bytes rest passing lies = record {
  front = passing.passed ++ lies.front;
  rest = lies.rest;
  is = passing.is ∙ ap (λ xs. passing.passed ++ xs) lies.is ∙ sym (append_assoc passing.passed lies.front lies.rest);
  item = lies.item;
  whole = whole_then passing.blank lies.whole;
}

pub passing_nothing : (bytes rest : List ℕ) → Passing bytes rest → (first_of rest).is_whole ≡ false → session_cut.whole bytes ≡ []
passing_nothing bytes rest passing none = ap session_cut.whole passing.is ∙ passing.blank.whole rest ∙ not_whole_items session_cuts session_lines rest none

pub not_whole : (bytes : List ℕ) → list_any is_feed bytes ≡ false → (first_of bytes).is_whole ≡ false
not_whole bytes one = ap (λ (f : First). f.is_whole) (session_lines.last bytes one)

pub sized_not_whole : (bytes line behind : List ℕ) (size : ℕ) → bytes ≡ line ++ 10 ∷ behind → IsOneLine line → payload_size line ≡ Some size
    → (first_with line size behind).is_whole ≡ false → (first_of bytes).is_whole ≡ false
sized_not_whole bytes line behind size is one sized none = ap (λ xs. (first_of xs).is_whole) is ∙ ap (λ (f : First). f.is_whole) (line_with line behind size one sized) ∙ none
