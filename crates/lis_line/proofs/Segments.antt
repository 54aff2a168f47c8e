-- Segments taken one piece after another.
use Rattle.std.proofs.Common.{◌≡◌, ℕ, ◌<◌, true, zero, suc, unwrap_or, List, [], ◌∷◌, ◌++◌, length, Option, Some, None, Result, Ok, Err, ap, sym, subst, ◌∙◌, refl, arith, append_assoc}
use Rattle.std.specs.Option.{option_map}
use Rattle.std.specs.Io.KnownBytes.{IsAtEnd}
use Rattle.std.specs.List.{list_any}
use Rattle.lis_model.specs.declared.command.Command.{Command}
use Rattle.lis_model.specs.declared.refusal.Refusal.{Refusal}
use Rattle.lis_model.specs.declared.refusal.Refusal.TheVariants.{PayloadEnd, CutPayload}
use Rattle.lis_model.specs.Step.{Item, Payload, no_payload}
use Rattle.lis_model.specs.Step.Item.{Bad}
use Rattle.lis_model.specs.Script.{First, FirstOf, item_of, payload_size, payload_of, first_of, first_with, first_ended}
use Rattle.lis_model.proofs.Lines.{IsOneLine, after_feed_at, after_feed_all, has_feed, line_alone, line_with, last_alone, last_with, with_cut, with_payload}
use Rattle.lis_line.specs.declared.input.Segment.{Segment}
use Rattle.lis_line.specs.declared.input.Segment.TheVariants.{Whole, Last, PastLimit}
use Rattle.lis_line.specs.Stock.{Stocked, LineTaken}
use Rattle.lis_line.specs.Forms.{line_asks}
use Rattle.lis_line.specs.Reading.{Gave, item_with}
use Rattle.lis_line.specs.Segments.{WholeSegment, LastSegment, TakesSegment, first_dropped}
use Rattle.lis_line.proofs.Bytes.{gave_none, gave_then, gave_line}
use Rattle.lis_line.proofs.Sized.{asks_alone}
use Rattle.lis_words.specs.Bytes.{is_feed}

-- a segment that begins with these bytes, if `after` gives what follows them
pub segment_behind : {I R E : Type 0} (first after : List ℕ → FirstOf I) (asks : R → I) (old now next : Stocked) (left_before left left_after : Option (List ℕ)) (start : List ℕ)
    (result : Result (Segment R) E) → Gave old now left_before left start → ((more : List ℕ) → first (start ++ more) ≡ after more)
    → TakesSegment after asks now next left left_after result → TakesSegment first asks old next left_before left_after result
segment_behind first after asks old now next left_before left left_after start (Ok (Whole asked)) gave same segment = record {
  bytes = start ++ segment.bytes;
  gave = gave_then old now next left_before left left_after start segment.bytes gave segment.gave;
  within = segment.within;
  is = λ more. ap first (append_assoc start segment.bytes more) ∙ same (segment.bytes ++ more) ∙ segment.is more;
}
segment_behind first after asks old now next left_before left left_after start (Ok (Last asked)) gave same segment = record {
  bytes = start ++ segment.bytes;
  gave = gave_then old now next left_before left left_after start segment.bytes gave segment.gave;
  within = segment.within;
  is = same segment.bytes ∙ segment.is;
  nothing_ahead = segment.nothing_ahead;
  at_end = segment.at_end;
}
segment_behind {I} first after asks old now next left_before left left_after start (Ok PastLimit) gave same segment = record {
  bytes = start ++ segment.bytes;
  byte = segment.byte;
  gave = subst (λ xs. Gave old next left_before left_after xs) (sym (append_assoc start segment.bytes (segment.byte ∷ [])))
      (gave_then old now next left_before left left_after start (segment.bytes ++ segment.byte ∷ []) gave segment.gave);
  spent = segment.spent;
  not_whole = ap (λ (f : FirstOf I). f.is_whole) (same segment.bytes) ∙ segment.not_whole;
}
segment_behind {I} first after asks old now next left_before left left_after start (Err failed) gave same segment = record {
  bytes = start ++ segment.bytes;
  gave = gave_then old now next left_before left left_after start segment.bytes gave segment.gave;
  within = segment.within;
  not_whole = ap (λ (f : FirstOf I). f.is_whole) (same segment.bytes) ∙ segment.not_whole;
  nothing_ahead = segment.nothing_ahead;
}

-- what is dropped, with its line feed
pub dropped_whole : (old new : Stocked) (left_before left : Option (List ℕ)) (line text : List ℕ) → LineTaken old new left_before left line text (text ++ 10 ∷ [])
    → 0 < new.rest → WholeSegment first_dropped old new left_before left (Some (Bad PayloadEnd))
dropped_whole old new left_before left line text taken some = record {
  bytes = text ++ 10 ∷ [];
  gave = gave_line old new left_before left line text (text ++ 10 ∷ []) taken;
  within = some;
  is = λ more.
      ap first_dropped (append_assoc text (10 ∷ []) more)
      ∙ ap (λ rest. record { item = Some (Bad PayloadEnd); rest = rest; is_whole = list_any is_feed (text ++ 10 ∷ more) }) (after_feed_at text more taken.one_line)
      ∙ ap (λ whole. record { item = Some (Bad PayloadEnd); rest = more; is_whole = whole }) (has_feed text more);
}

-- up to the end of the input
pub dropped_last : (old new : Stocked) (left_before left : Option (List ℕ)) (line text : List ℕ) → LineTaken old new left_before left line text text
    → 0 < new.rest → new.ahead ≡ [] → IsAtEnd left → LastSegment first_dropped old new left_before left (Some (Bad PayloadEnd))
dropped_last old new left_before left line text taken some none end = record {
  bytes = text;
  gave = gave_line old new left_before left line text text taken;
  within = some;
  is = ap (λ rest. record { item = Some (Bad PayloadEnd); rest = rest; is_whole = list_any is_feed text }) (after_feed_all text taken.one_line)
      ∙ ap (λ whole. record { item = Some (Bad PayloadEnd); rest = []; is_whole = whole }) taken.one_line;
  nothing_ahead = none;
  at_end = end;
}

-- after a payload: a line feed, the end, or another byte
pub ended_whole : (old new : Stocked) (left_before left : Option (List ℕ)) (byte : ℕ) (item : Option Item)
    → Gave old new left_before left (byte ∷ []) → 0 < new.rest → is_feed byte ≡ true → WholeSegment (first_ended item) old new left_before left item
ended_whole old new left_before left byte item gave some feed = record {
  bytes = byte ∷ [];
  gave = gave;
  within = some;
  is = λ more. rw feed refl;
}

pub ended_last : (old new : Stocked) (left_before left : Option (List ℕ)) (item : Option Item)
    → Gave old new left_before left [] → 0 < new.rest → new.ahead ≡ [] → IsAtEnd left → LastSegment (first_ended item) old new left_before left item
ended_last old new left_before left item gave some none end = record {
  bytes = [];
  gave = gave;
  within = some;
  is = refl;
  nothing_ahead = none;
  at_end = end;
}

-- a payload, and what follows it
pub payload_ended : (line bytes more : List ℕ) (size : ℕ) (payload : Payload) (item : Option Item) → length bytes ≡ size → payload ≡ payload_of size bytes → item ≡ item_of line payload
    → first_with line size (bytes ++ more) ≡ first_ended item more
payload_ended line bytes more size payload item all is asks = with_payload line bytes more size all ∙ rw (asks, is) refl

-- no payload follows the line
pub behind_alone : (stock : Stocked) (left : Option (List ℕ)) (line : List ℕ) (payload : Payload) (asked : Option (Result Command Refusal))
    → IsOneLine line → payload_size line ≡ None → 0 < stock.rest → payload ≡ no_payload → line_asks no_payload asked ≡ item_of line no_payload
    → WholeSegment (λ more. first_of (line ++ 10 ∷ more)) stock stock left left (option_map (item_with payload) asked)
behind_alone stock left line payload asked one alone some none is = record {
  bytes = [];
  gave = gave_none stock left;
  within = some;
  is = λ more. line_alone line more one alone
      ∙ ap (λ item. record { item = item; rest = more; is_whole = true }) (sym is ∙ asks_alone asked ∙ ap (λ p. option_map (item_with p) asked) (sym none));
}

-- a payload follows it
pub behind_with : {E : Type 0} (old new : Stocked) (left_before left : Option (List ℕ)) (line : List ℕ) (size : ℕ) (payload : Payload) (result : Result (Segment (Result Command Refusal)) E)
    → IsOneLine line → payload_size line ≡ Some size → TakesSegment (first_with line size) (item_with payload) old new left_before left result
    → TakesSegment (λ more. first_of (line ++ 10 ∷ more)) (item_with payload) old new left_before left result
behind_with old new left_before left line size payload result one sized takes =
    segment_behind (λ more. first_of (line ++ 10 ∷ more)) (first_with line size) (item_with payload) old old new left_before left_before left [] result
    (gave_none old left_before) (λ more. line_with line more size one sized) takes

-- what a last line requests
pub last_asks : (line : List ℕ) (asked : Option (Result Command Refusal)) → IsOneLine line → unwrap_or (payload_size line) 0 ≡ 0
    → line_asks no_payload asked ≡ item_of line no_payload → option_map (item_with no_payload) asked ≡ (first_of line).item
last_asks line asked one none is = sym (asks_alone asked) ∙ is ∙ sym (by (payload_size line) refl none)
  where
    by : (size : Option ℕ) → payload_size line ≡ size → unwrap_or size 0 ≡ 0 → (first_of line).item ≡ item_of line no_payload
    by None sized none = ap (λ (f : First). f.item) (last_alone line one sized)
    by (Some zero) sized none = ap (λ (f : First). f.item) (last_with line 0 one sized)
    by (Some (suc n)) sized none = absurd (omega arith)

pub last_cut : (line : List ℕ) → IsOneLine line → 0 < unwrap_or (payload_size line) 0 → Some (Bad CutPayload) ≡ (first_of line).item
last_cut line one = by (payload_size line) refl
  where
    by : (size : Option ℕ) → payload_size line ≡ size → 0 < unwrap_or size 0 → Some (Bad CutPayload) ≡ (first_of line).item
    by None sized some = absurd (omega arith)
    by (Some n) sized some = sym (ap (λ (f : First). f.item) (last_with line n one sized ∙ with_cut line [] n some))
