-- What is taken of an input of rooms.
use Rattle.std.proofs.Common.{◌≡◌, ℕ, ◌<◌, true, List, [], ◌∷◌, ◌++◌, drop, Option, Some, None, Result, ap, sym, ◌∙◌}
use Rattle.lis_model.specs.Step.{Payload}
use Rattle.lis_model.specs.Script.{First, FirstOf, first_of}
use Rattle.lis_model.proofs.Lines.{IsOneLine}
use Rattle.lis_line.specs.declared.input.Segment.{Segment}
use Rattle.lis_line.specs.declared.tagged.Spoken.{Spoken}
use Rattle.lis_line.specs.Stock.{Stocked}
use Rattle.lis_line.specs.Segments.{WholeSegment, SegmentFailed, TakesSegment}
use Rattle.lis_line.specs.Tagged.{Tagged, after_blanks, spoken_in, no_room, in_room, first_tagged}
use Rattle.lis_line.specs.Spoken.{tagged_with}
use Rattle.lis_line.proofs.Bytes.{gave_none}
use Rattle.lis_line.proofs.Segments.{segment_behind}
use Rattle.lis_line.proofs.Rooms.{outside_at, inside_at, outside_last, inside_last}

-- nothing belongs to a line in no room
pub outside_taken : (stock : Stocked) (left : Option (List ℕ)) (line : List ℕ) (item : Option Tagged) → IsOneLine line → spoken_in line ≡ None → 0 < stock.rest
    → item ≡ no_room line → WholeSegment (λ more. first_tagged (line ++ 10 ∷ more)) stock stock left left item
outside_taken stock left line item one none some is = record {
  bytes = [];
  gave = gave_none stock left;
  within = some;
  is = λ more. outside_at line more one none ∙ ap (λ asked. record { item = asked; rest = more; is_whole = true }) (sym is);
}

-- in a room, what follows the tag
pub inside_taken : {E : Type 0} (old new : Stocked) (left_before left : Option (List ℕ)) (line behind : List ℕ) (room : ℕ) (payload : Payload) (result : Result (Segment Spoken) E)
    → IsOneLine line → spoken_in line ≡ Some room → behind ≡ drop 2 (after_blanks line)
    → TakesSegment (λ more. in_room room (first_of (behind ++ 10 ∷ more))) (tagged_with payload) old new left_before left result
    → TakesSegment (λ more. first_tagged (line ++ 10 ∷ more)) (tagged_with payload) old new left_before left result
inside_taken old new left_before left line behind room payload result one some is takes =
    segment_behind (λ more. first_tagged (line ++ 10 ∷ more)) (λ more. in_room room (first_of (behind ++ 10 ∷ more))) (tagged_with payload) old old new left_before left_before left [] result
    (gave_none old left_before) (λ more. inside_at line more room one some ∙ ap (λ xs. in_room room (first_of (xs ++ 10 ∷ more))) (sym is)) takes

pub inside_failed : (first : List ℕ → First) (room : ℕ) {old new : Stocked} {left_before left : Option (List ℕ)} → SegmentFailed first old new left_before left
    → SegmentFailed (λ more. in_room room (first more)) old new left_before left
inside_failed first room segment = record { bytes = segment.bytes; gave = segment.gave; within = segment.within; not_whole = segment.not_whole; nothing_ahead = segment.nothing_ahead }

-- the last line
pub outside_asks : (line : List ℕ) (item : Option Tagged) → IsOneLine line → spoken_in line ≡ None → item ≡ no_room line → item ≡ (first_tagged line).item
outside_asks line item one none is = is ∙ sym (ap (λ (f : FirstOf Tagged). f.item) (outside_last line one none))

pub inside_asks : (line behind : List ℕ) (room : ℕ) (item : Option Tagged) → IsOneLine line → spoken_in line ≡ Some room → behind ≡ drop 2 (after_blanks line)
    → item ≡ (in_room room (first_of behind)).item → item ≡ (first_tagged line).item
inside_asks line behind room item one some is asks =
    asks ∙ ap (λ xs. (in_room room (first_of xs)).item) is ∙ sym (ap (λ (f : FirstOf Tagged). f.item) (inside_last line room one some))
