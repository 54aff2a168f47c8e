-- What each result of the reader says of the script.
use Rattle.std.proofs.Common.{◌≡◌, ◌⊎◌, ℕ, ◌+◌, ◌≤◌, ◌<◌, true, false, List, [], ◌∷◌, ◌++◌, length, take, Option, Some, Result, Ok, Err, ap, sym, subst, ◌∙◌, inl, inr, arith, append_assoc, append-nil, length-append}
use Rattle.std.specs.Io.KnownBytes.{prepend_known, Consumes, IsAtEnd}
use Rattle.std.proofs.Math.Seq.{take-append_seam}
use Rattle.lis_model.specs.Script.{Cut}
use Rattle.lis_line.specs.declared.reader.Next.{Next}
use Rattle.lis_line.specs.declared.reader.Next.TheVariants.{Item, End, Limit}
use Rattle.lis_line.specs.Stock.{stream_of}
use Rattle.lis_line.specs.Taking.{TakesFew}
use Rattle.lis_line.specs.Endings.{AllTaken, LimitTaken, WholeTaken}
use Rattle.lis_line.specs.Reading.{Reading, IsWhole, Gave, GaveWhole, GaveLast, GaveEnd, Overran, GaveRest, Gives, Says}
use Rattle.lis_line.proofs.Bytes.{consumes_then}
use Rattle.lis_line.proofs.Given.{AreGiven, ReadSoFar, read_item, few_so_far, few_gave, known_split, input_is, script_short, script_long, stream_taken}

-- one more item was read
pub item_taken : {I E : Type 0} {cut : Cut I} {limit : ℕ} {left_before left left_after : Option (List ℕ)} {old new : Reading} {first : List I} {item : I}
    → ReadSoFar cut limit left_before left old first → Says {E = E} cut old new left left_after (Ok (Item item)) → length new.stock.ahead ≤ new.stock.rest
    → ReadSoFar cut limit left_before left_after new (first ++ item ∷ [])
item_taken {cut = cut} {limit} {left_before} {left} {left_after} {old} {new} {first} {item} read says few = by read.is
  where
    by : AreGiven cut read.bytes first old left → ReadSoFar cut limit left_before left_after new (first ++ item ∷ [])
    by (inl opened) = read_item read new left_after item opened.1 (says.gives opened.0) few
    by (inr closed) = let ends = (says.closes closed.0).ends in absurd (cc)

end_now : {I : Type 0} (cut : Cut I) (input : List ℕ) (left : Option (List ℕ)) (ahead total : List ℕ) (limit rest : ℕ) (first : List I)
    → Consumes (Some input) (prepend_known ahead left) total → ahead ≡ [] → IsAtEnd left → length total + rest ≡ limit + 1 → 0 < rest → cut.all total ≡ first
    → AllTaken cut limit input left first
end_now cut input left ahead total limit rest first took none end sum within all =
    let whole = input_is input left ahead total took none end in
    let short : length input ≤ limit = omega (arith, ap length whole, sum, within) in
    record { short = short; at_end = end; is = script_short cut input limit short ∙ ap cut.all whole ∙ all }

pub all_taken : {I E : Type 0} {cut : Cut I} {limit : ℕ} {input : List ℕ} {left left_after : Option (List ℕ)} {old new : Reading} {first : List I}
    → ReadSoFar cut limit (Some input) left old first → Says {E = E} cut old new left left_after (Ok End) → AllTaken cut limit input left_after first
all_taken {cut = cut} {limit} {input} {left} {left_after} {old} {new} {first} read says = by read.is
  where
    opened : IsWhole cut read.bytes first → GaveEnd cut old.stock new.stock left left_after → AllTaken cut limit input left_after first
    opened are gave =
        end_now cut input left_after new.stock.ahead (read.bytes ++ gave.bytes) limit new.stock.rest first
        (consumes_then (Some input) (stream_of old.stock left) (stream_of new.stock left_after) read.bytes gave.bytes read.took gave.gave.took)
        gave.nothing_ahead gave.at_end (omega (arith, read.rest, gave.gave.rest, length-append read.bytes gave.bytes)) gave.within
        (are.all gave.bytes ∙ ap (λ items. first ++ items) gave.none_left ∙ append-nil first)

    by : AreGiven cut read.bytes first old left → AllTaken cut limit input left_after first
    by (inl going) = opened going.1 (says.gives going.0).0
    by (inr closed) =
        subst (λ known. AllTaken cut limit input known first) (sym (says.closes closed.0).untouched)
        (end_now cut input left old.stock.ahead read.bytes limit old.stock.rest first read.took closed.1.nothing_ahead closed.1.at_end read.rest read.within closed.1.all)

pub limit_taken : {I E : Type 0} {cut : Cut I} {limit : ℕ} {input : List ℕ} {left left_after : Option (List ℕ)} {old new : Reading} {first : List I}
    → ReadSoFar cut limit (Some input) left old first → Says {E = E} cut old new left left_after (Ok Limit) → LimitTaken cut limit input first
limit_taken {cut = cut} {limit} {input} {left} {left_after} {old} {new} {first} read says = by read.is
  where
    opened : IsWhole cut read.bytes first → Overran cut old.stock new.stock left left_after → LimitTaken cut limit input first
    opened are over =
        let front : List ℕ = read.bytes ++ over.bytes in
        let took = consumes_then (Some input) (stream_of old.stock left) (stream_of new.stock left_after) read.bytes (over.bytes ++ over.byte ∷ []) read.took over.gave.took in
        let split = known_split input left_after new.stock.ahead (read.bytes ++ (over.bytes ++ over.byte ∷ [])) took in
        let behind : List ℕ = over.byte ∷ (new.stock.ahead ++ split.0) in
        let is_input : input ≡ front ++ behind =
        split.2 ∙ ap (λ xs. xs ++ (new.stock.ahead ++ split.0)) (sym (append_assoc read.bytes over.bytes (over.byte ∷ [])))
        ∙ append_assoc front (over.byte ∷ []) (new.stock.ahead ++ split.0) in
        let size : length front ≡ limit = omega (arith, read.rest, over.gave.rest, over.spent, length-append read.bytes over.bytes, length-append over.bytes (over.byte ∷ [])) in
        let long : limit < length input = omega (arith, ap length is_input, length-append front behind, size) in
        record {
          long = long;
          is = script_long cut input limit long ∙ ap (λ n. cut.whole (take n input)) (sym size) ∙ ap (λ xs. cut.whole (take (length front) xs)) is_input
              ∙ ap cut.whole (take-append_seam front behind) ∙ are.whole over.bytes ∙ ap (λ items. first ++ items) over.none_whole ∙ append-nil first;
        }

    by : AreGiven cut read.bytes first old left → LimitTaken cut limit input first
    by (inl going) = opened going.1 (says.gives going.0).0
    by (inr closed) = let ends = (says.closes closed.0).ends in absurd (cc)

pub whole_taken : {I E : Type 0} {cut : Cut I} {limit : ℕ} {input : List ℕ} {left left_after : Option (List ℕ)} {old new : Reading} {first : List I} {failed : E}
    → ReadSoFar cut limit (Some input) left old first → Says cut old new left left_after (Err failed) → WholeTaken cut limit input left_after first
whole_taken {cut = cut} {limit} {input} {left} {left_after} {old} {new} {first} read says = by read.is
  where
    opened : IsWhole cut read.bytes first → GaveRest cut old.stock new.stock left left_after → WholeTaken cut limit input left_after first
    opened are rest =
        let took = consumes_then (Some input) (stream_of old.stock left) (stream_of new.stock left_after) read.bytes rest.bytes read.took rest.gave.took in
        let all : Consumes (Some input) left_after ((read.bytes ++ rest.bytes) ++ new.stock.ahead) = stream_taken (Some input) left_after new.stock.ahead (read.bytes ++ rest.bytes) took in
        record {
          taken = read.bytes ++ rest.bytes;
          consumed = subst (λ xs. Consumes (Some input) left_after xs) (ap (λ xs. (read.bytes ++ rest.bytes) ++ xs) rest.nothing_ahead ∙ append-nil (read.bytes ++ rest.bytes)) all;
          within = omega (arith, read.rest, rest.gave.rest, rest.within, length-append read.bytes rest.bytes);
          is = are.whole rest.bytes ∙ ap (λ items. first ++ items) rest.none_whole ∙ append-nil first;
        }

    by : AreGiven cut read.bytes first old left → WholeTaken cut limit input left_after first
    by (inl going) = opened going.1 (says.gives going.0).0
    by (inr closed) = let ends = (says.closes closed.0).ends in absurd (cc)

-- whatever a reader returns, it gave some bytes
bytes_given : {I E : Type 0} (cut : Cut I) (old new : Reading) (left left_after : Option (List ℕ)) (told : Result (Next I) E) → Gives cut old new left left_after told
    → (bytes : List ℕ) × Gave old.stock new.stock left left_after bytes
bytes_given cut old new left left_after (Ok (Item item)) gives = by gives.1
  where
    by : (GaveWhole cut old.stock new.stock left left_after (item ∷ []) × (new.is_closed ≡ false)) ⊎ (GaveLast cut old.stock new.stock left left_after item × (new.is_closed ≡ true))
        → (bytes : List ℕ) × Gave old.stock new.stock left left_after bytes
    by (inl whole) = (whole.0.bytes, whole.0.gave)
    by (inr last) = (last.0.bytes, last.0.gave)
bytes_given cut old new left left_after (Ok End) gives = (gives.0.bytes, gives.0.gave)
bytes_given cut old new left left_after (Ok Limit) gives = (gives.0.bytes ++ gives.0.byte ∷ [], gives.0.gave)
bytes_given cut old new left left_after (Err failed) gives = (gives.0.bytes, gives.0.gave)

-- few bytes were taken, whatever was returned
pub few_said : {I E : Type 0} {cut : Cut I} {limit : ℕ} {left_before left left_after : Option (List ℕ)} {old new : Reading} {first : List I} {told : Result (Next I) E}
    → ReadSoFar cut limit left_before left old first → Says cut old new left left_after told → length new.stock.ahead ≤ new.stock.rest → TakesFew limit left_before left_after
few_said {cut = cut} {limit} {left_before} {left} {left_after} {old} {new} {first} {told} read says few = by read.is
  where
    by : AreGiven cut read.bytes first old left → TakesFew limit left_before left_after
    by (inl going) = few_gave read (bytes_given cut old new left left_after told (says.gives going.0)).1 few
    by (inr closed) = subst (λ known. TakesFew limit left_before known) (sym (says.closes closed.0).untouched) (few_so_far read)
