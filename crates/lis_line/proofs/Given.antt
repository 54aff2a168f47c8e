-- What a reader has given so far.
use Rattle.std.proofs.Common.{◌≡◌, ◌⊎◌, ℕ, ◌+◌, ◌-◌, ◌≤◌, ◌<◌, nat_le, true, false, List, [], ◌∷◌, ◌++◌, length, take, Option, Some, None, ap, sym, subst, ◌∙◌, refl, inl, inr, arith, append_assoc, append-nil, length-append}
use Rattle.std.specs.Io.KnownBytes.{prepend_known, Consumes, IsAtEnd}
use Rattle.std.proofs.lemmas.Bool.{le-leb, cases_lt}
use Rattle.std.proofs.lemmas.Bool.Decides.{leb_tells}
use Rattle.std.proofs.Math.Seq.{take-append-add}
use Rattle.lis_model.specs.Script.{Cut, script_by}
use Rattle.lis_line.specs.Stock.{Stocked, stream_of}
use Rattle.lis_line.specs.Reading.{Reading, fresh, IsWhole, Gave, GaveWhole, GaveLast, GaveItem}
use Rattle.lis_line.specs.Taking.{TakesFew}
use Rattle.lis_line.specs.Endings.{IsFront}
use Rattle.lis_line.proofs.Bytes.{consumes_then}
use Rattle.lis_line.proofs.Asking.{whole_then}

front_taken : (front behind : List ℕ) (n : ℕ) → length front ≤ n → take n (front ++ behind) ≡ front ++ take (n - length front) behind
front_taken front behind n le =
    let sum : length front + (n - length front) ≡ n = omega arith in
    ap (λ k. take k (front ++ behind)) (sym sum) ∙ take-append-add front behind (n - length front)

-- the bytes are all of the input, and these items
pub record Ends {I : Type 0} (cut : Cut I) (bytes : List ℕ) (items : List I) (reading : Reading) (left : Option (List ℕ)) : Type 0 where
  pub all : cut.all bytes ≡ items
  pub nothing_ahead : reading.stock.ahead ≡ []
  pub at_end : IsAtEnd left

-- the bytes that were given are these items, and the last one was given or not
abbrev pub AreGiven : {I : Type 0} → Cut I → List ℕ → List I → Reading → Option (List ℕ) → Type 0
AreGiven cut bytes items reading left =
    ((reading.is_closed ≡ false) × IsWhole cut bytes items) ⊎ ((reading.is_closed ≡ true) × Ends cut bytes items reading left)

pub record ReadSoFar {I : Type 0} (cut : Cut I) (limit : ℕ) (left_before left : Option (List ℕ)) (reading : Reading) (first : List I) : Type 0 where
  pub bytes : List ℕ
  pub took : Consumes left_before (stream_of reading.stock left) bytes
  pub rest : length bytes + reading.stock.rest ≡ limit + 1
  pub within : 0 < reading.stock.rest
  pub each_some : length first ≤ length bytes
  pub going : reading.is_ended ≡ false
  pub few : length reading.stock.ahead ≤ reading.stock.rest
  pub is : AreGiven cut bytes first reading left

-- before the first call
unread : (known : Option (List ℕ)) → Consumes known (prepend_known [] known) []
unread None = tt
unread (Some xs) = refl

pub read_none : {I : Type 0} (cut : Cut I) (limit : ℕ) (left : Option (List ℕ)) (reading : Reading) → reading ≡ fresh limit → ReadSoFar cut limit left left reading []
read_none cut limit left reading is = subst (λ r. ReadSoFar cut limit left left r []) (sym is) (record {
  bytes = [];
  took = unread left;
  rest = omega arith;
  within = omega arith;
  each_some = omega arith;
  going = refl;
  few = omega arith;
  is = inl (refl, record { all = λ more. refl; whole = λ more. refl });
})

-- the bytes that were given, and those ahead, were taken
pub stream_taken : (left_before left : Option (List ℕ)) (ahead bytes : List ℕ) → Consumes left_before (prepend_known ahead left) bytes → Consumes left_before left (bytes ++ ahead)
stream_taken None left ahead bytes took = tt
stream_taken (Some xs) None ahead bytes took = absurd took
stream_taken (Some xs) (Some ys) ahead bytes took = let e : xs ≡ bytes ++ (ahead ++ ys) = took in e ∙ sym (append_assoc bytes ahead ys)

few_taken : (limit : ℕ) (left_before left : Option (List ℕ)) (ahead bytes : List ℕ) (rest : ℕ) → Consumes left_before (prepend_known ahead left) bytes
    → length bytes + rest ≡ limit + 1 → length ahead ≤ rest → TakesFew limit left_before left
few_taken limit left_before left ahead bytes rest took sum few = record {
  taken = bytes ++ ahead;
  consumed = stream_taken left_before left ahead bytes took;
  few = omega (arith, sum, few, length-append bytes ahead);
}

-- a known input, split where the reader is
pub known_split : (input : List ℕ) (left : Option (List ℕ)) (ahead bytes : List ℕ) → Consumes (Some input) (prepend_known ahead left) bytes
    → (rest : List ℕ) × (left ≡ Some rest) × (input ≡ bytes ++ (ahead ++ rest))
known_split input None ahead bytes took = absurd took
known_split input (Some rest) ahead bytes took = (rest, refl, took)

none_behind : (known : Option (List ℕ)) (rest : List ℕ) → IsAtEnd known → known ≡ Some rest → rest ≡ []
none_behind None rest end is = absurd (cc is)
none_behind (Some xs) rest end is = let e : xs ≡ [] = end in let same : Some xs ≡ Some rest = is in cc

-- all of the input was read
pub input_is : (input : List ℕ) (left : Option (List ℕ)) (ahead bytes : List ℕ) → Consumes (Some input) (prepend_known ahead left) bytes → ahead ≡ [] → IsAtEnd left → input ≡ bytes
input_is input left ahead bytes took none end =
    let split = known_split input left ahead bytes took in
    let empty : split.0 ≡ [] = none_behind left split.0 end split.1 in
    split.2 ∙ ap (λ xs. bytes ++ (xs ++ split.0)) none ∙ ap (λ xs. bytes ++ xs) empty ∙ append-nil bytes

pub script_short : {I : Type 0} (cut : Cut I) (input : List ℕ) (limit : ℕ) → length input ≤ limit → script_by cut input limit ≡ cut.all input
script_short cut input limit short = rw (le-leb (length input) limit short) refl

pub script_long : {I : Type 0} (cut : Cut I) (input : List ℕ) (limit : ℕ) → limit < length input → script_by cut input limit ≡ cut.whole (take limit input)
script_long cut input limit long = rw (leb_false (length input) limit long) refl
  where
    leb_false : (a b : ℕ) → b < a → nat_le a b ≡ false
    leb_false a b lt = elim (leb_tells a b) as (λ _. nat_le a b ≡ false) [ inl h ↦ absurd (omega (arith, h.1, lt)) | inr h ↦ h.0 ]

module _ {I : Type 0} {cut : Cut I} {limit : ℕ} {left_before left : Option (List ℕ)} {old : Reading} {first : List I} (read : ReadSoFar cut limit left_before left old first) where
  pub few_so_far : TakesFew limit left_before left
  few_so_far = few_taken limit left_before left old.stock.ahead read.bytes old.stock.rest read.took read.rest read.few

  pub few_gave : {stock : Stocked} {left_after : Option (List ℕ)} {more : List ℕ} → Gave old.stock stock left left_after more → length stock.ahead ≤ stock.rest
      → TakesFew limit left_before left_after
  few_gave {stock} {left_after} {more} gave few =
      few_taken limit left_before left_after stock.ahead (read.bytes ++ more) stock.rest
      (consumes_then left_before (stream_of old.stock left) _ read.bytes more read.took gave.took)
      (omega (arith, read.rest, gave.rest, length-append read.bytes more)) few

  -- one more item
  read_more : (new : Reading) (left_after : Option (List ℕ)) (item : I) (bytes : List ℕ) → Gave old.stock new.stock left left_after bytes → 0 < length bytes → 0 < new.stock.rest
      → new.is_ended ≡ false → length new.stock.ahead ≤ new.stock.rest → AreGiven cut (read.bytes ++ bytes) (first ++ item ∷ []) new left_after
      → ReadSoFar cut limit left_before left_after new (first ++ item ∷ [])
  read_more new left_after item bytes gave some within going few is = record {
    bytes = read.bytes ++ bytes;
    took = consumes_then left_before (stream_of old.stock left) _ read.bytes bytes read.took gave.took;
    rest = omega (arith, read.rest, gave.rest, length-append read.bytes bytes);
    within = within;
    each_some = omega (arith, read.each_some, some, length-append read.bytes bytes, length-append first (item ∷ []));
    going = going;
    few = few;
    is = is;
  }

  pub read_item : (new : Reading) (left_after : Option (List ℕ)) (item : I) → IsWhole cut read.bytes first → GaveItem cut old new left left_after item
      → length new.stock.ahead ≤ new.stock.rest → ReadSoFar cut limit left_before left_after new (first ++ item ∷ [])
  read_item new left_after item are gave few = by gave.1
    where
      by : (GaveWhole cut old.stock new.stock left left_after (item ∷ []) × (new.is_closed ≡ false)) ⊎ (GaveLast cut old.stock new.stock left left_after item × (new.is_closed ≡ true))
          → ReadSoFar cut limit left_before left_after new (first ++ item ∷ [])
      by (inl whole) =
          read_more new left_after item whole.0.bytes whole.0.gave whole.0.some whole.0.within gave.0 few (inl (whole.1, whole_then are whole.0.is))
      by (inr last) =
          read_more new left_after item last.0.bytes last.0.gave last.0.some last.0.within gave.0 few (inr (
            last.1,
            record {
              all = are.all last.0.bytes ∙ ap (λ items. first ++ items) last.0.is.all;
              nothing_ahead = last.0.nothing_ahead;
              at_end = last.0.at_end;
            },
          ))

-- the script begins with the items read
pub script_front : {I : Type 0} {cut : Cut I} {limit : ℕ} {input : List ℕ} {left : Option (List ℕ)} {reading : Reading} {first : List I}
    → ReadSoFar cut limit (Some input) left reading first → IsFront (script_by cut input limit) first
script_front {cut = cut} {limit} {input} {left} {reading} {first} read = by read.is
  where
    by : AreGiven cut read.bytes first reading left → IsFront (script_by cut input limit) first
    by (inl opened) =
        let split = known_split input left reading.stock.ahead read.bytes read.took in
        let behind : List ℕ = reading.stock.ahead ++ split.0 in
        elim (cases_lt limit (length input)) as (λ _. IsFront (script_by cut input limit) first) [
          | inl long ↦ (
            cut.whole (take (limit - length read.bytes) behind),
            script_long cut input limit long ∙ ap (λ xs. cut.whole (take limit xs)) split.2
                ∙ ap cut.whole (front_taken read.bytes behind limit (omega (arith, read.rest, read.within)))
                ∙ opened.1.whole (take (limit - length read.bytes) behind),
          )
          | inr short ↦ (cut.all behind, script_short cut input limit short ∙ ap cut.all split.2 ∙ opened.1.all behind)
        ]
    by (inr closed) =
        let whole = input_is input left reading.stock.ahead read.bytes read.took closed.1.nothing_ahead closed.1.at_end in
        ([], script_short cut input limit (omega (arith, read.rest, read.within, ap length whole)) ∙ ap cut.all whole ∙ closed.1.all ∙ sym (append-nil first))
