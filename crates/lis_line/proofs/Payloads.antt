-- The bytes of a payload, taken in runs.
use Rattle.std.proofs.Common.{◌≡◌, ℕ, ◌+◌, ◌-◌, ◌≤◌, ◌<◌, List, [], ◌∷◌, ◌++◌, length, take, drop, Option, Some, None, ap, sym, subst, ◌∙◌, refl, arith, append_assoc, length-append, inl, inr}
use Rattle.std.specs.Io.KnownBytes.{Consumes}
use Rattle.std.proofs.lemmas.List.{take-append-drop, length-take}
use Rattle.std.proofs.lemmas.Bool.{cases_lt, le-leb, lt-leb}
use Rattle.lis_model.specs.Step.{Payload}
use Rattle.lis_model.specs.Script.{payload_limit, payload_of}
use Rattle.lis_line.specs.Stock.{Stocked, stream_of}
use Rattle.lis_line.specs.Reading.{Gave}
use Rattle.lis_line.specs.Segments.{with_bytes}
use Rattle.lis_line.proofs.Bytes.{gave_then, consumes_then}

-- bytes that were ahead are given
skipped : (now next : Stocked) (left : Option (List ℕ)) (count : ℕ) → next.ahead ≡ drop count now.ahead → Consumes (stream_of now left) (stream_of next left) (take count now.ahead)
skipped now next None count behind = tt
skipped now next (Some more) count behind =
    sym (ap (λ xs. take count now.ahead ++ (xs ++ more)) behind ∙ sym (append_assoc (take count now.ahead) (drop count now.ahead) more) ∙ ap (λ xs. xs ++ more) (take-append-drop count now.ahead))

-- a run of the bytes that a stock has ahead
pub run_given : (old now next : Stocked) (left_before left : Option (List ℕ)) (count : ℕ) → Consumes (stream_of old left_before) (stream_of now left) [] → now.rest ≡ old.rest
    → count ≤ length now.ahead → next.ahead ≡ drop count now.ahead → count + next.rest ≡ now.rest → Gave old next left_before left (take count now.ahead)
run_given old now next left_before left count met same within behind rest = record {
  took = consumes_then _ (stream_of now left) _ [] (take count now.ahead) met (skipped now next left count behind);
  rest = omega (arith, length-take count now.ahead, within, same, rest);
}

-- all bytes that were taken are in the payload
pub record Filling (old now : Stocked) (left_before left : Option (List ℕ)) (size : ℕ) (payload : Payload) : Type 0 where
  pub bytes : List ℕ
  pub gave : Gave old now left_before left bytes
  pub some : 0 < now.rest
  pub kept : payload ≡ payload_of (length bytes) bytes
  pub within : length bytes ≤ size

appended : (bytes run : List ℕ) → with_bytes (payload_of (length bytes) bytes) run ≡ payload_of (length (bytes ++ run)) (bytes ++ run)
appended bytes run =
    rw (length-append bytes run) (elim (cases_lt payload_limit (length bytes + length run)) as (λ _. with_bytes (payload_of (length bytes) bytes) run ≡ payload_of (length bytes + length run) (bytes ++ run)) [
      | inl more ↦ rw (lt-leb (length bytes + length run) payload_limit more) refl
      | inr le ↦ rw (le-leb (length bytes) payload_limit (omega (arith, le))) refl
    ])

pub filling_more : (old now next : Stocked) (left_before left left_after : Option (List ℕ)) (size : ℕ) (payload longer : Payload) (run : List ℕ)
    → Filling old now left_before left size payload → Gave now next left left_after run → 0 < next.rest → length run ≤ size - payload.size
    → payload.size ≤ size → longer ≡ with_bytes payload run → Filling old next left_before left_after size longer
filling_more old now next left_before left left_after size payload longer run filling gave some few below is =
    let fits : length filling.bytes + length run ≤ size = omega (arith, few, below, ap (λ (p : Payload). p.size) filling.kept) in
    record {
      bytes = filling.bytes ++ run;
      gave = gave_then old now next left_before left left_after filling.bytes run filling.gave gave;
      some = some;
      kept = is ∙ ap (λ p. with_bytes p run) filling.kept ∙ appended filling.bytes run;
      within = omega (arith, fits, length-append filling.bytes run);
    }

-- a run that is not empty: its last byte, and the bytes before it
front_last : (run : List ℕ) → 0 < length run → (front : List ℕ) × (byte : ℕ) × (run ≡ front ++ byte ∷ [])
front_last [] some = absurd (omega (arith, some))
front_last (byte ∷ []) some = ([], byte, refl)
front_last (byte ∷ next ∷ run) some =
    let rest = front_last (next ∷ run) (omega arith) in
    (byte ∷ rest.0, rest.1, ap (λ xs. byte ∷ xs) rest.2)

-- a run that ends with the byte past the limit
pub filling_spent : (old now next : Stocked) (left_before left left_after : Option (List ℕ)) (size : ℕ) (payload : Payload) (run : List ℕ)
    → Filling old now left_before left size payload → Gave now next left left_after run → 0 < length run → length run ≤ size - payload.size → payload.size ≤ size
    → (bytes : List ℕ) × (byte : ℕ) × Gave old next left_before left_after (bytes ++ byte ∷ []) × (length bytes < size)
filling_spent old now next left_before left left_after size payload run filling gave any few below =
    let split = front_last run any in
    let front = split.0 in
    let byte = split.1 in
    let all = gave_then old now next left_before left left_after filling.bytes run filling.gave gave in
    let is : filling.bytes ++ run ≡ (filling.bytes ++ front) ++ byte ∷ [] = ap (λ xs. filling.bytes ++ xs) split.2 ∙ sym (append_assoc filling.bytes front (byte ∷ [])) in (
      filling.bytes ++ front,
      byte,
      subst (λ xs. Gave old next left_before left_after xs) is all,
      omega (arith, few, below, ap (λ (p : Payload). p.size) filling.kept, ap length split.2, length-append front (byte ∷ []), length-append filling.bytes front),
    )
