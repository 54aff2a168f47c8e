-- The bytes of an edited view, taken piece by piece.
use Rattle.std.proofs.Common.{◌≡◌, ℕ, ◌+◌, ◌≤◌, ◌<◌, List, ◌++◌, length, take, Option, Ok, ap, sym, ◌∙◌, arith, length-append}
use Rattle.std.proofs.Math.Seq.{take-append-add}
use Rattle.std.proofs.lemmas.List.{length-take}
use Rattle.lis_parts.specs.Putting.{view_limit}
use Rattle.lis_parts.specs.Inside.{TakesBehind, TakesMore}

-- this many bytes came after those that were there
pub taken_more : {E : Type 0} {left_before left : Option (List ℕ)} {faults_before faults behind : ℕ} {old new : List ℕ} (len count : ℕ) → length old ≡ view_limit + 1 → length new ≡ view_limit + 1
    → len < view_limit + 1 → TakesBehind {E = E} left_before left faults_before faults behind len old new (Ok count) → TakesMore {E = E} left_before left (take len old) (take (len + count) new) (Ok count)
taken_more {old = old} {new} len count wide wide_now room takes =
    let front : List ℕ = take len old in
    let long : length front ≡ len = omega (arith, length-take len old) in
    let all : length new ≡ length front + length takes.buf = ap length takes.is ∙ length-append front takes.buf in
    let within : count ≤ length takes.buf = takes.call.bound.0 in
    let is : take (len + count) new ≡ front ++ take count takes.buf =
    ap (λ n. take (n + count) new) (sym long) ∙ ap (take (length front + count)) takes.is ∙ take-append-add front takes.buf count in
    (take count takes.buf, takes.call.bytes.0, is, omega (arith, length-take count takes.buf), λ none. takes.call.bytes.1 none (omega arith))
