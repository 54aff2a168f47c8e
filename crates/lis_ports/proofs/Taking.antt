-- One call of a source over a list of bytes.
use Rattle.std.proofs.Common.{◌≡◌, ℕ, ◌+◌, ◌-◌, ◌<◌, ◌≤◌, min, List, ◌++◌, length, take, drop, Some, Ok, refl, sym, ◌∙◌, ap, arith, length-append, length-drop}
use Rattle.std.proofs.lemmas.List.{take_at, drop-drop, take-append-drop, length-take-le, drop_all}
use Rattle.lis_ports.specs.Sources.{IsTake}

pub taken : {E : Type 0} (bytes left buf front : List ℕ) (place step n faults : ℕ) → left ≡ drop place bytes → n ≡ min step (min (length buf) (length left)) → 0 < step → front ≡ take n left → IsTake {E = E} (Some (drop place bytes)) (Some (drop (place + n) bytes)) faults faults faults (front ++ drop n buf) (Ok n)
taken bytes left buf front place step n faults is_left is_n some is_front =
    let few : n ≤ length left = omega arith in
    let len : length front ≡ n = ap length is_front ∙ length-take-le n left few in
    let same : take n (front ++ drop n buf) ≡ front = take_at front (drop n buf) n len in
    let whole : drop place bytes ≡ front ++ drop n (drop place bytes) =
    sym (take-append-drop n (drop place bytes)) ∙ ap (λ xs. xs ++ drop n (drop place bytes)) (ap (take n) (sym is_left) ∙ sym is_front) in
    let room : length (front ++ drop n buf) ≡ length front + length (drop n buf) = length-append front (drop n buf) in
    let all : length (drop n buf) ≡ length buf - n = length-drop n buf in
    let rest : length left ≡ length bytes - place = ap length is_left ∙ length-drop place bytes in
    record {
      bound = (omega arith, sym len ∙ ap length (sym same));
      bytes = (
        whole ∙ (ap (λ xs. xs ++ drop n (drop place bytes)) (sym same) ∙ ap (λ xs. take n (front ++ drop n buf) ++ xs) (drop-drop n place bytes)),
        λ none has_room. drop_all (place + n) bytes (omega arith),
      );
      cause = record { later = omega arith; stays = refl; rose = tt };
      began = refl;
    }
