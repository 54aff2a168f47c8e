-- Pieces shown one after another.
use Rattle.std.proofs.Common.{◌≡◌, ℕ, ◌+◌, ◌≤◌, List, [], ◌++◌, length, take, drop, Option, Some, None, Result, Ok, Err, IsErr, IsTrue, length-append, refl, ap, sym, subst, ◌∙◌, arith, append_assoc, append-nil}
use Rattle.std.specs.Io.KnownBytes.{append_known}
use Rattle.std.proofs.Math.Seq.{take-add, take-append-add}
use Rattle.std.proofs.lemmas.List.{take-append-drop, length-drop, take-append-le}
use Rattle.lis_ports.specs.Meaning.{Meaning, failed}
use Rattle.lis_ports.specs.Runs.{Adds}
use Rattle.lis_ports.specs.Calls.{HasCause, StationFaultEnds, Elapses, IsShowCall}
use Rattle.lis_ports.specs.Shown.{AppendsFront, Shows}
use Rattle.lis_ports.specs.Since.{Begins, Since, IsShowRun}
use Rattle.lis_ports.proofs.Moments.{adds_then, adds_weaken}

pub append_known-append : (known : Option (List ℕ)) (xs ys : List ℕ) → append_known (append_known known xs) ys ≡ append_known known (xs ++ ys)
append_known-append None xs ys = refl
append_known-append (Some zs) xs ys = ap (λ (bytes : List ℕ). Some bytes) (append_assoc zs xs ys)

pub append_known-nil : (known : Option (List ℕ)) → append_known known [] ≡ known
append_known-nil None = refl
append_known-nil (Some zs) = ap (λ (bytes : List ℕ). Some bytes) (append-nil zs)

pub call_none : (m : Meaning) → IsShowCall m m
call_none m = record {
  honest = refl;
  len = refl;
  recorded = refl;
  disk_faults = refl;
  same = λ honest. record { bytes = refl; images = record { only = λ image is. is; each = λ recorded image is. is } };
}

pub call_then : {a b c : Meaning} → IsShowCall a b → IsShowCall b c → IsShowCall a c
call_then ab bc = record {
  honest = bc.honest ∙ ab.honest;
  len = bc.len ∙ ab.len;
  recorded = bc.recorded ∙ ab.recorded;
  disk_faults = bc.disk_faults ∙ ab.disk_faults;
  same = λ honest.
      let first = ab.same honest in
      let second = bc.same (ab.honest ∙ honest) in
      record {
        bytes = second.bytes ∙ first.bytes;
        images = record {
          only = λ image is. first.images.only image (second.images.only image is);
          each = λ recorded image is. second.images.each recorded image (first.images.each (sym bc.recorded ∙ recorded) image is);
        };
      };
}

pub begins_more : (front bytes : List ℕ) (more : List ℕ) → Begins front bytes → Begins front (bytes ++ more)
begins_more front bytes more b = record { rest = b.rest ++ more; is = ap (λ xs. xs ++ more) b.is ∙ append_assoc front b.rest more }

pub begins_behind : (front first more : List ℕ) → Begins front more → Begins (first ++ front) (first ++ more)
begins_behind front first more b = record { rest = b.rest; is = ap (λ xs. first ++ xs) b.is ∙ sym (append_assoc first front b.rest) }

-- what holds after the first bytes of a piece were shown
pub record ShownSoFar (old now : Meaning) (bytes : List ℕ) (place : ℕ) : Type 0 where
  pub within : place ≤ length bytes
  pub call : IsShowCall old now
  pub faults : now.show_faults ≡ old.show_faults
  pub ends : StationFaultEnds old now
  pub shown : now.shown ≡ append_known old.shown (take place bytes)
  pub moments : IsTrue old.is_honest → Adds old now (Since old.shown (λ image front. old.images image × Begins front bytes))

-- the moments of a call, after which a prefix is shown
front_moments : {old now next : Meaning} (bytes : List ℕ) (place : ℕ) → IsTrue old.is_honest
    → Adds old now (Since old.shown (λ image front. old.images image × Begins front bytes)) → IsShowCall old next → Elapses now next
    → next.shown ≡ append_known old.shown (take place bytes)
    → Adds old next (Since old.shown (λ image front. old.images image × Begins front bytes))
front_moments bytes place honest before call time shown =
    adds_then before (adds_weaken _ time (λ image all now.
    (take place bytes, sym shown ∙ now.1, ((call.same honest).images.only image now.0, record { rest = drop place bytes; is = sym (take-append-drop place bytes) }))))

pub shown_more : {old now next : Meaning} (bytes left : List ℕ) (place n : ℕ) → ShownSoFar old now bytes place → IsShowCall now next → Elapses now next
    → next.behind ≡ failed now → left ≡ drop place bytes → n ≤ length left → next.show_faults ≡ now.show_faults
    → next.shown ≡ append_known now.shown (take n left) → ShownSoFar old next bytes (place + n)
shown_more {old} {now} {next} bytes left place n so_far call time began is few faults shown =
    let both = call_then so_far.call call in
    let all : next.shown ≡ append_known old.shown (take (place + n) bytes) =
    shown ∙ ap (λ xs. append_known now.shown (take n xs)) is ∙ ap (λ known. append_known known (take n (drop place bytes))) so_far.shown
    ∙ append_known-append old.shown (take place bytes) (take n (drop place bytes))
    ∙ ap (λ xs. append_known old.shown xs) (sym (take-add place n bytes)) in
    record {
      within = omega (arith, so_far.within, few, ap length is, length-drop place bytes);
      call = both;
      faults = faults ∙ so_far.faults;
      ends = omega (arith, began, so_far.faults, so_far.call.disk_faults);
      shown = all;
      moments = λ honest. front_moments bytes (place + n) honest (so_far.moments honest) both time all;
    }

cause_on : {E : Type 0} {a b c : ℕ} (q : Result (Unit {0}) E) → b ≡ a → HasCause b c q → HasCause a c q
cause_on {E} {a} {b} {c} q stays cause = subst (λ n. HasCause n c q) stays cause

shown_on : {E : Type 0} (a b c : Option (List ℕ)) (q : Result (Unit {0}) E) (first more : List ℕ) → b ≡ append_known a first
    → Shows b c more q → Shows a c (first ++ more) q
shown_on a b c (Ok u) first more shown next =
    let is : c ≡ append_known b more = next in
    is ∙ ap (λ known. append_known known more) shown ∙ append_known-append a first more
shown_on a b c (Err e) first more shown next =
    let front : AppendsFront b c more = next in
    record {
      count = length first + front.count;
      within = omega (arith, front.within, length-append first more);
      front = front.front ∙ ap (λ known. append_known known (take front.count more)) shown ∙ append_known-append a first (take front.count more)
          ∙ ap (λ xs. append_known a xs) (sym (take-append-add first more front.count));
    }

-- the run failed, so a longer piece failed too
pub show_front : {E : Type 0} {a b : Meaning} (first more all : List ℕ) (r q : Result (Unit {0}) E)
    → IsShowRun a b first r → (e : E) → r ≡ Err e → IsErr q → first ++ more ≡ all → IsShowRun a b all q
show_front first more all (Ok u) q run d bad err is = absurd (cc bad)
show_front first more all (Err e) (Ok u) run d bad err is = absurd (cc err)
show_front {E} {a} {b} first more all (Err e) (Err f) run d bad err is = subst (λ xs. IsShowRun {T = Unit {0}} a b xs (Err f)) is (record {
  call = run.call;
  cause = record { later = run.cause.later; stays = tt; rose = run.cause.rose };
  ends = run.ends;
  shown = record {
    count = run.shown.count;
    within = omega (arith, run.shown.within, length-append first more);
    front = run.shown.front ∙ ap (λ xs. append_known a.shown xs) (sym (take-append-le run.shown.count first more run.shown.within));
  };
  moments = λ honest. adds_weaken _ (run.moments honest) (λ image bytes since. (since.0, since.1, (since.2.0, begins_more since.0 first more since.2.1)));
})

-- two pieces in sequence
pub show_then : {E : Type 0} {a b c : Meaning} (first more all : List ℕ) (r q : Result (Unit {0}) E)
    → IsShowRun a b first r → (v : Unit {0}) → r ≡ Ok v → IsShowRun b c more q → first ++ more ≡ all → IsShowRun a c all q
show_then first more all (Err e) q run v good next is = absurd (cc good)
show_then {E} {a} {b} {c} first more all (Ok u) q run v good next is =
    let stays : b.show_faults ≡ a.show_faults = run.cause.stays in
    let shown : b.shown ≡ append_known a.shown first = run.shown in
    subst (λ xs. IsShowRun a c xs q) is (record {
      call = call_then run.call next.call;
      cause = cause_on q stays next.cause;
      ends = omega (arith, run.ends, next.ends, stays, run.call.disk_faults);
      shown = shown_on a.shown b.shown c.shown q first more shown next.shown;
      moments = λ honest.
          adds_then (adds_weaken _ (run.moments honest) (λ image bytes since. (since.0, since.1, (since.2.0, begins_more since.0 first more since.2.1))))
          (adds_weaken _ (next.moments (run.call.honest ∙ honest)) (λ image bytes since. (
            first ++ since.0,
            sym (append_known-append a.shown first since.0) ∙ ap (λ known. append_known known since.0) (sym shown) ∙ since.1,
            ((run.call.same honest).images.only image since.2.0, begins_behind since.0 first more since.2.1),
          )));
    })
