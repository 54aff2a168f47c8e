-- How a session over a plain state ends, by its status.
use Rattle.std.proofs.Common.{◌≡◌, ℕ, List, ◌∷◌, [], Option, Some, ap, sym, ◌∙◌, append_assoc}
use Rattle.std.specs.Io.KnownBytes.{append_known}
use Rattle.lis_ports.specs.Meaning.{Meaning}
use Rattle.lis_ports.specs.Calls.{IsShowCall, StationFaultEnds}
use Rattle.lis_model.specs.Step.{Situation, replies, situation_after}
use Rattle.lis_model.specs.Script.{session_cut}
use Rattle.lis_line.specs.declared.carrier.Halt.{Halt}
use Rattle.lis_line.specs.declared.carrier.Halt.TheVariants.{End as AtEnd, Limit as AtLimit, InputFault as AtFault, Stopped}
use Rattle.lis_line.specs.Endings.{HasEnded, HasHaltCause}
use Rattle.lis_plain.specs.Tried.{Tried, TriedInto}
use Rattle.lis_plain.specs.declared.end.PlainEnd.{PlainEnd}
use Rattle.lis_plain.specs.declared.end.PlainEnd.TheVariants.{OutputFault, NoMemory}
use Rattle.lis_shell.specs.Causes.{counts, HasStatusCause, IsTryStatus}
use Rattle.lis_shell.specs.Tries.{Tries, try_status}

pub is_try : (halt : Halt PlainEnd) → IsTryStatus (try_status halt)
is_try AtEnd = tt
is_try AtLimit = tt
is_try AtFault = tt
is_try (Stopped OutputFault) = tt
is_try (Stopped NoMemory) = tt

-- how the loop over the items ends, over a plain state
abbrev pub TryEnded : ℕ → Option (List ℕ) → Option (List ℕ) → Situation → Meaning → Situation → Meaning → Halt PlainEnd → Type 0
TryEnded limit before left start entry now m halt =
    HasEnded session_cut limit before left (λ first. Tried start entry first now m) (λ first item fault. TriedInto start entry first item fault now m) halt

pub only_showed : (limit : ℕ) (before left : Option (List ℕ)) (start now : Situation) (entry m : Meaning) (halt : Halt PlainEnd)
    → TryEnded limit before left start entry now m halt → IsShowCall entry m
only_showed limit before left start now entry m (Stopped fault) ended = ended.1.done.call
only_showed limit before left start now entry m halt ended = ended.done.call

pub try_first_fault : (limit : ℕ) (before left : Option (List ℕ)) (start now : Situation) (entry m : Meaning) (halt : Halt PlainEnd)
    → TryEnded limit before left start entry now m halt → StationFaultEnds entry m
try_first_fault limit before left start now entry m (Stopped fault) ended = ended.1.done.first_fault
try_first_fault limit before left start now entry m halt ended = ended.done.first_fault

-- no count of faults rose
pub counts_stay : (entry m : Meaning) (input_before input : ℕ) → m.disk_faults ≡ entry.disk_faults → input ≡ input_before → m.show_faults ≡ entry.show_faults
    → counts m input ≡ counts entry input_before
counts_stay entry m input_before input disk same show = cc

pub try_cause : (limit : ℕ) (before left : Option (List ℕ)) (start now : Situation) (entry m : Meaning) (input_before input : ℕ) (halt : Halt PlainEnd)
    → TryEnded limit before left start entry now m halt → HasHaltCause input_before input halt
    → HasStatusCause (counts entry input_before) (counts m input) (try_status halt)
try_cause limit before left start now entry m input_before input AtEnd ended cause = counts_stay entry m input_before input ended.done.call.disk_faults cause ended.done.show_faults
try_cause limit before left start now entry m input_before input AtLimit ended cause = counts_stay entry m input_before input ended.done.call.disk_faults cause ended.done.show_faults
try_cause limit before left start now entry m input_before input AtFault ended cause = (cause, ended.done.call.disk_faults, ended.done.show_faults)
try_cause limit before left start now entry m input_before input (Stopped OutputFault) ended cause = (ended.1.done.cause, ended.1.done.call.disk_faults, cause)
try_cause limit before left start now entry m input_before input (Stopped NoMemory) ended cause = counts_stay entry m input_before input ended.1.done.call.disk_faults cause ended.1.done.cause

-- what was shown, if the source had these bytes left at the start
pub tries : (limit : ℕ) (before left : Option (List ℕ)) (start now : Situation) (entry m : Meaning) (bytes : List ℕ) (halt : Halt PlainEnd)
    → TryEnded limit before left start entry now m halt → before ≡ Some bytes
    → Tries start limit bytes left entry.shown m.shown now (try_status halt)
tries limit before left start now entry m bytes AtEnd ended known =
    let all = ended.read bytes known in (
      all.short,
      all.at_end,
      ended.done.shown ∙ ap (λ items. append_known entry.shown (replies start items)) (sym all.is),
      ended.done.at ∙ ap (situation_after start) (sym all.is),
    )
tries limit before left start now entry m bytes AtLimit ended known =
    let past = ended.read bytes known in (
      past.long,
      ended.done.shown ∙ ap (λ items. append_known entry.shown (replies start items)) (sym past.is),
      ended.done.at ∙ ap (situation_after start) (sym past.is),
    )
tries limit before left start now entry m bytes AtFault ended known =
    let whole = (ended.read bytes known).0 in
    record {
      taken = whole.taken;
      consumed = whole.consumed;
      within = whole.within;
      shown = ended.done.shown ∙ ap (λ items. append_known entry.shown (replies start items)) (sym whole.is);
      at = ended.done.at ∙ ap (situation_after start) (sym whole.is);
    }
tries limit before left start now entry m bytes (Stopped OutputFault) ended known =
    let went = ended.1 in
    let front = went.read bytes known in
    record {
      first = went.first;
      item = ended.0;
      others = front.0;
      all = front.1 ∙ append_assoc went.first (ended.0 ∷ []) front.0;
      shown = went.done.carries.1;
      at = went.done.carries.0;
    }
tries limit before left start now entry m bytes (Stopped NoMemory) ended known =
    let went = ended.1 in
    let front = went.read bytes known in
    record {
      first = went.first;
      others = ended.0 ∷ front.0;
      all = front.1 ∙ append_assoc went.first (ended.0 ∷ []) front.0;
      shown = went.done.carries.1;
      at = went.done.carries.0;
    }
