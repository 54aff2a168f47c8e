use Rattle.std.proofs.Common.{Option, List, ℕ, [], ◌∷◌, ◌++◌, Bor, option_copied, refl, ap, sym, append-nil}
use Rattle.lis_parts.specs.Viewing.{shown_text}
use Rattle.lis_parts.proofs.Saying.{says_kept, says_then, says_front}
use Rattle.lis_parts.proofs.viewing.say_shown.Goals as goal

pub returns-in_default : goal.returns-in_default
returns-in_default g c = rw c.in_default.is (says_kept (g.T.Disk.meaning c.args.station.now) (sym (append-nil c.args.kept.now.items)))

pub returns-in_err-say : goal.returns-in_err-say
returns-in_err-say g c =
    let is = ap (λ (o : Option (Bor (List ℕ))). shown_text (option_copied o)) c.in-Some.is in
    says_front (c.in-Some.text.now ++ 10 ∷ []) c.in_err-say.ensures c.from_residual.ensures.1 is

pub returns-in_err-say-2 : goal.returns-in_err-say-2
returns-in_err-say-2 g c =
    let is = ap (λ (o : Option (Bor (List ℕ))). shown_text (option_copied o)) c.in-Some.is in
    says_then c.in_ok-say.ensures (says_front (10 ∷ []) c.in_err-say-2.ensures c.from_residual-in_err-say-2.ensures.1 refl) is

pub returns : goal.returns
returns g c =
    let is = ap (λ (o : Option (Bor (List ℕ))). shown_text (option_copied o)) c.in-Some.is in
    says_then c.in_ok-say.ensures (says_then c.in_ok-say-2.ensures c.say-3.ensures refl) is
