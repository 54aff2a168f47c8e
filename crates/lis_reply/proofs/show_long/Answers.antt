use Rattle.std.proofs.Common.{◌≡◌, ℕ, List, ◌∷◌, [], ◌++◌, refl, sym, append_assoc}
use Rattle.lis_model.specs.Replies.{line}
use Rattle.lis_reply.proofs.Showing.{show_front, show_then}
use Rattle.lis_reply.proofs.show_long.Goals as goal

spaced : (front text : List ℕ) → front ++ 32 ∷ (text ++ 10 ∷ []) ≡ line (front ++ 32 ∷ text)
spaced front text = sym (append_assoc front (32 ∷ text) (10 ∷ []))

pub returns-in_err-show_all : goal.returns-in_err-show_all
returns-in_err-show_all g c =
    show_front c.args.front.now (32 ∷ (c.args.text.now ++ 10 ∷ [])) _ _ _
    c.show_all.ensures _ c.in_err-show_all.was c.from_residual.ensures.0 (spaced c.args.front.now c.args.text.now)

pub returns-in_err-show_all-2 : goal.returns-in_err-show_all-2
returns-in_err-show_all-2 g c =
    let rest = show_front (32 ∷ []) (c.args.text.now ++ 10 ∷ []) (32 ∷ (c.args.text.now ++ 10 ∷ [])) _ _
    c.show_all-2.ensures _ c.in_err-show_all-2.was c.from_residual-in_err-show_all-2.ensures.0 refl in
    show_then c.args.front.now (32 ∷ (c.args.text.now ++ 10 ∷ [])) _ _ _
    c.show_all.ensures _ c.in_ok-show_all.was rest (spaced c.args.front.now c.args.text.now)

pub returns-in_err-show_all-3 : goal.returns-in_err-show_all-3
returns-in_err-show_all-3 g c =
    let last = show_front c.args.text.now (10 ∷ []) (c.args.text.now ++ 10 ∷ []) _ _
    c.show_all-3.ensures _ c.in_err-show_all-3.was c.from_residual-in_err-show_all-3.ensures.0 refl in
    let rest = show_then (32 ∷ []) (c.args.text.now ++ 10 ∷ []) (32 ∷ (c.args.text.now ++ 10 ∷ [])) _ _
    c.show_all-2.ensures _ c.in_ok-show_all-2.was last refl in
    show_then c.args.front.now (32 ∷ (c.args.text.now ++ 10 ∷ [])) _ _ _
    c.show_all.ensures _ c.in_ok-show_all.was rest (spaced c.args.front.now c.args.text.now)

pub returns : goal.returns
returns g c =
    let last = show_then c.args.text.now (10 ∷ []) (c.args.text.now ++ 10 ∷ []) _ _
    c.show_all-3.ensures _ c.in_ok-show_all-3.was c.show_all-4.ensures refl in
    let rest = show_then (32 ∷ []) (c.args.text.now ++ 10 ∷ []) (32 ∷ (c.args.text.now ++ 10 ∷ [])) _ _
    c.show_all-2.ensures _ c.in_ok-show_all-2.was last refl in
    show_then c.args.front.now (32 ∷ (c.args.text.now ++ 10 ∷ [])) _ _ _
    c.show_all.ensures _ c.in_ok-show_all.was rest (spaced c.args.front.now c.args.text.now)
