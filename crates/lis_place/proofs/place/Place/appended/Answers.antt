use Rattle.std.proofs.Common.{◌≡◌, false, ◌++◌, length, sym, ap, ◌∙◌, arith}
use Rattle.lis_place.specs.Limits.{are_place}
use Rattle.lis_place.proofs.Kept.{too_many, both_nodes, not_kept, kept_steps, place_by}
use Rattle.lis_place.proofs.place.Place.appended.Goals as goal

pub returns-then-front-behind-gt-MAX_NODES-clause-steps : goal.returns-then-front-behind-gt-MAX_NODES-clause-steps
returns-then-front-behind-gt-MAX_NODES-clause-steps c =
    let front = ap length c.as_slice-front.ensures.value in
    let behind = ap length c.as_slice-behind.ensures.value in
    too_many c.self.inside.nodes.items c.more.inside.nodes.items c.args.self.now c.args.more.now c.self.invariant c.self.view_is c.more.invariant c.more.view_is
    (omega (arith, front, behind))

pub returns-then-not-are_place-clause-steps : goal.returns-then-not-are_place-clause-steps
returns-then-not-are_place-clause-steps c =
    let front = c.self.inside.nodes.items in
    let behind = c.more.inside.nodes.items in
    let first = c.extend.ensures ∙ (ap (λ xs. xs ++ c.as_slice-front.result.now) c.new-nodes.ensures ∙ c.as_slice-front.ensures.value) in
    let all = c.extend-2.ensures ∙ (ap (λ xs. xs ++ c.as_slice-behind.result.now) first ∙ ap (λ xs. front ++ xs) c.as_slice-behind.ensures.value) in
    let no : are_place (front ++ behind) ≡ false = ap are_place (sym (c.as_slice.ensures.value ∙ all)) ∙ (sym c.are_place.ensures ∙ c.if-not-are_place.true) in
    λ p. not_kept (front ++ behind) no (c.args.self.now ++ c.args.more.now) p
    (both_nodes front behind c.args.self.now c.args.more.now c.self.invariant c.self.view_is c.more.invariant c.more.view_is)

pub returns-clause-steps : goal.returns-clause-steps
returns-clause-steps c =
    let front = c.self.inside.nodes.items in
    let behind = c.more.inside.nodes.items in
    let first = c.extend.ensures ∙ (ap (λ xs. xs ++ c.as_slice-front.result.now) c.new-nodes.ensures ∙ c.as_slice-front.ensures.value) in
    let all = c.extend-2.ensures ∙ (ap (λ xs. xs ++ c.as_slice-behind.result.now) first ∙ ap (λ xs. front ++ xs) c.as_slice-behind.ensures.value) in
    kept_steps c.extend-2.new.held.items (c.args.self.now ++ c.args.more.now)
    (all ∙ both_nodes front behind c.args.self.now c.args.more.now c.self.invariant c.self.view_is c.more.invariant c.more.view_is)

pub returns-clause-place : goal.returns-clause-place
returns-clause-place c =
    place_by c.as_slice.result.now c.extend-2.new.held.items (sym c.as_slice.ensures.value) (sym c.are_place.ensures ∙ c.if-not-are_place.false)
