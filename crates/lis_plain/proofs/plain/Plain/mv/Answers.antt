use Rattle.std.proofs.Common.{◌≡◌, ℕ, List, ap, sym, subst, ◌∙◌}
use Rattle.lis_grammar.specs.Places.{Resolution, resolved, text_words}
use Rattle.lis_grammar.specs.Places.Resolution.{NewPlace}
use Rattle.lis_model.specs.Changes.{new_file, file_of}
use Rattle.lis_model.specs.Step.{tags_at, retagged, mv_with, mv_to}
use Rattle.lis_plain.specs.Carries.{IsAnswered}
use Rattle.lis_plain.proofs.plain.Plain.mv.Goals as goal

pub returns : goal.returns
returns c =
    let now = c.args.self.now in let text = c.args.text.now in let place = c.in-Ok.place in
    let leads : resolved now.place text ≡ NewPlace place =
    ap (λ p. resolved p text) (sym c.place.ensures) ∙ (ap (λ t. resolved c.place.result.now t) (sym c.bytes.ensures.bytes) ∙ c.in-Ok.ensures.place) in
    let words : c.in_ok-words.words.items ≡ text_words text =
    c.in_ok-words.ensures now.place place (ap (λ t. resolved now.place t) c.bytes-2.ensures.bytes ∙ leads) ∙ ap (λ t. text_words t) c.bytes-2.ensures.bytes in
    let old = file_of now.state.files c.args.name.now in
    subst (λ (r : Resolution). IsAnswered (mv_to now old text r) now c.mv_there.new.self c.mv_there.result) (sym leads)
    (subst (λ (ws : List (List ℕ)). IsAnswered (mv_with now place ws old (new_file old.name (retagged old.assigned (tags_at now.place) (tags_at place)) old.bytes)) now c.mv_there.new.self c.mv_there.result)
    (c.deref.ensures.value ∙ words) c.mv_there.ensures)
