use Rattle.std.proofs.Common.{subst}
use Rattle.lis_model.specs.State.{File}
use Rattle.lis_model.specs.Changes.{new_file}
use Rattle.lis_model.specs.Step.{tags_at, retagged, mv_with}
use Rattle.lis_plain.specs.Carries.{IsAnswered}
use Rattle.lis_plain.proofs.plain.Plain.mv_there.Goals as goal

pub returns : goal.returns
returns c =
    let now = c.args.self.now in let place = c.args.place.now in let words = c.args.words.now in
    subst (λ (old : File). IsAnswered (mv_with now place words old (new_file old.name (retagged old.assigned (tags_at now.place) (tags_at place)) old.bytes)) now c.mv_with.new.self c.mv_with.result)
    c.in_ok-old.ensures
    (subst (λ (new : File). IsAnswered (mv_with now place words c.in_ok-old.old new) now c.mv_with.new.self c.mv_with.result) c.in_ok-new.ensures c.mv_with.ensures)
