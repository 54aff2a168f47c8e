use Rattle.lis_store.proofs.Common.{◌∙◌, slice_get, sym, ap, arith, word_cmp}
use Rattle.std.specs.List.{insert}
use Rattle.std.specs.Ordering.{is_gt}
use Rattle.std.proofs.lemmas.List.Sums.{prefix_len-le-length}
use Rattle.lis_store.specs.Assigning.{is_held}
use Rattle.lis_store.proofs.Assigned.{put_there, put_new}
use Rattle.lis_store.proofs.assigning.find_place.Goals as goal

pub returns-then-stands_at-clause-there : goal.returns-then-stands_at-clause-there
returns-then-stands_at-clause-there c =
    let words = c.args.words.now in
    put_there c.args.word.now words (ap (λ n. is_held (slice_get words n) c.args.word.now) (sym c.place_of-place.ensures) ∙ (sym c.stands_at.ensures ∙ c.if-stands_at.true))

pub returns-else-stands_at-clause-new : goal.returns-else-stands_at-clause-new
returns-else-stands_at-clause-new c =
    let words = c.args.words.now in
    ap (λ n. insert words n c.args.word.now) c.place_of-place.ensures
    ∙ put_new c.args.word.now words (ap (λ n. is_held (slice_get words n) c.args.word.now) (sym c.place_of-place.ensures) ∙ (sym c.stands_at.ensures ∙ c.if-stands_at.false))

pub returns-else-stands_at-clause-within : goal.returns-else-stands_at-clause-within
returns-else-stands_at-clause-within c = omega (arith, c.place_of-place.ensures, prefix_len-le-length (λ held. is_gt (word_cmp c.args.word.now held)) c.args.words.now)
