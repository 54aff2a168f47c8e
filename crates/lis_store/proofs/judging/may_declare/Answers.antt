use Rattle.lis_store.proofs.Common.{◌∙◌, ◌≡◌, ℕ, List, ap, sym, subst, length, is_some, None, Ok, Err, arith, err_from_is_err_and, list_all, word_of, words_at}
use Rattle.lis_store.specs.Adding.{numbers_named}
use Rattle.lis_store.specs.Judging.{place_checks, room_checks, word_checks}
use Rattle.lis_store.specs.Placing.{AreNumbersOf}
use Rattle.lis_store.proofs.Declared.{may_be_declared, row_told}
use Rattle.lis_store.proofs.Judged.{judges_refused, refused_first}
use Rattle.lis_model.specs.Step.{first_refusal}
use Rattle.lis_store.proofs.judging.may_declare.Goals as goal

pub returns-in_err-numbers-clause-row : goal.returns-in_err-numbers-clause-row
returns-in_err-numbers-clause-row c =
    let k = c.args.metadata.now in
    let words = words_at c.args.place.now in
    let p = err_from_is_err_and c.from_residual.result c.from_residual.ensures.1 in
    judges_refused (word_checks k c.args.place.now c.args.word.now) c.from_residual.result c.in_err-numbers.field-0.0 (p.1 ∙ ap Err p.2)
    (refused_first (place_checks k c.args.place.now c.args.word.now) (room_checks k c.args.word.now (length words) (numbers_named k.dict words)) c.in_err-numbers.field-0.0 c.in_err-numbers.ensures.row)

pub has_room-requires : goal.has_room-requires
has_room-requires c = record {
  named = ap (list_all (λ n. is_some (word_of c.args.metadata.now.dict n))) c.as_slice.ensures.value ∙ c.in_ok-numbers.ensures.numbers.named;
  few = omega (arith, ap length c.as_slice.ensures.value, c.in_ok-numbers.ensures.few);
}

pub returns-in_err-has_room-clause-row : goal.returns-in_err-has_room-clause-row
returns-in_err-has_room-clause-row c =
    let k = c.args.metadata.now in
    let slice = c.as_slice.result.now in
    let result = c.from_residual-in_err-has_room.result in
    let p = err_from_is_err_and result c.from_residual-in_err-has_room.ensures.1 in
    let are = subst (λ (ns : List ℕ). AreNumbersOf k (words_at c.args.place.now) ns) (sym c.as_slice.ensures.value) c.in_ok-numbers.ensures.numbers in
    row_told k c.args.place.now c.args.word.now slice c.requires.sound are c.in_ok-numbers.ensures.row result
    (judges_refused (room_checks k c.args.word.now (length slice) slice) result c.in_err-has_room.field-0.0 (p.1 ∙ ap Err p.2) c.in_err-has_room.ensures)

pub returns-clause-row : goal.returns-clause-row
returns-clause-row c =
    let k = c.args.metadata.now in
    let are = subst (λ (ns : List ℕ). AreNumbersOf k (words_at c.args.place.now) ns) (sym c.as_slice.ensures.value) c.in_ok-numbers.ensures.numbers in
    row_told k c.args.place.now c.args.word.now c.as_slice.result.now c.requires.sound are c.in_ok-numbers.ensures.row (Ok c.in_ok-numbers.numbers) c.in_ok-has_room.ensures

pub returns-clause-may : goal.returns-clause-may
returns-clause-may c =
    let k = c.args.metadata.now in
    may_be_declared k c.args.place.now c.args.word.now c.in_ok-numbers.numbers.items c.requires.sound c.in_ok-numbers.ensures.form c.in_ok-numbers.ensures.numbers c.in_ok-numbers.ensures.few c.in_ok-numbers.ensures.row
    (subst (λ (ns : List ℕ). first_refusal (room_checks k c.args.word.now (length ns) ns) ≡ None) c.as_slice.ensures.value c.in_ok-has_room.ensures)
