use Rattle.std.proofs.Common.{◌∙◌, sym, ap}
use Rattle.std.specs.List.{insert}
use Rattle.lis_words.specs.Words.{word_cmp}
use Rattle.lis_table.proofs.Places.{at_place, place_within, insert_there, insert_at}
use Rattle.lis_table.proofs.words.insert_word.Goals as goal

pub split_at-requires : goal.split_at-requires
split_at-requires c =
    rw c.as_slice.ensures.value
    (place_within word_cmp c.args.word.now c.args.words.now.items c.deref.result.now c.word_place-place.result c.deref.ensures.value c.word_place-place.ensures)

pub returns-then-begins_with_word-clause-ok : goal.returns-then-begins_with_word-clause-ok
returns-then-begins_with_word-clause-ok c =
    let first = at_place word_cmp c.args.word.now c.args.words.now.items c.deref.result.now c.as_slice.result.now c.split_at.result.1.now c.word_place-place.result
    c.deref.ensures.value c.word_place-place.ensures c.as_slice.ensures.value c.split_at.ensures.back in
    sym (insert_there word_cmp c.args.word.now c.args.words.now.items (first ∙ sym c.if-begins_with_word.ensures))

pub returns-clause-ok : goal.returns-clause-ok
returns-clause-ok c =
    let first = at_place word_cmp c.args.word.now c.args.words.now.items c.deref.result.now c.as_slice.result.now c.split_at.result.1.now c.word_place-place.result
    c.deref.ensures.value c.word_place-place.ensures c.as_slice.ensures.value c.split_at.ensures.back in
    c.in_ok-insert.ensures.items ∙ ap (λ word. insert c.args.words.now.items c.word_place-place.result word) c.copied.ensures
    ∙ insert_at word_cmp c.args.word.now c.args.words.now.items c.deref.result.now c.word_place-place.result c.deref.ensures.value c.word_place-place.ensures
    (first ∙ sym c.if-begins_with_word.ensures)
