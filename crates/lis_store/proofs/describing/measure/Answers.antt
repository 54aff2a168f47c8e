use Rattle.lis_store.proofs.Common.{arith, few_properties}
use Rattle.lis_store.specs.Drafts.{drafted}
use Rattle.lis_store.proofs.KnownBeside.{known_measured}
use Rattle.lis_store.proofs.Measured.{words_measured, few_numbers}
use Rattle.lis_store.proofs.describing.measure.Goals as goal

pub overflow_add-result : goal.overflow_add-result
overflow_add-result c =
    let k = c.args.metadata.now in
    let few = few_numbers k c.requires.sound (drafted c.args.draft.name.now c.args.draft.size c.args.draft.assigned.now c.args.draft.own.now) c.find_draft.new.search c.find_draft.result.items c.find_draft.ensures in
    omega (arith, few, c.count.ensures.value, few_properties k.limits c.requires.sound.range, c.len-fresh.ensures.fits)

pub overflow_sub-result : goal.overflow_sub-result
overflow_sub-result c =
    let draft = drafted c.args.draft.name.now c.args.draft.size c.args.draft.assigned.now c.args.draft.own.now in
    let known = known_measured c.args.metadata.now c.requires.sound draft c.find_draft.new.search c.find_draft.result.items c.find_draft.ensures c.args.beside c.requires.there c.requires.used in
    omega (arith, known, c.word_count.ensures, c.leaving.ensures, c.len-fresh.ensures.value)

pub returns-clause-words : goal.returns-clause-words
returns-clause-words c =
    let draft = drafted c.args.draft.name.now c.args.draft.size c.args.draft.assigned.now c.args.draft.own.now in
    omega (arith, words_measured c.args.metadata.now c.requires.sound draft c.find_draft.new.search c.find_draft.result.items c.find_draft.ensures, c.count.ensures.value, c.len-fresh.ensures.value)

pub returns-clause-known : goal.returns-clause-known
returns-clause-known c =
    let draft = drafted c.args.draft.name.now c.args.draft.size c.args.draft.assigned.now c.args.draft.own.now in
    let known = known_measured c.args.metadata.now c.requires.sound draft c.find_draft.new.search c.find_draft.result.items c.find_draft.ensures c.args.beside c.requires.there c.requires.used in
    omega (arith, known, c.word_count.ensures, c.leaving.ensures, c.len-fresh.ensures.value)
