use Rattle.lis_store.proofs.Common.{◌∙◌, length, ap, arith}
use Rattle.lis_store.specs.Admitting.{described_by}
use Rattle.lis_store.specs.Adding.{numbers_named}
use Rattle.lis_store.specs.Drafts.{drafted}
use Rattle.lis_store.proofs.Naming.{named_few}
use Rattle.lis_store.proofs.PutIn.{assigned_may, own_may, assigned_room, own_room, both_learnt, entailed_is, entailed_short}
use Rattle.lis_store.proofs.replacing.learn_own.Goals as goal

pub learn_words-requires-clause-form : goal.learn_words-requires-clause-form
learn_words-requires-clause-form c = assigned_may c.requires.sound c.requires.may

pub learn_words-requires-clause-room : goal.learn_words-requires-clause-room
learn_words-requires-clause-room c = assigned_room c.requires.sound c.requires.may

pub learn_words-requires-2-clause-form : goal.learn_words-requires-2-clause-form
learn_words-requires-2-clause-form c = own_may c.learn_words.new.metadata c.args.draft.own.now c.requires.may.own

pub learn_words-requires-2-clause-room : goal.learn_words-requires-2-clause-room
learn_words-requires-2-clause-room c = own_room c.requires.sound c.requires.may c.learn_words.ensures.learns

pub numbers_of-tags-requires-clause-sound : goal.numbers_of-tags-requires-clause-sound
numbers_of-tags-requires-clause-sound c = c.learn_words-2.ensures.sound (c.learn_words.ensures.sound c.requires.sound)

pub numbers_entailed-all-requires-clause-sound : goal.numbers_entailed-all-requires-clause-sound
numbers_entailed-all-requires-clause-sound c = c.learn_words-2.ensures.sound (c.learn_words.ensures.sound c.requires.sound)

pub numbers_entailed-all-requires-clause-few : goal.numbers_entailed-all-requires-clause-few
numbers_entailed-all-requires-clause-few c =
    entailed_short c.requires.sound c.requires.may (both_learnt c.requires.sound c.requires.may c.learn_words.ensures.learns c.learn_words-2.ensures.learns)

pub returns : goal.returns
returns c =
    let p = c.args.metadata.now in
    let r = c.learn_words-2.new.metadata in
    let draft = drafted c.args.draft.name.now c.args.draft.size c.args.draft.assigned.now c.args.draft.own.now in
    let learns = both_learnt c.requires.sound c.requires.may c.learn_words.ensures.learns c.learn_words-2.ensures.learns in
    let sound = c.learn_words-2.ensures.sound (c.learn_words.ensures.sound c.requires.sound) in
    let numbers = c.numbers_entailed-all.ensures ∙ ap (numbers_named r.dict) (entailed_is c.requires.sound c.requires.may learns) in
    record {
      learnt = record {
        learns = learns;
        sound = sound;
        tagged = c.numbers_of-tags.ensures;
        numbered = numbers;
        few = omega (arith, ap length numbers, named_few r.dict sound.dict (described_by p draft), c.requires.may.short);
      };
    }
