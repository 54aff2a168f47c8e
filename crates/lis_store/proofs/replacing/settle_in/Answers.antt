use Rattle.lis_store.proofs.Common.{◌∙◌, ℕ, List, is_some, sym, ap, subst, arith, list_all, IsStrictlyIncreasing, slot_of, word_of, FileRecord, size_fits, Metadata, is_sound_record, Describes}
use Rattle.lis_kept.specs.Changes.{Files}
use Rattle.lis_store.specs.Drafts.{drafted}
use Rattle.lis_store.specs.Admitting.{described_by}
use Rattle.lis_store.specs.Adding.{numbers_named}
use Rattle.lis_store.specs.ReplacingIn.{LearnsOwn}
use Rattle.lis_store.proofs.PutIn.{named_rising, named_worded}
use Rattle.lis_store.proofs.SettlingIn.{below_described, free_described, name_described, numbers_described, record_described}
use Rattle.lis_store.proofs.replacing.settle_in.Goals as goal

pub learn_own-numbers-requires-clause-sound : goal.learn_own-numbers-requires-clause-sound
learn_own-numbers-requires-clause-sound c = c.requires.vacant.sound

pub describe-requires-clause-slot : goal.describe-requires-clause-slot
describe-requires-clause-slot c = omega (arith, c.requires.vacant.below, ap (λ (k : Metadata). k.limits.files) c.learn_own-numbers.ensures.learnt.learns.metadata)

pub describe-requires-clause-rising : goal.describe-requires-clause-rising
describe-requires-clause-rising c =
    let own = c.learn_own-numbers.ensures.learnt in
    subst (λ ns. IsStrictlyIncreasing ns) (sym (c.as_slice.ensures.value ∙ own.numbered))
    (named_rising c.learn_own-numbers.new.metadata own.sound (described_by c.args.metadata.now (drafted c.args.draft.name.now c.args.draft.size c.args.draft.assigned.now c.args.draft.own.now)))

pub describe-requires-clause-named : goal.describe-requires-clause-named
describe-requires-clause-named c =
    let own = c.learn_own-numbers.ensures.learnt in
    ap (list_all (λ n. is_some (word_of c.learn_own-numbers.new.metadata.dict n))) (c.as_slice.ensures.value ∙ own.numbered)
    ∙ named_worded c.learn_own-numbers.new.metadata own.sound (described_by c.args.metadata.now (drafted c.args.draft.name.now c.args.draft.size c.args.draft.assigned.now c.args.draft.own.now))

pub place_record-requires-clause-below : goal.place_record-requires-clause-below
place_record-requires-clause-below c =
    let D : List ℕ → Type 0 = λ ns. Describes c.args.new_slot.now.slot ns c.learn_own-numbers.new.metadata c.describe.new.self in
    below_described c.requires.vacant c.requires.may c.learn_own-numbers.ensures.learnt (subst D c.as_slice.ensures.value c.describe.ensures.describes)

pub place_record-requires-clause-free : goal.place_record-requires-clause-free
place_record-requires-clause-free c =
    let D : List ℕ → Type 0 = λ ns. Describes c.args.new_slot.now.slot ns c.learn_own-numbers.new.metadata c.describe.new.self in
    free_described c.requires.vacant c.requires.may c.learn_own-numbers.ensures.learnt (subst D c.as_slice.ensures.value c.describe.ensures.describes)

pub place_record-requires-clause-described : goal.place_record-requires-clause-described
place_record-requires-clause-described c =
    let D : List ℕ → Type 0 = λ ns. Describes c.args.new_slot.now.slot ns c.learn_own-numbers.new.metadata c.describe.new.self in
    numbers_described c.requires.vacant c.requires.may c.learn_own-numbers.ensures.learnt (subst D c.as_slice.ensures.value c.describe.ensures.describes)

pub place_record-requires-clause-new : goal.place_record-requires-clause-new
place_record-requires-clause-new c =
    let D : List ℕ → Type 0 = λ ns. Describes c.args.new_slot.now.slot ns c.learn_own-numbers.new.metadata c.describe.new.self in
    ap (slot_of c.describe.new.self.catalog) c.copied.ensures
    ∙ name_described c.requires.vacant c.requires.may c.learn_own-numbers.ensures.learnt (subst D c.as_slice.ensures.value c.describe.ensures.describes)

pub place_record-requires-clause-sound : goal.place_record-requires-clause-sound
place_record-requires-clause-sound c =
    let d = c.describe.new.self in
    let D : List ℕ → Type 0 = λ ns. Describes c.args.new_slot.now.slot ns c.learn_own-numbers.new.metadata d in
    let make : List ℕ → FileRecord = λ name. record { name = name; size = c.args.draft.size; tags = c.learn_own-numbers.result.tags.items; blocks = c.args.blocks.items } in
    ap (λ name. is_sound_record d.limits d.dict d.limits.blocks (make name)) c.copied.ensures
    ∙ record_described c.requires.vacant c.requires.may c.learn_own-numbers.ensures.learnt (subst D c.as_slice.ensures.value c.describe.ensures.describes) c.args.blocks.items c.requires.in_form c.requires.below

pub overflow_cast-draft : goal.overflow_cast-draft
overflow_cast-draft c = omega (arith, size_fits c.args.metadata.now.limits c.args.draft.size c.requires.may.small)

pub returns : goal.returns
returns c =
    let own = c.learn_own-numbers.ensures.learnt in
    let draft = drafted c.args.draft.name.now c.args.draft.size c.args.draft.assigned.now c.args.draft.own.now in
    let L : List ℕ → List ℕ → Type 0 = λ tags numbers. LearnsOwn draft tags numbers c.args.metadata.now c.learn_own-numbers.new.metadata in
    let D : List ℕ → Type 0 = λ ns. Describes c.args.new_slot.now.slot ns c.learn_own-numbers.new.metadata c.describe.new.self in
    let F : List ℕ → List ℕ → Type 0 = λ name tags.
    Files c.args.new_slot.now.slot (record { name = name; size = c.args.draft.size; tags = tags; blocks = c.args.blocks.items }) c.describe.new.self c.place_record.new.self in
    record {
      settles = record {
        learnt = c.learn_own-numbers.new.metadata;
        own = subst (λ tags. L tags (numbers_named c.learn_own-numbers.new.metadata.dict (described_by c.args.metadata.now draft))) own.tagged (subst (L c.learn_own-numbers.result.tags.items) own.numbered own);
        described = c.describe.new.self;
        describes = subst D (c.as_slice.ensures.value ∙ own.numbered) c.describe.ensures.describes;
        files = subst (F c.args.draft.name.now) own.tagged (subst (λ name. F name c.learn_own-numbers.result.tags.items) c.copied.ensures c.place_record.ensures.files);
        sound = c.place_record.ensures.sound;
      };
    }
