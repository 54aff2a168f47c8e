use Rattle.lis_store.proofs.Common.{◌∙◌, nat_lt, ap, subst, list_all, are_blocks, Limits}
use Rattle.lis_store.specs.Drafts.{drafted}
use Rattle.lis_store.specs.Admitting.{IsAdmitted}
use Rattle.lis_store.specs.ReplacingIn.{MayPut, record_in}
use Rattle.lis_store.proofs.Refiled.{may_there, may_comes, limits_room}
use Rattle.lis_store.proofs.replacing.replace_draft.Goals as goal

pub make_room-new_slot-requires-clause-free : goal.make_room-new_slot-requires-clause-free
make_room-new_slot-requires-clause-free c = λ none.
    let draft = drafted c.args.draft.name.now c.args.draft.size c.args.draft.assigned.now c.args.draft.own.now in
    let may : IsAdmitted c.args.metadata.now draft = subst (λ slot. MayPut c.args.metadata.now slot draft) none c.requires.may in
    may.slots

pub make_room-new_slot-requires-clause-there : goal.make_room-new_slot-requires-clause-there
make_room-new_slot-requires-clause-there c = may_there c.args.slot c.args.metadata.now (drafted c.args.draft.name.now c.args.draft.size c.args.draft.assigned.now c.args.draft.own.now) c.requires.may

pub settle_in-requires-clause-may : goal.settle_in-requires-clause-may
settle_in-requires-clause-may c =
    may_comes c.args.slot c.args.metadata.now c.make_room-new_slot.new.metadata c.make_room-new_slot.result.slot (drafted c.args.draft.name.now c.args.draft.size c.args.draft.assigned.now c.args.draft.own.now)
    c.requires.form c.make_room-new_slot.ensures.asked c.requires.may c.make_room-new_slot.ensures.room

pub settle_in-requires-clause-in_form : goal.settle_in-requires-clause-in_form
settle_in-requires-clause-in_form c =
    let limits = limits_room (record_in c.args.metadata.now c.args.slot) c.make_room-new_slot.result.slot c.args.metadata.now c.make_room-new_slot.new.metadata c.make_room-new_slot.ensures.room in
    ap (λ (l : Limits). are_blocks l.version c.args.draft.size c.args.blocks.items) limits ∙ c.requires.in_form

pub settle_in-requires-clause-below : goal.settle_in-requires-clause-below
settle_in-requires-clause-below c =
    let limits = limits_room (record_in c.args.metadata.now c.args.slot) c.make_room-new_slot.result.slot c.args.metadata.now c.make_room-new_slot.new.metadata c.make_room-new_slot.ensures.room in
    ap (λ (l : Limits). list_all (λ n. nat_lt n l.blocks) c.args.blocks.items) limits ∙ c.requires.below

pub returns : goal.returns
returns c = record {
  refiles = record {
    slot = c.make_room-new_slot.result.slot;
    old = c.make_room-new_slot.result.numbers.items;
    vacated = c.make_room-new_slot.new.metadata;
    makes = c.make_room-new_slot.ensures.room;
    vacant = c.make_room-new_slot.ensures.vacant;
    may = may_comes c.args.slot c.args.metadata.now c.make_room-new_slot.new.metadata c.make_room-new_slot.result.slot (drafted c.args.draft.name.now c.args.draft.size c.args.draft.assigned.now c.args.draft.own.now)
        c.requires.form c.make_room-new_slot.ensures.asked c.requires.may c.make_room-new_slot.ensures.room;
    settles = c.settle_in.ensures.settles;
  };
}
