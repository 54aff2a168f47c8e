use Rattle.lis_store.proofs.Common.{◌∙◌, is_some, length, sym, ap, subst, arith, both_ways, number_of, word_of, Metadata, FreeSlotsAreEmpty}
use Rattle.lis_ext.specs.Ext.{set_of}
use Rattle.lis_store.proofs.Relates.{left_may, left_numbered, right_numbered, left_named, may_link, few_linked}
use Rattle.lis_store.proofs.relating_in.relate.Goals as goal

pub learn_word-requires-clause-form : goal.learn_word-requires-clause-form
learn_word-requires-clause-form c = left_may c.requires.may

pub unreachable-requires : goal.unreachable-requires
unreachable-requires c =
    let learnt = c.learn_word.new.metadata in
    both_ways (is_some (number_of learnt.dict c.args.left.now)) (ap is_some (sym c.number_of.ensures ∙ c.in_default.is))
    (left_numbered c.requires.may c.learn_word.ensures.learns)

pub unreachable-requires-in_default-number_of : goal.unreachable-requires-in_default-number_of
unreachable-requires-in_default-number_of c =
    let learnt = c.learn_word.new.metadata in
    both_ways (is_some (number_of learnt.dict c.args.right.now)) (ap is_some (sym c.number_of-2.ensures ∙ c.in_default-number_of.is))
    (right_numbered c.requires.may c.learn_word.ensures.learns)

pub link-requires : goal.link-requires
link-requires c =
    may_link c.requires.may c.learn_word.ensures.learns c.learn_word.ensures.sound (sym c.number_of.ensures ∙ c.in-Some.is) (sym c.number_of-2.ensures ∙ c.in-Some-number_of.is)

pub rebuild_all-requires-clause-words : goal.rebuild_all-requires-clause-words
rebuild_all-requires-clause-words c =
    ap (λ (k : Metadata). is_some (word_of k.dict c.in-Some.from)) c.link.ensures.links.metadata
    ∙ ap is_some (left_named c.requires.may c.learn_word.ensures.learns c.learn_word.ensures.sound (sym c.number_of.ensures ∙ c.in-Some.is) (sym c.number_of-2.ensures ∙ c.in-Some-number_of.is))

pub rebuild_all-requires-clause-free : goal.rebuild_all-requires-clause-free
rebuild_all-requires-clause-free c =
    subst (λ (k : Metadata). FreeSlotsAreEmpty k) (sym c.link.ensures.links.metadata)
    (subst (λ (k : Metadata). FreeSlotsAreEmpty k) (sym c.learn_word.ensures.learns.metadata) c.requires.form.free)

pub rebuild_all-requires-clause-short : goal.rebuild_all-requires-clause-short
rebuild_all-requires-clause-short c = λ slot.
    omega (arith, c.requires.form.short slot, ap (λ (k : Metadata). length (set_of k.ext slot)) c.link.ensures.links.metadata, ap (λ (k : Metadata). length (set_of k.ext slot)) c.learn_word.ensures.learns.metadata)

pub rebuild_all-requires-clause-few : goal.rebuild_all-requires-clause-few
rebuild_all-requires-clause-few c =
    few_linked c.requires.may c.learn_word.ensures.learns c.learn_word.ensures.sound (sym c.number_of.ensures ∙ c.in-Some.is) (sym c.number_of-2.ensures ∙ c.in-Some-number_of.is) c.link.ensures.links c.requires.form.sound c.link.ensures.sound c.requires.form.free c.requires.form.closed

pub returns : goal.returns
returns c = record {
  learnt = c.learn_word.new.metadata;
  learns = c.learn_word.ensures.learns;
  sound = c.learn_word.ensures.sound;
  from = c.in-Some.from;
  is_left = sym c.number_of.ensures ∙ c.in-Some.is;
  to = c.in-Some-number_of.to;
  is_right = sym c.number_of-2.ensures ∙ c.in-Some-number_of.is;
  linked = c.link.new.self;
  links = c.link.ensures.links;
  sound_linked = c.link.ensures.sound;
  rebuilds = c.rebuild_all.ensures.rebuilt;
}
