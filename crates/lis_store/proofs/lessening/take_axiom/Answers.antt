use Rattle.lis_store.proofs.Common.{◌∙◌, List, ℕ, is_some, sym, ap, subst, length, ◌&&◌, arith, and_from, word_of, Metadata, MayForget, FreeSlotsAreEmpty}
use Rattle.lis_ext.specs.Ext.{set_of}
use Rattle.lis_kept.specs.Changes.{Forgets}
use Rattle.lis_store.specs.Closing.{base_at}
use Rattle.lis_store.specs.declared.closing.Rebuild.TheVariants.{Losing}
use Rattle.lis_store.specs.Stored.{DescriptionsAreShort}
use Rattle.lis_store.proofs.Closed.{closure_few}
use Rattle.lis_store.proofs.Unaxiomed.{pair_sound, closed_unlinked, less_had, gone_may_forget}
use Rattle.lis_store.proofs.lessening.take_axiom.Goals as goal

pub with_head-numbers-requires : goal.with_head-numbers-requires
with_head-numbers-requires c = (pair_sound c.args.metadata.now c.requires.form.sound c.args.left c.args.right c.requires.may.there).1.left

pub rebuild_all-requires-clause-words : goal.rebuild_all-requires-clause-words
rebuild_all-requires-clause-words c =
    let p = c.args.metadata.now in
    let both = (pair_sound p c.requires.form.sound c.args.left c.args.right c.requires.may.there).1 in
    ap (λ (k : Metadata). is_some (word_of k.dict c.args.left) && is_some (word_of k.dict c.args.right)) c.unlink.ensures.unlinks.metadata
    ∙ and_from (is_some (word_of p.dict c.args.left)) (is_some (word_of p.dict c.args.right)) both.left both.right

pub rebuild_all-requires-clause-free : goal.rebuild_all-requires-clause-free
rebuild_all-requires-clause-free c = subst (λ (k : Metadata). FreeSlotsAreEmpty k) (sym c.unlink.ensures.unlinks.metadata) c.requires.form.free

pub rebuild_all-requires-clause-short : goal.rebuild_all-requires-clause-short
rebuild_all-requires-clause-short c = subst (λ (k : Metadata). DescriptionsAreShort k) (sym c.unlink.ensures.unlinks.metadata) c.requires.form.short

pub rebuild_all-requires-clause-few : goal.rebuild_all-requires-clause-few
rebuild_all-requires-clause-few c = λ slot here.
    let k = c.unlink.new.self in
    let closed = closed_unlinked c.unlink.ensures.unlinks c.requires.form.closed in
    omega (
      arith,
      closure_few k c.unlink.ensures.sound (base_at k (Losing c.args.left c.args.right) slot) closed slot (less_had k c.args.left c.args.right slot),
      c.requires.form.short slot,
      ap (λ (u : Metadata). length (set_of u.ext slot)) c.unlink.ensures.unlinks.metadata,
    )

pub forget_unused-requires : goal.forget_unused-requires
forget_unused-requires c =
    let p = c.args.metadata.now in
    let unlinks = c.unlink.ensures.unlinks in
    let P : List ℕ → Type 0 = λ ns. MayForget ns c.rebuild_all.new.metadata in
    subst P (sym (c.as_slice.ensures.value ∙ c.with_head-numbers.ensures))
    (gone_may_forget (record {
      sound = c.unlink.ensures.sound;
      closed = closed_unlinked unlinks c.requires.form.closed;
      free = subst (λ (k : Metadata). FreeSlotsAreEmpty k) (sym unlinks.metadata) c.requires.form.free;
      lessens = c.rebuild_all.ensures.rebuilt;
    }) p c.requires.form.sound c.requires.form.in_use.used unlinks c.requires.form.in_use.rights c.requires.form.in_use.tags c.rebuild_all.ensures.sound)

pub returns : goal.returns
returns c =
    let P : List ℕ → Type 0 = λ ns. Forgets ns c.rebuild_all.new.metadata c.forget_unused.new.self in
    record {
      unlinked = c.unlink.new.self;
      unlinks = c.unlink.ensures.unlinks;
      sound = c.unlink.ensures.sound;
      made = c.rebuild_all.new.metadata;
      lessens = c.rebuild_all.ensures.rebuilt;
      forgets = subst P (c.as_slice.ensures.value ∙ c.with_head-numbers.ensures) c.forget_unused.ensures.forgets;
    }
