use Rattle.lis_store.proofs.Common.{◌≡◌, ◌∙◌, ℕ, ◌<◌, List, is_some, length, sym, ap, subst, arith, has_number, word_of, Metadata, named_all, Limits}
use Rattle.lis_store.specs.Closing.{rebuilt}
use Rattle.lis_store.specs.Redescribing.{SlotHas, Redescribes}
use Rattle.lis_store.proofs.Rebuilt.{concerned_same, closure_same, rebuilt_same, words_same_yet, same_here, redescribed_none, redescribed_more}
use Rattle.lis_store.proofs.closing.rebuild_all.Goals as goal

pub loop-slot-init : goal.loop-slot-init
loop-slot-init c = (redescribed_none (rebuilt c.args.metadata.now c.args.how) c.args.metadata.now, c.limits.ensures.sound)

pub rebuild_slot-requires-clause-words : goal.rebuild_slot-requires-clause-words
rebuild_slot-requires-clause-words c = words_same_yet c.args.how c.loop-slot.slot c.args.metadata.now c.loop-slot.metadata c.loop-slot.invariant.0 ∙ c.requires.words

pub rebuild_slot-requires-clause-few : goal.rebuild_slot-requires-clause-few
rebuild_slot-requires-clause-few c = λ is.
    let n = c.loop-slot.slot in
    let p = c.args.metadata.now in
    omega (
      arith,
      ap length (closure_same c.args.how n p c.loop-slot.metadata c.loop-slot.invariant.0),
      c.requires.few n (sym (concerned_same c.args.how n p c.loop-slot.metadata c.loop-slot.invariant.0) ∙ is),
    )

pub rebuild_slot-requires-clause-named : goal.rebuild_slot-requires-clause-named
rebuild_slot-requires-clause-named c = λ m had.
    let n = c.loop-slot.slot in
    let p = c.args.metadata.now in
    let was = same_here (rebuilt p c.args.how) n p c.loop-slot.metadata c.loop-slot.invariant.0 in
    ap (λ (k : Metadata). is_some (word_of k.dict m)) c.loop-slot.invariant.0.metadata
    ∙ named_all p c.limits.ensures.sound c.requires.free m n (ap (λ ns. has_number ns m) (sym was) ∙ had)

pub loop-slot-preserved : goal.loop-slot-preserved
loop-slot-preserved c =
    let n = c.loop-slot.slot in
    let p = c.args.metadata.now in
    let q = c.loop-slot.metadata in
    let so_far = c.loop-slot.invariant.0 in
    let inside : n < length p.ext.sets = omega (arith, c.loop-slot-test.true, c.limits.ensures.sound.files, ap (λ (l : Limits). l.files) c.limits.ensures.value) in
    let Q : List ℕ → Type 0 = λ ns. SlotHas n ns q c.rebuild_slot.new.metadata in
    let one = subst Q (rebuilt_same c.args.how n p q so_far) c.rebuild_slot.ensures.gives in
    (redescribed_more (rebuilt p c.args.how) n p q so_far c.rebuild_slot.new.metadata inside one, c.rebuild_slot.ensures.sound)

pub returns-clause-rebuilt : goal.returns-clause-rebuilt
returns-clause-rebuilt c =
    let p = c.args.metadata.now in
    let all : c.loop-slot.slot ≡ p.limits.files = omega (arith, c.loop-slot.auto.slot-end, c.loop-slot-test.false, ap (λ (l : Limits). l.files) c.limits.ensures.value) in
    subst (λ (n : ℕ). Redescribes (rebuilt p c.args.how) n p c.loop-slot.metadata) all c.loop-slot.invariant.0
