use Rattle.lis_store.proofs.Common.{◌≡◌, ◌∙◌, ℕ, ◌∷◌, is_some, length, sym, ap, ap₂, subst, arith, List, none-some, same_Some, word_from_number, numbers_at, Metadata, FreeSlotsAreEmpty}
use Rattle.lis_store.specs.Closing.{closure, is_met_at}
use Rattle.lis_store.specs.Redescribing.{Redescribes}
use Rattle.lis_store.specs.Stored.{DescriptionsAreShort}
use Rattle.lis_store.specs.Testing.{tested}
use Rattle.lis_store.proofs.Declared.{metadata_are, number_then}
use Rattle.lis_store.proofs.Tested.{untested_same, tested_is, base_is, few_gained}
use Rattle.lis_store.proofs.testing.declare_tested.Goals as goal

pub returns-in_default : goal.returns-in_default
returns-in_default c = record {
  made = c.declare_under.new.self;
  stands = c.declare_under.ensures.declares_under;
  sound = c.declare_under.ensures.sound;
  gives = untested_same c.declare_under.new.self c.args.word.now c.declare_under.ensures.declares_under.declares.number (sym c.test_of.ensures ∙ c.in_default.is);
}

pub unreachable-requires : goal.unreachable-requires
unreachable-requires c =
    none-some c.declare_under.ensures.declares_under.declares.number
    (sym (sym c.number_of.ensures ∙ c.in_default-number_of.is) ∙ number_then c.requires.form.sound c.requires.may c.declare_under.ensures.declares_under c.declare_under.ensures.sound)

pub rebuild_all-requires-clause-words : goal.rebuild_all-requires-clause-words
rebuild_all-requires-clause-words c =
    ap is_some (word_from_number c.declare_under.new.self.dict c.declare_under.ensures.sound.dict c.args.word.now c.in-Some-number_of.number (sym c.number_of.ensures ∙ c.in-Some-number_of.is))

pub rebuild_all-requires-clause-free : goal.rebuild_all-requires-clause-free
rebuild_all-requires-clause-free c =
    subst (λ (k : Metadata). FreeSlotsAreEmpty k) (sym (metadata_are c.requires.form.sound c.requires.may c.declare_under.ensures.declares_under)) c.requires.form.free

pub rebuild_all-requires-clause-short : goal.rebuild_all-requires-clause-short
rebuild_all-requires-clause-short c =
    subst (λ (k : Metadata). DescriptionsAreShort k) (sym (metadata_are c.requires.form.sound c.requires.may c.declare_under.ensures.declares_under)) c.requires.form.short

pub rebuild_all-requires-clause-few : goal.rebuild_all-requires-clause-few
rebuild_all-requires-clause-few c = λ slot met.
    let made = c.declare_under.new.self in
    let n = c.in-Some-number_of.number in
    let stands = c.declare_under.ensures.declares_under in
    let same : n ≡ stands.declares.number =
    same_Some n stands.declares.number (sym (sym c.number_of.ensures ∙ c.in-Some-number_of.is) ∙ number_then c.requires.form.sound c.requires.may stands c.declare_under.ensures.sound) in
    let few = few_gained c.requires.form c.requires.may stands c.declare_under.ensures.sound slot (ap (λ t. is_met_at made t slot) (sym c.test_of.ensures ∙ c.in-Some.is) ∙ met) in
    let base = base_is made c.in-Some.test n slot ∙ ap₂ (λ m (k : Metadata). m ∷ numbers_at k.ext slot) same (metadata_are c.requires.form.sound c.requires.may stands) in
    omega (arith, few, ap (λ ns. length (closure made ns)) base)

pub returns : goal.returns
returns c =
    let made = c.declare_under.new.self in
    let n = c.in-Some-number_of.number in
    let stands = c.declare_under.ensures.declares_under in
    let same : n ≡ stands.declares.number =
    same_Some n stands.declares.number (sym (sym c.number_of.ensures ∙ c.in-Some-number_of.is) ∙ number_then c.requires.form.sound c.requires.may stands c.declare_under.ensures.sound) in
    let P : (ℕ → List ℕ) → Type 0 = λ sets. Redescribes sets made.limits.files made c.rebuild_all.new.metadata in
    record {
      made = made;
      stands = stands;
      sound = c.declare_under.ensures.sound;
      gives = subst P (tested_is made c.in-Some.test n ∙ ap₂ (tested made) (sym (sym c.test_of.ensures ∙ c.in-Some.is)) same) c.rebuild_all.ensures.rebuilt;
    }
