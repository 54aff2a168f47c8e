use Rattle.lis_store.proofs.Common.{◌≡◌, ◌∙◌, ◌<◌, ◌||◌, ℕ, Bool, true, false, List, not, refl, sym, ap, Metadata, has_number, arith, few_properties}
use Rattle.lis_taxonomy.specs.Search.{is_found}
use Rattle.lis_store.specs.declared.closing.Rebuild.{Rebuild}
use Rattle.lis_store.specs.declared.closing.Rebuild.TheVariants.{Having, Losing, Meeting}
use Rattle.lis_store.specs.Closing.{is_entailed, tags_at, is_base, FindsLost}
use Rattle.lis_store.proofs.closing.is_base.Goals as goal

turned : (a c : Bool) → (a || not c) ≡ (not (c || false) || a)
turned true true = refl
turned true false = refl
turned false true = refl
turned false false = refl

-- a number is one of those if it was not found, or if it is the file's own
base_by : (k : Metadata) (how : Rebuild) (slot n : ℕ) (lost : List ℕ) → FindsLost k how lost → n < k.limits.props → is_base k how slot n ≡ (not (is_found lost n) || has_number (tags_at k slot) n)
base_by k (Having number) slot n lost none lt = sym (ap (λ found. not (is_found found n) || has_number (tags_at k slot) n) none)
base_by k (Losing left right) slot n lost are lt =
    turned (has_number (tags_at k slot) n) (is_entailed k right n) ∙ ap (λ b. not b || has_number (tags_at k slot) n) (sym (are.gained n lt))
base_by k (Meeting test number) slot n lost none lt = sym (ap (λ found. not (is_found found n) || has_number (tags_at k slot) n) none)

pub returns-then-not-has : goal.returns-then-not-has
returns-then-not-has c =
    let k = c.args.metadata.now in
    let own = has_number (tags_at k c.args.slot) c.args.number in
    let found = sym c.has.ensures ∙ c.if-not-has.true in
    ap not c.if-not-has.true ∙ (sym (ap (λ b. not b || own) found) ∙ sym (base_by k c.args.how c.args.slot c.args.number c.args.lost.now c.requires.lost c.requires.number))

pub returns-else-not-has : goal.returns-else-not-has
returns-else-not-has c =
    let k = c.args.metadata.now in
    let own = has_number (tags_at k c.args.slot) c.args.number in
    let found = sym c.has.ensures ∙ c.if-not-has.false in
    c.is_given.ensures ∙ (sym (ap (λ b. not b || own) found) ∙ sym (base_by k c.args.how c.args.slot c.args.number c.args.lost.now c.requires.lost c.requires.number))

pub has-requires : goal.has-requires
has-requires c = omega (arith, c.requires.number, few_properties c.args.metadata.now.limits c.requires.sound.range)
