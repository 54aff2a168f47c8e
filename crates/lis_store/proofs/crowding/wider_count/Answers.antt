use Rattle.std.proofs.Common.{take, length-take}
use Rattle.std.proofs.lemmas.List.{take_all}
use Rattle.std.proofs.lemmas.List.Sums.{count_by_more_no, count_by_more_yes, count_by-le-length}
use Rattle.lis_store.proofs.Common.{◌≡◌, ◌||◌, ◌∙◌, ℕ, List, Bool, not, count_by, ap, sym, length, arith, numbers_where, Ext, few_properties}
use Rattle.lis_ext.specs.Numbers.{has_number}
use Rattle.lis_ext.specs.Ext.{set_of}
use Rattle.lis_ext.proofs.Counted.{where_le}
use Rattle.lis_taxonomy.specs.Search.{is_found}
use Rattle.lis_store.specs.Closing.{is_gained}
use Rattle.lis_store.proofs.Closed.{found_closure}
use Rattle.lis_store.proofs.Widened.{widened}
use Rattle.lis_store.proofs.crowding.wider_count.Goals.{then-not-has, else-not-has}
use Rattle.lis_store.proofs.crowding.wider_count.Goals as goal

pub numbers-own-requires : goal.numbers-own-requires
numbers-own-requires c = omega (arith, c.requires.slot, c.requires.sound.files, ap (λ (e : Ext). length e.sets) c.ext.ensures)

pub has-requires : goal.has-requires
has-requires c =
    let below = c.numbers-own.ensures.in_range c.loop-number.number-index 0 c.loop-number-test.true in
    omega (arith, below, ap (λ (e : Ext). e.props) c.ext.ensures, c.requires.sound.rows, few_properties c.args.metadata.now.limits c.requires.sound.range)

pub overflow_add-count : goal.overflow_add-count
overflow_add-count c =
    let k = c.args.metadata.now in
    let gained = c.args.gained.now in
    let own = c.numbers-own.result.now in
    let i = c.loop-number.number-index in
    let few = count_by-le-length (λ n. not (is_found gained n)) (take i own) in
    omega (
      arith,
      c.loop-number.invariant,
      c.requires.gained.1.count,
      where_le k.limits.props (is_gained k c.requires.gained.0),
      few,
      length-take i own,
      c.numbers-own.ensures.few,
      c.numbers-own.ensures.kept.few_props,
      ap (λ (e : Ext). e.props) c.ext.ensures,
      c.requires.sound.rows,
    )

pub loop-number-preserved : goal.loop-number-preserved
loop-number-preserved c =
    let own = c.numbers-own.result.now in
    let i = c.loop-number.number-index in
    let lt = c.loop-number-test.true in
    let new : ℕ → Bool = λ n. not (is_found c.args.gained.now n) in
    elim c.if-not-has.branch [
      | then-not-has w ↦ rw w.count-is (omega (arith, c.loop-number.invariant, count_by_more_yes new own i 0 lt (ap not (sym c.has.ensures) ∙ ap not w.if-not-has.true)))
      | else-not-has w ↦ rw w.count-is (omega (arith, c.loop-number.invariant, count_by_more_no new own i 0 lt (ap not (sym c.has.ensures) ∙ ap not w.if-not-has.false)))
    ]

pub returns : goal.returns
returns c =
    let k = c.args.metadata.now in
    let gained = c.args.gained.now in
    let own = c.numbers-own.result.now in
    let all = take_all c.loop-number.number-index own (omega arith) in
    let same : k.ext.props ≡ c.ext.result.now.props = sym (ap (λ (e : Ext). e.props) c.ext.ensures) in
    let set : own ≡ set_of k.ext c.args.slot = c.numbers-own.ensures.numbers ∙ ap (λ (e : Ext). set_of e c.args.slot) c.ext.ensures in
    let sum = widened c.ext.result.now.props (is_found gained) own c.numbers-own.ensures.rise c.numbers-own.ensures.in_range in
    let counted = c.requires.gained.1.count ∙ ap length (sym (found_closure k c.requires.gained.0 gained c.requires.gained.1)) in
    let found = ap (λ n. length (numbers_where n (is_found gained))) (sym c.requires.sound.rows ∙ same) in
    let own_all = ap (count_by (λ n. not (is_found gained n))) all in
    let told = ap (λ n. length (numbers_where n (λ p. has_number own p || is_found gained p))) (sym same)
    ∙ ap (λ (ns : List ℕ). length (numbers_where k.ext.props (λ p. has_number ns p || is_found gained p))) set in
    omega (arith, c.loop-number.invariant, own_all, counted, found, sum) ∙ told
