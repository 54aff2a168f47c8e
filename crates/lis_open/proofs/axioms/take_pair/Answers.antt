use Rattle.lis_kept.proofs.FewEdges.{edges_most}
use Rattle.lis_open.specs.ReadWords.{kept_words}
use Rattle.lis_open.proofs.Common.{◌∙◌, arith, refl, sym, has_edge, false_from_ne_true}
use Rattle.lis_open.proofs.AxiomsRead.{right_below}
use Rattle.lis_open.proofs.axioms.take_pair.Goals as goal

pub add-requires-clause-q : goal.add-requires-clause-q
add-requires-clause-q c =
    right_below c.args.words.now c.args.left c.args.right c.args.axioms.now.taxonomy.props c.requires.words.are (c.requires.words.props ∙ sym c.requires.axioms.links.props)
    (sym c.are_sides.ensures ∙ c.if-not-are_sides.false)

pub add-requires-clause-room : goal.add-requires-clause-room
add-requires-clause-room c =
    let first = c.requires.words in
    let axioms = c.args.axioms.now in
    let are = c.requires.axioms in
    let most =
    edges_most (kept_words c.args.limits.now c.args.words.now axioms.slots.items) first.are.dict first.counted (λ slot left right is. (are.good slot left right is).below) axioms.taxonomy are.links in
    omega (arith, most, are.links.props, c.if-k-limits.false)

pub returns-clause-taken : goal.returns-clause-taken
returns-clause-taken c = record {
  below = c.if-k-limits.false;
  sides = sym c.are_sides.ensures ∙ c.if-not-are_sides.false;
  absent = false_from_ne_true (has_edge c.args.axioms.now.taxonomy c.args.left c.args.right) (λ h. absurd (let is = sym c.in-Ok.is ∙ c.add.ensures.present.1 h in cc));
  open_end = λ leads. absurd (let is = sym c.in-Ok.is ∙ c.add.ensures.cycle.1 leads in cc);
  slots = refl;
  taxonomy = c.in-Ok.ensures.ok;
}
