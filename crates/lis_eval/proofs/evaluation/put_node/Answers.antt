use Rattle.std.proofs.Common.{◌-◌, ◌+◌, not, nat_le, ◌&&◌, ◌||◌, refl, ap, ◌∙◌, arith}
use Rattle.lis_bits.specs.Rows.{get}
use Rattle.lis_bits.proofs.Laws.{bits_set, bits_again}
use Rattle.lis_grammar.specs.Formula.Formula.{Has, SizeAtLeast, SizeBelow, Both, Either}
use Rattle.lis_model.specs.Table.{Entry}
use Rattle.lis_place.specs.declared.node.Node.TheVariants.{And, Or}
use Rattle.lis_place.specs.Nodes.{with_node}
use Rattle.lis_eval.proofs.Slots.{passes_at}
use Rattle.lis_eval.proofs.Stacked.{pushes, puts, stands, changes, negates, joins, below_is, few_negated, few_joined}
use Rattle.lis_eval.proofs.evaluation.put_node.Goals as goal

pub returns-in-Word : goal.returns-in-Word
returns-in-Word g c = puts (g.V.View.seen c.args.view.now) c.args.rows.now c.put_word.new.rows c.args.files c.args.depth (Has c.in-Word.word) c.args.node.now (λ stack. ap (with_node stack) c.in-Word.is) c.put_word.ensures

pub returns-in-AtLeast : goal.returns-in-AtLeast
returns-in-AtLeast g c =
    let v = g.V.View.seen c.args.view.now in
    let least = c.in-AtLeast.size in
    puts v c.args.rows.now c.fill_sizes.new.rows c.args.files c.args.depth (SizeAtLeast least) c.args.node.now (λ stack. ap (with_node stack) c.in-AtLeast.is)
    (pushes v c.requires.room.kept c.args.rows.now c.fill_sizes.new.rows c.args.files (c.args.depth + 1) _ (SizeAtLeast least) c.requires.room.within c.fill_sizes.ensures
    (passes_at v c.requires.room.kept (λ (e : Entry). nat_le least e.size)))

pub returns-in-Below : goal.returns-in-Below
returns-in-Below g c =
    let v = g.V.View.seen c.args.view.now in
    let least = c.in-Below.size in
    let filled = c.fill_sizes-in-Below.new.rows in
    let row = c.args.depth + 1 in
    let small = c.requires.depth in
    let sized = c.fill_sizes-in-Below.ensures in
    let turned = bits_set filled 65 c.args.files row (λ bit. not (get filled row bit)) sized.shape (omega arith) in
    rw c.negate.ensures (puts v c.args.rows.now _ c.args.files c.args.depth (SizeBelow least) c.args.node.now (λ stack. ap (with_node stack) c.in-Below.is)
    (pushes v c.requires.room.kept c.args.rows.now _ c.args.files row _ (SizeBelow least) c.requires.room.within (bits_again c.args.rows.now filled _ 65 c.args.files row _ _ sized turned)
    (λ p there. ap not (sized.at p.slot (omega (arith, c.requires.room.within, c.requires.room.kept.slots p there)) ∙ passes_at v c.requires.room.kept (λ (e : Entry). nat_le least e.size) p there) ∙ below_is least p.entry.size)))

pub returns-then-depth-lt1 : goal.returns-then-depth-lt1
returns-then-depth-lt1 g c = stands (g.V.View.seen c.args.view.now) c.args.rows.now c.args.files c.args.depth 1 c.args.node.now c.requires.room.shape c.if-depth-lt1.true (λ stack few. ap (with_node stack) c.in-Not.is ∙ few_negated stack few)

pub returns-else-depth-lt1 : goal.returns-else-depth-lt1
returns-else-depth-lt1 g c =
    let v = g.V.View.seen c.args.view.now in
    let old = c.args.rows.now in
    let depth = c.args.depth in
    rw (c.negate-in-Not.ensures, c.in-Not.is) (changes v c.requires.room.kept old c.args.files depth depth _ (λ bit. not (get old depth bit)) c.requires.room.within c.requires.room.shape (omega arith) (omega arith) (omega arith) (negates v old depth (omega arith)))

pub returns-then-depth-lt2 : goal.returns-then-depth-lt2
returns-then-depth-lt2 g c = stands (g.V.View.seen c.args.view.now) c.args.rows.now c.args.files c.args.depth 2 c.args.node.now c.requires.room.shape c.if-depth-lt2.true (λ stack few. ap (with_node stack) c.in-And.is ∙ few_joined Both stack few)

pub returns-else-depth-lt2 : goal.returns-else-depth-lt2
returns-else-depth-lt2 g c =
    let v = g.V.View.seen c.args.view.now in
    let old = c.args.rows.now in
    let depth = c.args.depth in
    let some = c.if-depth-lt2.false in
    rw (c.and.ensures, c.in-And.is) (changes v c.requires.room.kept old c.args.files depth (depth - 1) _ (λ bit. get old (depth - 1) bit && get old depth bit) c.requires.room.within c.requires.room.shape (omega arith) (omega arith) (omega arith)
    (joins v old depth And Both ◌&&◌ some (λ f g stack. refl) (λ f g e. refl)))

pub returns-then-depth-lt2-2 : goal.returns-then-depth-lt2-2
returns-then-depth-lt2-2 g c = stands (g.V.View.seen c.args.view.now) c.args.rows.now c.args.files c.args.depth 2 c.args.node.now c.requires.room.shape c.if-depth-lt2-2.true (λ stack few. ap (with_node stack) c.in-Or.is ∙ few_joined Either stack few)

pub returns-else-depth-lt2-2 : goal.returns-else-depth-lt2-2
returns-else-depth-lt2-2 g c =
    let v = g.V.View.seen c.args.view.now in
    let old = c.args.rows.now in
    let depth = c.args.depth in
    let some = c.if-depth-lt2-2.false in
    rw (c.or.ensures, c.in-Or.is) (changes v c.requires.room.kept old c.args.files depth (depth - 1) _ (λ bit. get old (depth - 1) bit || get old depth bit) c.requires.room.within c.requires.room.shape (omega arith) (omega arith) (omega arith)
    (joins v old depth Or Either ◌||◌ some (λ f g stack. refl) (λ f g e. refl)))
