-- What a node does to the stack of rows.
use Rattle.std.proofs.Common.{◌≡◌, ℕ, ◌+◌, ◌-◌, ◌<◌, ◌≤◌, Bool, true, false, not, ◌&&◌, nat_le, nat_lt, List, [], ◌∷◌, ◌++◌, length, reverse, refl, sym, ap, ◌∙◌, arith, add-one}
use Rattle.std.specs.List.{Contains}
use Rattle.std.proofs.lemmas.Bool.Decides.{nat_tests}
use Rattle.std.proofs.lemmas.List.{reverse-append}
use Rattle.std.proofs.lemmas.List.Folds.{list_all-append}
use Rattle.lis_bits.specs.Rows.{Rows, HasShape, get, with_row, SetsBits}
use Rattle.lis_bits.proofs.Laws.{bits_set}
use Rattle.lis_grammar.specs.Formula.{Formula}
use Rattle.lis_grammar.specs.Formula.Formula.{Negation}
use Rattle.lis_grammar.specs.Codes.{combined}
use Rattle.lis_model.specs.Table.{Entry}
use Rattle.lis_model.specs.Listing.{holds, holds_all}
use Rattle.lis_place.specs.declared.node.Node.{Node}
use Rattle.lis_place.specs.declared.node.Node.TheVariants.{Not}
use Rattle.lis_place.specs.Nodes.{with_node}
use Rattle.lis_eval.specs.View.{Placed, Seen, IsView}
use Rattle.lis_eval.specs.Stack.{Stacks, IsStack, Pushes, PutsNode, in_all}

-- a row with the truth of a formula is that formula's
pub pushes : (v : Seen) → IsView v → (old new : Rows) (files row : ℕ) (value : ℕ → Bool) (f : Formula) → files ≡ v.limits.files → SetsBits old new 65 files row value
    → ((p : Placed) → Contains v.files p → value p.slot ≡ holds f p.entry) → Pushes v old new files row f
pushes v kept old new files row value f same sets told = record {
  shape = sets.shape;
  told = λ p there. sets.at p.slot (omega (arith, kept.slots p there)) ∙ told p there;
  others = sets.others;
}

-- the rows of a stack that stay
stays : (v : Seen) (old new : Rows) (stack : List Formula) → ((row bit : ℕ) → 1 ≤ row → row ≤ length stack → get new row bit ≡ get old row bit) → Stacks v old stack → Stacks v new stack
stays v old new [] same told = tt
stays v old new (f ∷ stack) same told = (
  λ p there. same (length (f ∷ stack)) p.slot (omega arith) (omega arith) ∙ told.0 p there,
  stays v old new stack (λ row bit some le. same row bit some (omega arith)) told.1,
)

module _ (v : Seen) (old new : Rows) (files depth : ℕ) where
  pushed : (f : Formula) → Pushes v old new files (depth + 1) f → (stack : List Formula) → IsStack v old depth stack → IsStack v new (depth + 1) (f ∷ stack)
  pushed f push stack is =
      let deep = is.deep in
      let top : length (f ∷ stack) ≡ depth + 1 = omega arith in
      record {
        deep = top;
        told = (
          λ p there. ap (λ row. get new row p.slot) top ∙ push.told p there,
          stays v old new stack (λ row bit some le. push.others row bit (omega arith)) is.told,
        );
      }

  pub puts : (f : Formula) (node : Node) → ((stack : List Formula) → with_node stack node ≡ f ∷ stack) → Pushes v old new files (depth + 1) f → PutsNode v old new files depth (depth + 1) node
  puts f node with push = record {
    stack = λ stack is. rw (with stack) (pushed f push stack is);
    deep = omega arith;
    shape = push.shape;
    first = λ bit. push.others 0 bit (omega arith);
  }

-- a node that finds no operands
pub stands : (v : Seen) (old : Rows) (files depth least : ℕ) (node : Node) → HasShape old 65 files → depth < least → ((stack : List Formula) → length stack < least → with_node stack node ≡ stack) → PutsNode v old old files depth depth node
stands v old files depth least node shape few with = record {
  stack = λ stack is. let deep = is.deep in rw (with stack (omega arith)) is;
  deep = omega arith;
  shape = shape;
  first = λ bit. refl;
}

pub few_negated : (stack : List Formula) → length stack < 1 → with_node stack Not ≡ stack
few_negated [] few = refl
few_negated (f ∷ stack) few = absurd (omega arith)

pub few_joined : (make : Formula → Formula → Formula) (stack : List Formula) → length stack < 2 → combined make stack ≡ stack
few_joined make [] few = refl
few_joined make (g ∷ []) few = refl
few_joined make (g ∷ f ∷ stack) few = absurd (omega arith)

-- one row of the stack is another formula's now, and those above it are gone
pub changes : (v : Seen) → IsView v → (old : Rows) (files depth now : ℕ) (node : Node) (value : ℕ → Bool) → files ≡ v.limits.files → HasShape old 65 files → now < 65 → 1 ≤ now → now ≤ depth
    → ((stack : List Formula) → IsStack v old depth stack → (f : Formula) × (rest : List Formula) × (with_node stack node ≡ f ∷ rest) × (length (f ∷ rest) ≡ now) × Stacks v old rest × ((p : Placed) → Contains v.files p → value p.slot ≡ holds f p.entry))
    → PutsNode v old (with_row old now value) files depth now node
changes v kept old files depth now node value same shape small some within step = record {
  stack = λ stack is.
      let parts = step stack is in
      let sets = bits_set old 65 files now value shape small in
      let deep = parts.3 in
      rw parts.2 (record {
        deep = deep;
        told = (
          λ p there. ap (λ row. get (with_row old now value) row p.slot) deep ∙ (sets.at p.slot (omega (arith, kept.slots p there)) ∙ parts.5 p there),
          stays v old (with_row old now value) parts.1 (λ row bit one le. sets.others row bit (omega arith)) parts.4,
        );
      });
  deep = omega arith;
  shape = (bits_set old 65 files now value shape small).shape;
  first = λ bit. (bits_set old 65 files now value shape small).others 0 bit (omega arith);
}

-- the last formula of a stack negated
pub negates : (v : Seen) (old : Rows) (depth : ℕ) → 1 ≤ depth → (stack : List Formula) → IsStack v old depth stack
    → (f : Formula) × (rest : List Formula) × (with_node stack Not ≡ f ∷ rest) × (length (f ∷ rest) ≡ depth) × Stacks v old rest × ((p : Placed) → Contains v.files p → not (get old depth p.slot) ≡ holds f p.entry)
negates v old depth some [] is = absurd (let deep = is.deep in omega arith)
negates v old depth some (g ∷ rest) is = (Negation g, rest, refl, is.deep, is.told.1, λ p there. ap not (ap (λ row. get old row p.slot) (sym is.deep) ∙ is.told.0 p there))

-- the last two formulas of a stack combined
pub joins : (v : Seen) (old : Rows) (depth : ℕ) (node : Node) (make : Formula → Formula → Formula) (join : Bool → Bool → Bool) → 2 ≤ depth
    → ((f g : Formula) (stack : List Formula) → with_node (g ∷ f ∷ stack) node ≡ make f g ∷ stack) → ((f g : Formula) (e : Entry) → join (holds f e) (holds g e) ≡ holds (make f g) e)
    → (stack : List Formula) → IsStack v old depth stack
    → (f : Formula) × (rest : List Formula) × (with_node stack node ≡ f ∷ rest) × (length (f ∷ rest) ≡ depth - 1) × Stacks v old rest × ((p : Placed) → Contains v.files p → join (get old (depth - 1) p.slot) (get old depth p.slot) ≡ holds f p.entry)
joins v old depth node make join two with meaning [] is = absurd (let deep = is.deep in omega arith)
joins v old depth node make join two with meaning (g ∷ []) is = absurd (let deep = is.deep in omega arith)
joins v old depth node make join two with meaning (g ∷ f ∷ rest) is =
    let deep = is.deep in
    let below : depth - 1 ≡ length (f ∷ rest) = omega arith in (
      make f g,
      rest,
      with f g rest,
      sym below,
      is.told.1.1,
      λ p there.
          ap (λ b. join b (get old depth p.slot)) (ap (λ row. get old row p.slot) below ∙ is.told.1.0 p there)
          ∙ (ap (λ b. join (holds f p.entry) b) (ap (λ row. get old row p.slot) (sym deep) ∙ is.told.0 p there) ∙ meaning f g p.entry),
    )

pub below_is : (n size : ℕ) → not (nat_le n size) ≡ nat_lt size n
below_is n size = grind (arith, nat_tests)

-- ---- all rows of the stack
pub all_hold : (v : Seen) (rows : Rows) (stack : List Formula) (p : Placed) → Contains v.files p → Stacks v rows stack → in_all rows (length stack) p.slot ≡ holds_all stack p.entry
all_hold v rows [] p there told = refl
all_hold v rows (f ∷ stack) p there told = rw (told.0 p there, all_hold v rows stack p there told.1)

-- one more row
pub all_more : (old now : Rows) (row bit : ℕ) (rest : Bool) → (get now 0 bit ≡ (in_all old row bit && rest)) → get now (row + 1) bit ≡ get old (row + 1) bit → (get now 0 bit && get now (row + 1) bit) ≡ (in_all old (row + 1) bit && rest)
all_more old now row bit rest first next = rw (first, next, more) (turned (in_all old row bit) rest (get old (row + 1) bit))
  where
    more : in_all old (row + 1) bit ≡ (get old (row + 1) bit && in_all old row bit)
    more = ap (λ n. in_all old n bit) (add-one row) ∙ ap (λ n. get old n bit && in_all old row bit) (sym (add-one row))

    turned : (a b c : Bool) → ((a && b) && c) ≡ ((c && a) && b)
    turned true true true = refl
    turned true true false = refl
    turned true false true = refl
    turned true false false = refl
    turned false b true = refl
    turned false b false = refl

swapped : (a b : Bool) → (a && b) ≡ (b && a)
swapped true true = refl
swapped true false = refl
swapped false true = refl
swapped false false = refl

pub and_true : (b : Bool) → (b && true) ≡ b
and_true true = refl
and_true false = refl

pub and_false : (b : Bool) → (b && false) ≡ false
and_false true = refl
and_false false = refl

pub turned_round : (place : List Formula) (e : Entry) → holds_all (reverse place) e ≡ holds_all place e
turned_round [] e = refl
turned_round (f ∷ place) e =
    ap (λ (fs : List Formula). holds_all fs e) (front f place)
    ∙ (list_all-append (λ (step : Formula). holds step e) (reverse place) (f ∷ []) ∙ (ap (λ b. b && (holds f e && true)) (turned_round place e) ∙ (ap (λ b. holds_all place e && b) (and_true (holds f e)) ∙ swapped (holds_all place e) (holds f e))))
  where
    front : (f : Formula) (place : List Formula) → reverse (f ∷ place) ≡ reverse place ++ f ∷ []
    front f place = reverse-append (f ∷ []) place
