-- Rows as a stack of formulas. No public clause cites this module.
use Rattle.std.specs.Prelude.{◌≡◌, ◌≢◌, ℕ, zero, suc, ◌+◌, ◌≤◌, Bool, true, ◌&&◌, List, [], ◌∷◌, length}
use Rattle.std.specs.List.{Contains}
use Rattle.lis_bits.specs.Rows.{Rows, HasShape, get}
use Rattle.lis_grammar.specs.Formula.{Formula}
use Rattle.lis_model.specs.Listing.{holds}
use Rattle.lis_place.specs.declared.node.Node.{Node}
use Rattle.lis_place.specs.Nodes.{with_node}
use Rattle.lis_eval.specs.View.{Seen, Placed}

-- a row says of which files the formula holds
abbrev pub RowIs : Seen → Rows → ℕ → Formula → Type 0
RowIs v rows row f = (p : Placed) → Contains v.files p → get rows row p.slot ≡ holds f p.entry

-- the rows from 1 on are those of a stack of formulas, the last one first
abbrev pub Stacks : Seen → Rows → List Formula → Type 0
Stacks v rows [] = Unit {0}
Stacks v rows (f ∷ stack) = RowIs v rows (length (f ∷ stack)) f × Stacks v rows stack

pub record IsStack (v : Seen) (rows : Rows) (depth : ℕ) (stack : List Formula) : Type 0 where
  pub deep : length stack ≡ depth
  pub told : Stacks v rows stack

-- a row is that of the formula now, and the others stay
pub record Pushes (v : Seen) (old new : Rows) (files row : ℕ) (f : Formula) : Type 0 where
  pub shape : HasShape new 65 files
  pub told : RowIs v new row f
  pub others : (other bit : ℕ) → other ≢ row → get new other bit ≡ get old other bit

-- the stack of rows is changed as a stack of formulas is
pub record PutsNode (v : Seen) (old new : Rows) (files depth now : ℕ) (node : Node) : Type 0 where
  pub stack : (stack : List Formula) → IsStack v old depth stack → IsStack v new now (with_node stack node)
  pub deep : now ≤ depth + 1
  pub shape : HasShape new 65 files
  pub first : (bit : ℕ) → get new 0 bit ≡ get old 0 bit

-- the bit is true in each of the rows from 1 on up to this one
abbrev pub in_all : Rows → ℕ → ℕ → Bool
in_all rows zero bit = true
in_all rows (suc row) bit = get rows (suc row) bit && in_all rows row bit
