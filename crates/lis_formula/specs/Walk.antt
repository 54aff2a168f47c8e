-- The machine of the grammar with signs and nodes instead of trees: what the reader keeps.
use Rattle.std.specs.Prelude.{ℕ, ◌==◌, nat_lt, Bool, true, false, if◌then◌else◌, Option, Some, None, option_map, option_and_then, List, [], ◌∷◌, ◌++◌, length, take}
use Rattle.lis_limits.specs.declared.TheConstants.{MAX_NODES}
use Rattle.lis_words.specs.Bytes.{bar_byte}
use Rattle.lis_grammar.specs.Machine.{is_joint, is_operand_front}
use Rattle.lis_place.specs.declared.node.Node.{Node}
use Rattle.lis_place.specs.declared.node.Node.TheVariants.{Not, And, Or}
use Rattle.lis_formula.specs.declared.signs.Sign.{Sign}
use Rattle.lis_formula.specs.declared.signs.Sign.TheVariants.{Mark, Paren, Bar, Slash}
use Rattle.lis_formula.specs.declared.reader.Nodes.{Nodes}
use Rattle.lis_formula.specs.declared.reader.Held.{Held}
use Rattle.lis_formula.specs.Signs.{is_top, without_top, is_none_left}
use Rattle.lis_formula.specs.Operands.{operand_node}

-- what is kept of these nodes
abbrev pub first_64 : List Node → Nodes
first_64 nodes = record { nodes = record { items = take MAX_NODES nodes }; over = nat_lt MAX_NODES (length nodes) }

abbrev pub no_nodes : Nodes
no_nodes = record { nodes = record { items = [] }; over = false }

abbrev pub noted : Nodes → Node → Nodes
noted kept node =
    if length kept.nodes.items == 64 then record { nodes = kept.nodes; over = true }
    else record { nodes = record { items = kept.nodes.items ++ node ∷ [] }; over = kept.over }

abbrev pub noted_in : Held → Node → Held
noted_in held node = record { signs = held.signs; kept = noted held.kept node }

abbrev pub with_sign : Sign → Held → Held
with_sign sign held = record { signs = sign ∷ held.signs; kept = held.kept }

abbrev pub marked_on : List Sign → Nodes → Held
marked_on [] kept = record { signs = []; kept = kept }
marked_on (Mark ∷ signs) kept = marked_on signs (noted kept Not)
marked_on (Paren ∷ signs) kept = record { signs = Paren ∷ signs; kept = kept }
marked_on (Bar ∷ signs) kept = record { signs = Bar ∷ signs; kept = kept }
marked_on (Slash ∷ signs) kept = record { signs = Slash ∷ signs; kept = kept }

abbrev pub marked : Held → Held
marked held = marked_on held.signs held.kept

abbrev pub popped : Held → Held
popped held = record { signs = without_top held.signs; kept = held.kept }

abbrev pub closed_bar : Held → Held
closed_bar held = if is_top Bar held.signs then noted_in (popped held) Or else held

abbrev pub closed_slash : Held → Held
closed_slash held = if is_top Slash held.signs then noted_in (popped held) And else held

abbrev pub is_outermost : Held → Bool
is_outermost held = is_none_left held.signs

abbrev pub slashed : Held → Held
slashed held = if is_outermost held then held else with_sign Slash held

-- the state of the reader: an operand must begin; the bytes of a word or a test so far; an operand has ended
pub data Walk : Type 0 where
  Begins : Held → Walk
  Inside : Held → List ℕ → Walk
  Ended : Held → Walk

abbrev pub unwrapped : Held → Option Walk
unwrapped held = if is_top Paren held.signs then Some (Ended (marked (popped held))) else None

abbrev pub walk_joint : ℕ → Held → Option Walk
walk_joint b held =
    if b == bar_byte then Some (Begins (with_sign Bar (closed_bar held)))
    else if b == 47 then Some (Begins (slashed (closed_slash (closed_bar held))))
    else if b == 41 then unwrapped (closed_slash (closed_bar held))
    else None

abbrev pub settled_in : Held → List ℕ → Option Held
settled_in held text = option_map (λ node. marked (noted_in held node)) (operand_node text)

abbrev pub walk_settled : Walk → Option Held
walk_settled (Begins held) = None
walk_settled (Inside held text) = settled_in held text
walk_settled (Ended held) = Some held

abbrev pub walk_within : Held → List ℕ → Option Walk
walk_within held text = if is_operand_front text then Some (Inside held text) else None

abbrev pub walk_step : Walk → ℕ → Option Walk
walk_step (Begins held) b =
    if b == 33 then Some (Begins (with_sign Mark held))
    else if b == 40 then Some (Begins (with_sign Paren held))
    else walk_within held (b ∷ [])
walk_step (Inside held text) b =
    if is_joint b then option_and_then (walk_joint b) (settled_in held text) else walk_within held (text ++ b ∷ [])
walk_step (Ended held) b = walk_joint b held

abbrev pub all_kept : Held → Option Nodes
all_kept held = if is_outermost held then Some held.kept else None

abbrev pub walk_end : Walk → Option Nodes
walk_end walk = option_and_then (λ held. all_kept (closed_slash (closed_bar held))) (walk_settled walk)
