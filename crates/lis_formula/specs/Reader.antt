-- The state of a reader.
use Rattle.std.specs.Prelude.{ℕ, List}
use Rattle.lis_formula.specs.declared.reader.Held.{Held}
use Rattle.lis_formula.specs.declared.reader.Phase.{Phase}
use Rattle.lis_formula.specs.declared.reader.Phase.TheVariants.{Wants, Within, Complete}
use Rattle.lis_formula.specs.declared.reader.Reader.{Reader}
use Rattle.lis_formula.specs.Walk.{Walk}
use Rattle.lis_formula.specs.Walk.Walk.{Begins, Inside, Ended}

abbrev pub walk_at : Phase → Held → List ℕ → Walk
walk_at Wants held text = Begins held
walk_at Within held text = Inside held text
walk_at Complete held text = Ended held

abbrev pub walk_of : Reader → Walk
walk_of reader = walk_at reader.phase reader.held reader.inside.items
