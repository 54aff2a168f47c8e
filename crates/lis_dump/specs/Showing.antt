-- The parts of a dump, by what a store keeps, and how they come on pages.
use Rattle.std.specs.Prelude.{◌≡◌, ℕ, if◌then◌else◌, List, [], ◌++◌, Result, Ok, Err}
use Rattle.std.specs.List.{flat_map}
use Rattle.lis_kept.specs.Behind.{rights_of}
use Rattle.lis_kept.specs.Metadata.{Metadata}
use Rattle.lis_kept.specs.Telling.{is_declared, axioms_of}
use Rattle.lis_ports.specs.Meaning.{Meaning}
use Rattle.lis_model.specs.State.{State}
use Rattle.lis_replay.specs.Dump.{mkdir_line, axiom_line}
use Rattle.lis_store.specs.Stored.{Stored, StoreFits}
use Rattle.lis_session.specs.declared.end.End.{End}
use Rattle.lis_session.specs.Item.{FitsAt}
use Rattle.lis_session.specs.Showing.{Shows}

-- the line of a word with its number, if it is declared
abbrev pub declaring_line : Metadata → List ℕ × ℕ → List ℕ
declaring_line k entry = if is_declared k entry.0 then mkdir_line entry.0 else []

-- the lines of the axioms that have this left side
abbrev pub axiom_lines : List (List ℕ × List ℕ) → List ℕ → List ℕ
axiom_lines axioms left = flat_map (λ right. axiom_line (left, right)) (rights_of axioms left)

-- the same for a word with its number
abbrev pub entry_axioms : Metadata → List ℕ × ℕ → List ℕ
entry_axioms k entry = axiom_lines (axioms_of k) entry.0

-- what waits on the page: nothing after a fault, which ends the dump
abbrev pub waiting : Result (Unit {0}) End → List ℕ → List ℕ
waiting (Ok done) page = page
waiting (Err end) page = []

-- These bytes were on the page, and a text of the state came after them. Of both together one part was shown, and the rest is on the page now;
-- or a fault came, and a prefix of both was shown.
pub record Pages (k : Stored) (text : State → List ℕ) (before after : List ℕ) (old new : Meaning) (result : Result (Unit {0}) End) : Type 0 where
  pub said : State → List ℕ
  pub shows : Shows k said old new result
  pub is : (state : State) → FitsAt (StoreFits k old) old state → before ++ text state ≡ said state ++ waiting result after
