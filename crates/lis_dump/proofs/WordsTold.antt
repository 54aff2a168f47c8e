-- The declared words of a state, by what a store keeps.
use Rattle.std.proofs.Common.{◌≡◌, ℕ, ◌≤◌, if◌then◌else◌, Bool, true, false, List, [], ◌∷◌, ◌++◌, length, map, filter, refl, ap, ◌∙◌, arith}
use Rattle.std.specs.List.{flat_map}
use Rattle.lis_ports.specs.Meaning.{Meaning}
use Rattle.lis_model.specs.State.{State}
use Rattle.lis_kept.specs.Metadata.{Metadata}
use Rattle.lis_kept.specs.Telling.{is_declared}
use Rattle.lis_replay.specs.Dump.{mkdir_line}
use Rattle.lis_store.specs.Stored.{Stored, IsSound, StoreFits}
use Rattle.lis_session.specs.Item.{FitsAt}
use Rattle.lis_dump.specs.Showing.{declaring_line}

-- there are no more words than the limit
pub few_words : (k : Stored) → IsSound k → length k.metadata.dict.entries ≤ k.metadata.limits.props
few_words k sound = omega (arith, sound.metadata.dict.few, sound.metadata.numbers)

declaring_lines : (k : Metadata) (entries : List (List ℕ × ℕ)) → flat_map (declaring_line k) entries ≡ flat_map mkdir_line (filter (is_declared k) (map (λ e. e.0) entries))
declaring_lines k [] = refl
declaring_lines k (entry ∷ entries) = by (is_declared k entry.0) (declaring_lines k entries)
  where
    declared : List (List ℕ)
    declared = filter (is_declared k) (map (λ (e : List ℕ × ℕ). e.0) entries)

    by : (b : Bool) → flat_map (declaring_line k) entries ≡ flat_map mkdir_line declared
        → (if b then mkdir_line entry.0 else []) ++ flat_map (declaring_line k) entries ≡ flat_map mkdir_line (if b then entry.0 ∷ declared else declared)
    by true rest = ap (λ text. mkdir_line entry.0 ++ text) rest
    by false rest = rest

-- the lines of the words are those of the state's declared ones
pub words_told : {k : Stored} {m : Meaning} (state : State) → FitsAt (StoreFits k m) m state → flat_map (declaring_line k.metadata) k.metadata.dict.entries ≡ flat_map mkdir_line state.declared
words_told {k} state fitting = declaring_lines k.metadata k.metadata.dict.entries ∙ ap (λ (s : State). flat_map mkdir_line s.declared) fitting.own.tells.state
