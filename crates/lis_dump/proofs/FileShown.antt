-- A file, shown in three pieces: the line that adds it, its bytes, and what follows them.
use Rattle.std.proofs.Common.{◌≡◌, ℕ, List, ◌∷◌, ◌++◌, Result, Ok, Err, codes, decimal}
use Rattle.lis_ports.specs.Meaning.{Meaning}
use Rattle.lis_model.specs.State.{State}
use Rattle.lis_model.specs.Changes.{file_of}
use Rattle.lis_replay.specs.Dump.{words_line, mv_lines, file_lines}
use Rattle.lis_store.specs.Stored.{Stored, StoreFits}
use Rattle.lis_session.specs.declared.end.End.{End}
use Rattle.lis_session.specs.Item.{FitsAt}
use Rattle.lis_dump.specs.Showing.{Pages}
use Rattle.lis_dump.proofs.Paging.{paged_same, paged_then, paged_front}

module _ (name : List ℕ) where
  abbrev pub added : ℕ → List (List ℕ) → List ℕ
  added size words = words_line (codes "add" ∷ name ∷ decimal size ∷ words)

  abbrev bytes_of : State → List ℕ
  bytes_of state = (file_of state.files name).bytes

  abbrev pub behind_line : List (List ℕ) → State → List ℕ
  behind_line words state = bytes_of state ++ 10 ∷ mv_lines name words

  abbrev lines_of : State → List ℕ
  lines_of state = file_lines (file_of state.files name)

module _ {k : Stored} {a b : Meaning} {before page : List ℕ} (name : List ℕ) (size : ℕ) (first others : List (List ℕ))
    (lines : (state : State) → FitsAt (StoreFits k a) a state → added name size first ++ behind_line name others state ≡ lines_of name state) where
  pub add_broke : {after : List ℕ} (end : End) → Pages k (λ state. added name size first) before page a b (Err end) → Pages k (lines_of name) before after a b (Err end)
  add_broke end add = paged_same (lines_of name) lines (paged_front (λ state. added name size first) (behind_line name others) end add)

  module _ {c : Meaning} {next after : List ℕ} (u : Unit {0}) (add : Pages k (λ state. added name size first) before page a b (Ok u)) where
    pub bytes_broke : (end : End) → Pages k (bytes_of name) page next b c (Err end) → Pages k (lines_of name) before after a c (Err end)
    bytes_broke end bytes =
        paged_same (lines_of name) lines
        (paged_then (λ state. added name size first) (behind_line name others) u add (paged_front (bytes_of name) (λ state. 10 ∷ mv_lines name others) end bytes))

    pub file_shown : {d : Meaning} {result : Result (Unit {0}) End} (v : Unit {0}) → Pages k (bytes_of name) page next b c (Ok v) → Pages k (λ state. 10 ∷ mv_lines name others) next after c d result
        → Pages k (lines_of name) before after a d result
    file_shown v bytes last =
        paged_same (lines_of name) lines
        (paged_then (λ state. added name size first) (behind_line name others) u add (paged_then (bytes_of name) (λ state. 10 ∷ mv_lines name others) v bytes last))
