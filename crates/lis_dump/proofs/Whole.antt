-- The whole dump, shown in three parts.
use Rattle.std.proofs.Common.{◌≡◌, ℕ, List, [], ◌++◌, Result, Ok, Err, sym, append_assoc}
use Rattle.std.specs.List.{flat_map}
use Rattle.lis_ports.specs.Meaning.{Meaning}
use Rattle.lis_model.specs.State.{State}
use Rattle.lis_replay.specs.Dump.{mkdir_line, file_lines, axiom_line, dump_of}
use Rattle.lis_store.specs.Stored.{Stored}
use Rattle.lis_session.specs.declared.end.End.{End}
use Rattle.lis_session.specs.Parts.{Answers}
use Rattle.lis_session.specs.Showing.{Shows}
use Rattle.lis_session.proofs.Shown.{shown_same}
use Rattle.lis_dump.specs.Showing.{Pages}
use Rattle.lis_dump.proofs.Paging.{paged_then, paged_front, paged_out, paged_broke}

abbrev words_of : State → List ℕ
words_of state = flat_map mkdir_line state.declared

abbrev files_of : State → List ℕ
files_of state = flat_map file_lines state.files

abbrev axioms_in : State → List ℕ
axioms_in state = flat_map axiom_line state.axioms

abbrev behind_words : State → List ℕ
behind_words state = files_of state ++ axioms_in state

whole : (state : State) → words_of state ++ behind_words state ≡ dump_of state
unfolding dump_of
whole state = sym (append_assoc (words_of state) (files_of state) (axioms_in state))

module _ {k : Stored} {a b : Meaning} {before page : List ℕ} (empty : before ≡ []) where
  pub words_broke : (end : End) → Pages k words_of before page a b (Err end) → Shows k dump_of a b (Err end)
  words_broke end words = shown_same dump_of (λ state fitting. whole state) (paged_broke empty end (paged_front words_of behind_words {after = page} end words))

  module _ {c : Meaning} {next : List ℕ} (u : Unit {0}) (words : Pages k words_of before page a b (Ok u)) where
    pub files_broke : (end : End) → Pages k files_of page next b c (Err end) → Shows k dump_of a c (Err end)
    files_broke end files = shown_same dump_of (λ state fitting. whole state) (paged_broke empty end (paged_then words_of behind_words {after = page} u words (paged_front files_of axioms_in end files)))

    module _ {d : Meaning} {last : List ℕ} (v : Unit {0}) (files : Pages k files_of page next b c (Ok v)) where
      pub axioms_broke : (end : End) → Pages k axioms_in next last c d (Err end) → Shows k dump_of a d (Err end)
      axioms_broke end axioms = shown_same dump_of (λ state fitting. whole state) (paged_broke empty end (paged_then words_of behind_words u words (paged_then files_of axioms_in v files axioms)))

      pub dump_shown : {e : Meaning} (w : Unit {0}) (result : Result (Unit {0}) End) → Pages k axioms_in next last c d (Ok w) → Answers d e last result → Shows k dump_of a e result
      dump_shown w result axioms rest =
          shown_same dump_of (λ state fitting. whole state) (paged_out empty w result (paged_then words_of behind_words u words (paged_then files_of axioms_in v files axioms)) rest)
