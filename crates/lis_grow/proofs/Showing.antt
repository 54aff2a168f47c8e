-- The lines of a summary, shown two at a time.
use Rattle.std.proofs.Common.{◌≡◌, ℕ, List, ◌++◌, codes, Result, Ok, Err, ap, sym, subst, ◌∙◌, append_assoc}
use Rattle.lis_ports.specs.Meaning.{Meaning}
use Rattle.lis_model.specs.Replies.{number_line}
use Rattle.lis_session.specs.declared.end.End.{End}
use Rattle.lis_session.specs.Parts.{Answers}
use Rattle.lis_session.proofs.InTurn.{answers_then, answers_front}
use Rattle.lis_grow.specs.Summary.{summary_text}

in_pairs : (a b c d e f : List ℕ) → a ++ b ++ c ++ d ++ e ++ f ≡ (a ++ b) ++ (c ++ d) ++ (e ++ f)
in_pairs a b c d e f = append_assoc (a ++ b ++ c ++ d) e f ∙ ap (λ bytes. bytes ++ (e ++ f)) (append_assoc (a ++ b) c d)

module _ (replies refused files axioms free listed : ℕ) where
  abbrev said : List ℕ
  said = number_line (codes "replies") replies ++ number_line (codes "refused") refused

  abbrev kept : List ℕ
  kept = number_line (codes "files") files ++ number_line (codes "axioms") axioms

  abbrev others : List ℕ
  others = number_line (codes "free") free ++ number_line (codes "listed") listed

  module _ {old : Meaning} where
    whole : {new : Meaning} (result : Result (Unit {0}) End) → Answers old new (said ++ kept ++ others) result → Answers old new (summary_text replies refused files axioms free listed) result
    whole {new} result answers = subst (λ bytes. Answers old new bytes result)
        (sym (in_pairs (number_line (codes "replies") replies) (number_line (codes "refused") refused) (number_line (codes "files") files) (number_line (codes "axioms") axioms) (number_line (codes "free") free) (number_line (codes "listed") listed)))
        answers

    pub first_broke : {one : Meaning} (end : End) → Answers old one said (Err end) → Answers old one (summary_text replies refused files axioms free listed) (Err end)
    first_broke end front = whole (Err end) (answers_front (said ++ kept) others end (answers_front said kept end front))

    module _ {one : Meaning} (u : Unit {0}) (first : Answers old one said (Ok u)) where
      pub second_broke : {two : Meaning} (end : End) → Answers one two kept (Err end) → Answers old two (summary_text replies refused files axioms free listed) (Err end)
      second_broke end next = whole (Err end) (answers_front (said ++ kept) others end (answers_then said kept u (Err end) first next))

      pub all_shown : {two new : Meaning} (v : Unit {0}) (result : Result (Unit {0}) End) → Answers one two kept (Ok v) → Answers two new others result
          → Answers old new (summary_text replies refused files axioms free listed) result
      all_shown v result second last = whole result (answers_then (said ++ kept) others v result (answers_then said kept u (Ok v) first second) last)
