-- Items run in sequence.
use Rattle.std.proofs.Common.{◌≡◌, List, [], ◌∷◌, ◌++◌, refl, ap, sym, ◌∙◌, append_assoc}
use Rattle.lis_model.specs.Step.{SituationOf, OutcomeOf, replies_by, after_by}

module _ {P I : Type 0} (by : SituationOf P → I → OutcomeOf P) where
  pub after-append : (now : SituationOf P) (first others : List I) → after_by by now (first ++ others) ≡ after_by by (after_by by now first) others
  after-append now [] others = refl
  after-append now (item ∷ first) others = after-append (by now item).next first others

  pub replies-append : (now : SituationOf P) (first others : List I)
      → replies_by by now (first ++ others) ≡ replies_by by now first ++ replies_by by (after_by by now first) others
  replies-append now [] others = refl
  replies-append now (item ∷ first) others =
      ap (λ bytes. (by now item).reply ++ bytes) (replies-append (by now item).next first others)
      ∙ sym (append_assoc (by now item).reply (replies_by by (by now item).next first) (replies_by by (after_by by (by now item).next first) others))
