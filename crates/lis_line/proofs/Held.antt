-- The next item, if one is complete in what was taken and the source has nothing more.
use Rattle.std.proofs.Common.{◌≡◌, ◌⊎◌, ℕ, Bool, true, false, List, [], ◌∷◌, ◌++◌, Option, Some, None, Result, Ok, Err, ap, sym, ◌∙◌, refl, inl, inr, append_assoc, append-nil}
use Rattle.std.specs.Io.KnownBytes.{prepend_known, Consumes}
use Rattle.std.specs.Bool.{IsTrue}
use Rattle.lis_model.specs.Script.{Cut}
use Rattle.lis_line.specs.declared.reader.Next.{Next}
use Rattle.lis_line.specs.declared.reader.Next.TheVariants.{Item, End, Limit}
use Rattle.lis_line.specs.Stock.{Stocked}
use Rattle.lis_line.specs.Reading.{Reading, Gave, GaveWhole, GaveLast, GaveEnd, GaveRest, Gives, Says, LiesWhole}

-- if an item is complete in some bytes, the bytes have items
lies_some : {I : Type 0} (items : List ℕ → List I) (item : I) (others : List I) (bytes front rest : List ℕ) → bytes ≡ front ++ rest → items (front ++ rest) ≡ item ∷ others → items bytes ≡ [] → ⊥
lies_some items item others bytes front rest is some none =
    let no : [] ≡ item ∷ others = sym none ∙ ap items is ∙ some in
    absurd (cc)

all_some : {I : Type 0} {cut : Cut I} {bytes : List ℕ} → LiesWhole cut bytes → cut.all bytes ≡ [] → ⊥
all_some {cut = cut} {bytes} lies = lies_some cut.all lies.item (cut.all lies.rest) bytes lies.front lies.rest lies.is (lies.whole.all lies.rest)

whole_some : {I : Type 0} {cut : Cut I} {bytes : List ℕ} → LiesWhole cut bytes → cut.whole bytes ≡ [] → ⊥
whole_some {cut = cut} {bytes} lies = lies_some cut.whole lies.item (cut.whole lies.rest) bytes lies.front lies.rest lies.is (lies.whole.whole lies.rest)

-- what was given if the source has nothing more: bytes that were ahead
given_ahead : {old new : Stocked} {bytes : List ℕ} → Gave old new (Some []) (Some []) bytes → old.ahead ≡ bytes ++ new.ahead
given_ahead {old} {new} {bytes} gave =
    let took : old.ahead ++ [] ≡ bytes ++ (new.ahead ++ []) = gave.took in
    sym (append-nil old.ahead) ∙ took ∙ ap (λ xs. bytes ++ xs) (append-nil new.ahead)

given_all : {old new : Stocked} {bytes : List ℕ} → Gave old new (Some []) (Some []) bytes → new.ahead ≡ [] → old.ahead ≡ bytes
given_all {bytes = bytes} gave none = given_ahead gave ∙ ap (λ xs. bytes ++ xs) none ∙ append-nil bytes

-- they are given whatever is left of the source
gave_ahead : {old new : Stocked} {bytes : List ℕ} (left : Option (List ℕ)) → Gave old new (Some []) (Some []) bytes → Gave old new left left bytes
gave_ahead {old} {new} {bytes} left gave = record { took = by left; rest = gave.rest }
  where
    by : (left : Option (List ℕ)) → Consumes (prepend_known old.ahead left) (prepend_known new.ahead left) bytes
    by None = tt
    by (Some xs) = ap (λ ys. ys ++ xs) (given_ahead gave) ∙ append_assoc bytes new.ahead xs

module _ {I : Type 0} {cut : Cut I} {old new : Stocked} (lies : LiesWhole cut old.ahead) where
  no_end : GaveEnd cut old new (Some []) (Some []) → ⊥
  no_end gave = all_some lies (ap cut.all (given_all gave.gave gave.nothing_ahead) ∙ gave.none_left)

  no_fault : GaveRest cut old new (Some []) (Some []) → ⊥
  no_fault gave = whole_some lies (ap cut.whole (given_all gave.gave gave.nothing_ahead) ∙ gave.none_whole)

  no_last : {item : I} → GaveLast cut old new (Some []) (Some []) item → ⊥
  no_last gave = whole_some lies (ap cut.whole (given_all gave.gave gave.nothing_ahead) ∙ gave.is.whole)

module _ {I : Type 0} {cut : Cut I} (old new : Reading) (lies : LiesWhole cut old.stock.ahead) where
  gives_ahead : {E : Type 0} (left : Option (List ℕ)) (answer : Result (Next I) E) → Gives cut old new (Some []) (Some []) answer → Gives cut old new left left answer
  gives_ahead left (Ok (Item item)) gives = (gives.0, by gives.1)
    where
      by : (GaveWhole cut old.stock new.stock (Some []) (Some []) (item ∷ []) × (new.is_closed ≡ false)) ⊎ (GaveLast cut old.stock new.stock (Some []) (Some []) item × (new.is_closed ≡ true))
          → (GaveWhole cut old.stock new.stock left left (item ∷ []) × (new.is_closed ≡ false)) ⊎ (GaveLast cut old.stock new.stock left left item × (new.is_closed ≡ true))
      by (inl whole) = inl (
        record { bytes = whole.0.bytes; gave = gave_ahead left whole.0.gave; some = whole.0.some; within = whole.0.within; is = whole.0.is },
        whole.1,
      )
      by (inr last) = absurd (no_last lies last.0)
  gives_ahead left (Ok End) gives = absurd (no_end lies gives.0)
  gives_ahead left (Ok Limit) gives = (
    record { bytes = gives.0.bytes; byte = gives.0.byte; gave = gave_ahead left gives.0.gave; spent = gives.0.spent; none_whole = gives.0.none_whole },
    gives.1,
  )
  gives_ahead left (Err failed) gives = absurd (no_fault lies gives.0)

  -- so a reader says the same, whatever is left of the source
  pub says_ahead : {E : Type 0} (left : Option (List ℕ)) (answer : Result (Next I) E) → old.is_closed ≡ false → Says cut old new (Some []) (Some []) answer → Says cut old new left left answer
  says_ahead left answer opened says = record { gives = λ _. gives_ahead left answer (says.gives opened); closes = λ closed. absurd (cc) }

-- if the result was the end or a fault, no item was complete
pub not_true : (b : Bool) → (IsTrue b → ⊥) → b ≡ false
not_true true never = absurd (never refl)
not_true false _ = refl
