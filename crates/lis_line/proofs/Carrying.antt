-- The loop over an input: what it keeps, and how it ends.
use Rattle.std.proofs.Common.{◌≡◌, ℕ, ◌+◌, ◌-◌, List, [], ◌∷◌, ◌++◌, length, Option, Some, Ok, Err, subst, arith, length-append}
use Rattle.std.specs.Bool.{⊤}
use Rattle.std.specs.Option.{IfSome}
use Rattle.lis_model.specs.Script.{Cut, script_by}
use Rattle.lis_line.specs.declared.reader.Next.TheVariants.{End, Limit}
use Rattle.lis_line.specs.Reading.{Reading, fresh, Says}
use Rattle.lis_line.specs.Endings.{AllTaken, LimitTaken, WholeTaken, IsFront, Went}
use Rattle.lis_line.proofs.Given.{ReadSoFar, read_none, script_front}
use Rattle.lis_line.proofs.Answered.{all_taken, limit_taken, whole_taken}

-- these items were read, they were run, and as many more can be run as may still come
pub record SoFar {I : Type 0} (cut : Cut I) (limit : ℕ) (left_before left : Option (List ℕ)) (reading : Reading) (carried : List I → Type 0) (can : ℕ → Type 0) : Type 0 where
  pub first : List I
  pub read : ReadSoFar cut limit left_before left reading first
  pub done : carried first
  pub ready : can (limit - length first)

pub so_far_none : {I : Type 0} (cut : Cut I) {limit : ℕ} {left : Option (List ℕ)} {reading : Reading} (carried : List I → Type 0) (can : ℕ → Type 0)
    → reading ≡ fresh limit → carried [] → can limit → SoFar cut limit left left reading carried can
so_far_none cut {limit} {left} {reading} carried can is none able = record { first = []; read = read_none cut limit left reading is; done = none; ready = subst can (omega arith) able }

-- these items were run, whatever more can be run
pub so_far_done : {I : Type 0} {cut : Cut I} {limit : ℕ} {left_before left : Option (List ℕ)} {reading : Reading} {before : List I → Type 0} {can : ℕ → Type 0}
    (so_far : SoFar cut limit left_before left reading before can) (carried : List I → Type 0) → carried so_far.first → SoFar cut limit left_before left reading carried (λ _. ⊤)
so_far_done so_far carried done = record { first = so_far.first; read = so_far.read; done = done; ready = tt }

-- what is stated of the requested item holds of the item that was taken
pub of_item : {I : Type 0} {asked : Option I} {item : I} (P : I → Type 0) → asked ≡ Some item → IfSome asked P → P item
of_item P is holds = subst (λ (a : Option _). IfSome a P) is holds

-- how many more may come after the next item
abbrev pub behind_next : {I : Type 0} → ℕ → List I → ℕ
behind_next limit first = limit - (length first + 1)

module _ {I : Type 0} {cut : Cut I} {limit : ℕ} {left_before left : Option (List ℕ)} {reading : Reading} (first : List I) (item : I)
    (taken : ReadSoFar cut limit left_before left reading (first ++ item ∷ [])) where
  -- each item takes at least one byte, and none is past the limit
  pub ready_next : (can : ℕ → Type 0) → can (limit - length first) → can (behind_next limit first + 1)
  ready_next can able = subst can (omega (arith, taken.each_some, taken.rest, taken.within, length-append first (item ∷ []))) able

  -- the item was run
  pub so_far_more : (carried : List I → Type 0) (can : ℕ → Type 0) → carried (first ++ item ∷ []) → can (behind_next limit first) → SoFar cut limit left_before left reading carried can
  so_far_more carried can more able = record {
    first = first ++ item ∷ [];
    read = taken;
    done = more;
    ready = subst (λ n. can (limit - n)) (omega (arith, length-append first (item ∷ []))) able;
  }

  -- or there was a fault in it
  pub went_into : (stopped : List I → I → Type 0) → stopped first item
      → (item : I) × Went left_before (λ first. stopped first item) (λ input first. IsFront (script_by cut input limit) (first ++ item ∷ []))
  went_into stopped fault = (
    item,
    record {
      first = first;
      done = fault;
      read = λ input known. script_front (subst (λ l. ReadSoFar cut limit l left reading (first ++ item ∷ [])) known taken);
    },
  )

-- or after some of the items
pub went_front : {I : Type 0} {cut : Cut I} {limit : ℕ} {left_before left : Option (List ℕ)} {reading : Reading} {first : List I} → ReadSoFar cut limit left_before left reading first
    → (stopped : List I → Type 0) → stopped first → Went left_before stopped (λ input first. IsFront (script_by cut input limit) first)
went_front {cut = cut} {limit} {left = left} {reading} {first} taken stopped fault = record {
  first = first;
  done = fault;
  read = λ input known. script_front (subst (λ l. ReadSoFar cut limit l left reading first) known taken);
}

module _ {I : Type 0} {cut : Cut I} {limit : ℕ} {left_before left : Option (List ℕ)} {old : Reading} {carried : List I → Type 0} {can : ℕ → Type 0}
    (so_far : SoFar cut limit left_before left old carried can) where
  -- the items read, if the input is known
  read_from : (input : List ℕ) → left_before ≡ Some input → ReadSoFar cut limit (Some input) left old so_far.first
  read_from input known = subst (λ l. ReadSoFar cut limit l left old so_far.first) known so_far.read

  -- the end of the input
  pub went_all : {E : Type 0} {left_after : Option (List ℕ)} {new : Reading} → Says {E = E} cut old new left left_after (Ok End)
      → Went left_before carried (λ input first. AllTaken cut limit input left_after first)
  went_all says = record { first = so_far.first; done = so_far.done; read = λ input known. all_taken (read_from input known) says }

  -- the byte past the limit
  pub went_to_limit : {E : Type 0} {left_after : Option (List ℕ)} {new : Reading} → Says {E = E} cut old new left left_after (Ok Limit)
      → Went left_before carried (λ input first. LimitTaken cut limit input first)
  went_to_limit says = record { first = so_far.first; done = so_far.done; read = λ input known. limit_taken (read_from input known) says }

  -- a fault of the source
  pub went_whole : {E : Type 0} {left_after : Option (List ℕ)} {new : Reading} {failed : E} → Says cut old new left left_after (Err failed)
      → Went left_before carried (λ input first. WholeTaken cut limit input left_after first × IsFront (script_by cut input limit) first)
  went_whole says = record {
    first = so_far.first;
    done = so_far.done;
    read = λ input known. let read = read_from input known in (whole_taken read says, script_front read);
  }
