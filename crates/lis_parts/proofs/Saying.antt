-- Bytes that are appended piece by piece, and are shown when there is no more room.
use Rattle.std.proofs.Common.{◌≡◌, ℕ, List, [], ◌++◌, Result, Ok, Err, OnOk, OnErr, refl, ap, sym, subst, ◌∙◌, append_assoc, append-nil}
use Rattle.std.specs.Result.{IsErrAnd}
use Rattle.lis_ports.specs.Meaning.{Meaning}
use Rattle.lis_session.specs.declared.end.End.{End}
use Rattle.lis_session.specs.Parts.{Answers}
use Rattle.lis_session.proofs.InTurn.{answers_none, answers_then, answers_front, in_a_row, passed_on}
use Rattle.lis_parts.specs.Showing.{Says}

-- ---- one piece
-- there is room for it
pub says_kept : (m : Meaning) {before after bytes : List ℕ} → after ≡ before ++ bytes → Says m m before after bytes (Ok tt)
says_kept m is = record { shown = []; answers = answers_none m; kept = sym is; all = tt }

-- what was kept could not be shown
pub says_broke : {old new : Meaning} {before after bytes : List ℕ} {end : End} {result : Result (Unit {0}) End} → Answers old new before (Err end) → IsErrAnd result (λ e. e ≡ end) → Says old new before after bytes result
says_broke {result = Ok u} front same = absurd same
says_broke {before = before} {bytes = bytes} {end} {result = Err e} front same = rw same (record { shown = before ++ bytes; answers = answers_front before bytes end front; kept = tt; all = refl })

-- it was shown, and then the piece is
pub says_shown : {old mid new : Meaning} {before after bytes : List ℕ} {u : Unit {0}} {result : Result (Unit {0}) End} → Answers old mid before (Ok u) → after ≡ [] → Answers mid new bytes result → Says old new before after bytes result
says_shown {before = before} {after} {bytes} {u} {result} front none last = record { shown = before ++ bytes; answers = answers_then before bytes u result front last; kept = whole result; all = same result }
  where
    whole : (r : Result (Unit {0}) End) → OnOk r (before ++ bytes ≡ (before ++ bytes) ++ after)
    whole (Ok v) = sym (ap (λ xs. (before ++ bytes) ++ xs) none ∙ append-nil (before ++ bytes))
    whole (Err e) = tt

    same : (r : Result (Unit {0}) End) → OnErr r (before ++ bytes ≡ before ++ bytes)
    same (Ok v) = tt
    same (Err e) = refl

-- ---- two pieces
module _ {a b : Meaning} {before mid first : List ℕ} where
  pub says_then : {c : Meaning} {after more all : List ℕ} {u : Unit {0}} {result : Result (Unit {0}) End} → Says a b before mid first (Ok u) → Says b c mid after more result → all ≡ first ++ more
      → Says a c before after all result
  says_then {after = after} {more} {all} {u} {result} one two is = record {
    shown = one.shown ++ two.shown;
    answers = answers_then one.shown two.shown u result one.answers two.answers;
    kept = kept result two.kept;
    all = whole result two.all;
  }
    where
      parted : before ++ all ≡ one.shown ++ (mid ++ more)
      parted = ap (λ xs. before ++ xs) is ∙ (sym (append_assoc before first more) ∙ (ap (λ xs. xs ++ more) one.kept ∙ append_assoc one.shown mid more))

      kept : (r : Result (Unit {0}) End) → OnOk r (mid ++ more ≡ two.shown ++ after) → OnOk r (before ++ all ≡ (one.shown ++ two.shown) ++ after)
      kept (Ok v) same = parted ∙ (ap (λ xs. one.shown ++ xs) same ∙ sym (append_assoc one.shown two.shown after))
      kept (Err e) same = tt

      whole : (r : Result (Unit {0}) End) → OnErr r (mid ++ more ≡ two.shown) → OnErr r (before ++ all ≡ one.shown ++ two.shown)
      whole (Ok v) same = tt
      whole (Err e) same = parted ∙ ap (λ xs. one.shown ++ xs) same

  -- the first of them was not shown whole
  pub says_front : {after all : List ℕ} {end : End} {result : Result (Unit {0}) End} (more : List ℕ) → Says a b before mid first (Err end) → IsErrAnd result (λ e. e ≡ end) → all ≡ first ++ more
      → Says a b before after all result
  says_front {result = Ok u} more one same is = absurd same
  says_front {after} {all} {end} {result = Err e} more one same is = rw same (record {
    shown = one.shown ++ more;
    answers = answers_front one.shown more end one.answers;
    kept = tt;
    all = ap (λ xs. before ++ xs) is ∙ (sym (append_assoc before first more) ∙ ap (λ xs. xs ++ more) one.all);
  })

-- ---- what a loop keeps
-- This much of the text was appended since the start, and this is left.
pub record SaidSoFar (text left : List ℕ) (old now : Meaning) (before kept : List ℕ) : Type 0 where
  pub said : List ℕ
  pub says : Says old now before kept said (Ok tt)
  pub is : text ≡ said ++ left

pub so_far_none : (text : List ℕ) (m : Meaning) (kept : List ℕ) → SaidSoFar text text m m kept kept
so_far_none text m kept = record { said = []; says = says_kept m (sym (append-nil kept)); is = refl }

module _ {text left : List ℕ} {old now next : Meaning} {before kept piece after : List ℕ} (so_far : SaidSoFar text left old now before kept) (rest : List ℕ) (splits : left ≡ piece ++ rest) where
  pub so_far_more : {u : Unit {0}} → Says now next kept after piece (Ok u) → SaidSoFar text rest old next before after
  so_far_more says = record {
    said = so_far.said ++ piece;
    says = says_then so_far.says says refl;
    is = so_far.is ∙ (ap (λ xs. so_far.said ++ xs) splits ∙ sym (append_assoc so_far.said piece rest));
  }

  pub so_far_broke : {end : End} {result : Result (Unit {0}) End} → Says now next kept after piece (Err end) → IsErrAnd result (λ e. e ≡ end) → Says old next before after text result
  so_far_broke says same = says_then so_far.says (says_front rest says same splits) so_far.is

-- nothing is left
pub so_far_all : {text left : List ℕ} {old now : Meaning} {before kept : List ℕ} → SaidSoFar text left old now before kept → left ≡ [] → Says old now before kept text (Ok tt)
so_far_all {old = old} {now} {before} {kept} so_far none =
    subst (λ xs. Says old now before kept xs (Ok tt)) (sym (so_far.is ∙ (ap (λ xs. so_far.said ++ xs) none ∙ append-nil so_far.said))) so_far.says

-- ---- from an empty start
module _ {a b : Meaning} {before kept bytes : List ℕ} (none : before ≡ []) where
  -- what is kept is shown last
  pub said_flushed : {c : Meaning} {u : Unit {0}} {result : Result (Unit {0}) End} → Says a b before kept bytes (Ok u) → Answers b c kept result → Answers a c bytes result
  said_flushed says last = in_a_row says.answers last (sym (ap (λ xs. xs ++ bytes) none) ∙ says.kept)

  pub said_broke : {end : End} {result : Result (Unit {0}) End} → Says a b before kept bytes (Err end) → IsErrAnd result (λ e. e ≡ end) → Answers a b bytes result
  said_broke says same = passed_on [] says.answers same (sym (ap (λ xs. xs ++ bytes) none) ∙ (says.all ∙ sym (append-nil says.shown)))
