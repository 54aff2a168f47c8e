use Rattle.std.proofs.Common.{◌≡◌, ℕ, ◌+◌, ◌<◌, zero, suc, Bool, false, ◌||◌, List, [], ◌∷◌, length, drop, get_or, sym, ap, refl, ◌∙◌, arith}
use Rattle.std.specs.List.{list_any}
use Rattle.lis_words.specs.Words.{has_word}
use Rattle.lis_model.specs.State.{State, File, description}
use Rattle.lis_plain.proofs.room.is_described.Goals as goal

-- an element that fails the test is skipped
passed_over : {X : Type 0} (p : X → Bool) (xs : List X) (i j : ℕ) (d : X) → j ≡ suc i → i < length xs → p (get_or xs i d) ≡ false
    → list_any p (drop j xs) ≡ list_any p (drop i xs)
passed_over p [] i j d next within fails = absurd (omega (arith, within))
passed_over p (x ∷ xs) zero j d next within fails = rw next (sym (ap (λ b. b || list_any p xs) fails))
passed_over p (x ∷ xs) (suc i) j d next within fails = rw next (passed_over p xs i (suc i) d refl (omega (arith, within)) fails)

pub loop-file-preserved : goal.loop-file-preserved
loop-file-preserved c =
    let s = c.args.state.now in
    let i = c.loop-file.file-index in
    let item = c.file-item.result in
    let files : c.deref-file-items.result.now ≡ s.files = c.deref-file-items.ensures.value ∙ ap (λ (t : State). t.files) c.state.view_is in
    let same : item ≡ get_or s.files i item = c.file-item.is ∙ ap (λ xs. get_or xs i item) files in
    let fails : has_word (description s item) c.args.word.now ≡ false = sym c.in_ok-has.ensures ∙ c.if-has.false in
    passed_over (λ (file : File). has_word (description s file) c.args.word.now) s.files i (i + 1) item (omega arith) (omega (arith, c.loop-file-test.true, ap length files))
    (ap (λ file. has_word (description s file) c.args.word.now) (sym same) ∙ fails)
    ∙ c.loop-file.invariant
