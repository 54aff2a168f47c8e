use Rattle.std.proofs.Common.{◌≡◌, ◌<◌, List, [], ◌∷◌, ℕ, length, map, None, IfSome, refl, sym, subst, arith}
use Rattle.std.proofs.lemmas.Grind.{common_steps}
use Rattle.std.proofs.lemmas.List.{length-map}
use Rattle.std.specs.String.{string_bytes}
use Rattle.lis_shell.specs.Words.{task_of, MakesInRange}
use Rattle.lis_shell.proofs.Forms.{makes_in_range}
use Rattle.lis_shell.proofs.words.task_of.Goals as goal

-- too few words for a task
too_few : (words : List (List ℕ)) → length words < 2 → task_of words ≡ None
too_few [] few = refl
too_few (word ∷ []) few = refl
too_few (word ∷ second ∷ words) few = absurd (omega (arith, few))

pub returns-in_default-clause-task : goal.returns-in_default-clause-task
returns-in_default-clause-task c = sym (too_few (map string_bytes c.args.words.now) (omega (arith, length-map c.args.words.now string_bytes, c.in_default.len_below)))

pub returns-then-not-is_word-clause-task : goal.returns-then-not-is_word-clause-task
returns-then-not-is_word-clause-task c = grind (arith, common_steps)

pub returns-then-not-is_word-clause-range : goal.returns-then-not-is_word-clause-range
returns-then-not-is_word-clause-range c =
    subst (λ task. IfSome task MakesInRange) (sym (returns-then-not-is_word-clause-task c)) (makes_in_range (map string_bytes c.args.words.now))
