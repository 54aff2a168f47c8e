-- The grammar as a machine that reads a text byte by byte. It computes the steps of a text, and at which byte a text breaks off.
use Rattle.std.specs.Prelude.{ℕ, ◌==◌, nat_le, Bool, true, false, ◌&&◌, ◌||◌, if◌then◌else◌, Option, Some, None, List, [], ◌∷◌, ◌++◌, length, codes, suc}
use Rattle.std.specs.Char.{is_ascii_digit}
use Rattle.std.specs.List.{list_all}
use Rattle.std.specs.Option.{option_or}
use Rattle.lis_words.specs.Bytes.{bar_byte}
use Rattle.lis_words.specs.Words.{is_word, is_count, count_of}
use Rattle.lis_grammar.specs.Formula.{Formula}
use Rattle.lis_grammar.specs.Formula.Formula.{Has, SizeAtLeast, SizeBelow, Negation, Both, Either}

-- what waits for an operand: a sign, with its left operand if it has one
pub data Pending : Type 0 where
  Bang : Pending
  Open : Pending
  BarAfter : Formula → Pending
  SlashAfter : Formula → Pending

-- what waits, the last first; the outermost steps before; and the operand that has just ended
pub data Done : Type 0 where
  done : List Pending → List Formula → Formula → Done

-- an operand must begin; the bytes of a word or a test so far; an operand has ended
pub data Machine : Type 0 where
  Wants : List Pending → List Formula → Machine
  Within : List Pending → List Formula → List ℕ → Machine
  Complete : Done → Machine

abbrev pub and_then : {A B : Type 0} → Option A → (A → Option B) → Option B
and_then None next = None
and_then (Some x) next = next x

-- a word or a test

abbrev pub after_sign : List ℕ → List ℕ → Option (List ℕ)
after_sign [] text = Some text
after_sign (c ∷ sign) [] = None
after_sign (c ∷ sign) (b ∷ text) = if b == c then after_sign sign text else None

abbrev pub counted : (ℕ → Formula) → Option (List ℕ) → Option Formula
counted test None = None
counted test (Some digits) = if is_count digits then Some (test (count_of digits)) else None

abbrev pub operand : List ℕ → Option Formula
operand text =
    if is_word text then Some (Has text)
    else option_or (counted SizeAtLeast (after_sign (codes "size>=") text)) (counted SizeBelow (after_sign (codes "size<") text))

-- a prefix of the sign, or the sign and at most 12 digits
abbrev pub is_test_front : List ℕ → List ℕ → Bool
is_test_front [] text = nat_le (length text) 12 && list_all is_ascii_digit text
is_test_front (c ∷ sign) [] = true
is_test_front (c ∷ sign) (b ∷ text) = (b == c) && is_test_front sign text

abbrev pub is_operand_front : List ℕ → Bool
is_operand_front text =
    is_word text || is_test_front (codes "size>=") text || is_test_front (codes "size<") text

-- an operand has ended: first the exclamation marks before it apply

abbrev pub complete : List Pending → List Formula → Formula → Done
complete [] steps f = done [] steps f
complete (Bang ∷ ops) steps f = complete ops steps (Negation f)
complete (Open ∷ ops) steps f = done (Open ∷ ops) steps f
complete (BarAfter g ∷ ops) steps f = done (BarAfter g ∷ ops) steps f
complete (SlashAfter g ∷ ops) steps f = done (SlashAfter g ∷ ops) steps f

abbrev pub completed : List Pending → List Formula → Option Formula → Option Done
completed ops steps None = None
completed ops steps (Some f) = Some (complete ops steps f)

abbrev pub settled : Machine → Option Done
settled (Wants ops steps) = None
settled (Within ops steps text) = completed ops steps (operand text)
settled (Complete d) = Some d

-- then a sign after it applies the pending signs that group before it

abbrev pub close_bar : Done → Done
close_bar (done [] steps f) = done [] steps f
close_bar (done (Bang ∷ ops) steps f) = done (Bang ∷ ops) steps f
close_bar (done (Open ∷ ops) steps f) = done (Open ∷ ops) steps f
close_bar (done (BarAfter g ∷ ops) steps f) = done ops steps (Either g f)
close_bar (done (SlashAfter g ∷ ops) steps f) = done (SlashAfter g ∷ ops) steps f

abbrev pub close_slash : Done → Done
close_slash (done [] steps f) = done [] steps f
close_slash (done (Bang ∷ ops) steps f) = done (Bang ∷ ops) steps f
close_slash (done (Open ∷ ops) steps f) = done (Open ∷ ops) steps f
close_slash (done (BarAfter g ∷ ops) steps f) = done (BarAfter g ∷ ops) steps f
close_slash (done (SlashAfter g ∷ ops) steps f) = done ops steps (Both g f)

abbrev pub after_bar : Done → Machine
after_bar (done ops steps f) = Wants (BarAfter f ∷ ops) steps

-- outside of parentheses a step is complete
abbrev pub after_slash : Done → Machine
after_slash (done [] steps f) = Wants [] (steps ++ f ∷ [])
after_slash (done (op ∷ ops) steps f) = Wants (SlashAfter f ∷ op ∷ ops) steps

abbrev pub after_paren : Done → Option Machine
after_paren (done [] steps f) = None
after_paren (done (Bang ∷ ops) steps f) = None
after_paren (done (Open ∷ ops) steps f) = Some (Complete (complete ops steps f))
after_paren (done (BarAfter g ∷ ops) steps f) = None
after_paren (done (SlashAfter g ∷ ops) steps f) = None

-- a bar, a slash or a closing parenthesis after an operand
abbrev pub joint : ℕ → Done → Option Machine
joint b d =
    if b == bar_byte then Some (after_bar (close_bar d))
    else if b == 47 then Some (after_slash (close_slash (close_bar d)))
    else if b == 41 then after_paren (close_slash (close_bar d))
    else None

abbrev pub is_joint : ℕ → Bool
is_joint b = (b == bar_byte) || (b == 47) || (b == 41)

abbrev pub within : List Pending → List Formula → List ℕ → Option Machine
within ops steps text = if is_operand_front text then Some (Within ops steps text) else None

abbrev pub step : Machine → ℕ → Option Machine
step (Wants ops steps) b =
    if b == 33 then Some (Wants (Bang ∷ ops) steps)
    else if b == 40 then Some (Wants (Open ∷ ops) steps)
    else within ops steps (b ∷ [])
step (Within ops steps text) b =
    if is_joint b then and_then (completed ops steps (operand text)) (joint b)
    else within ops steps (text ++ b ∷ [])
step (Complete d) b = joint b d

abbrev pub run : Machine → List ℕ → Option Machine
run s [] = Some s
run s (b ∷ bytes) = and_then (step s b) (λ t. run t bytes)

-- the end of the text

abbrev pub closed : Machine → Option Done
closed s = and_then (settled s) (λ d. Some (close_slash (close_bar d)))

abbrev pub ended : Done → Option (List Formula)
ended (done [] steps f) = Some (steps ++ f ∷ [])
ended (done (op ∷ ops) steps f) = None

abbrev pub path_steps : List ℕ → Option (List Formula)
path_steps text = and_then (and_then (run (Wants [] []) text) closed) ended

abbrev pub with_root : Bool → Option (List Formula) → Option (Bool × List Formula)
with_root rooted None = None
with_root rooted (Some steps) = Some (rooted, steps)

abbrev pub root_steps : List ℕ → Option (List Formula)
root_steps [] = Some []
root_steps (b ∷ text) = path_steps (b ∷ text)

-- what a formula text reads as: whether it is rooted, and its steps; None if the text is no formula
unfoldable pub text_steps : List ℕ → Option (Bool × List Formula)
text_steps [] = None
text_steps (b ∷ text) =
    if b == 47 then with_root true (root_steps text) else with_root false (path_steps (b ∷ text))

abbrev pub lived_on : Option Machine → (Machine → ℕ) → ℕ
lived_on None more = 0
lived_on (Some s) more = suc (more s)

-- how many bytes the machine takes
abbrev pub lived : Machine → List ℕ → ℕ
lived s [] = 0
lived s (b ∷ bytes) = lived_on (step s b) (λ t. lived t bytes)

-- the length of the longest prefix of the text that is a prefix of some formula text
unfoldable pub broken_at : List ℕ → ℕ
broken_at [] = 0
broken_at (b ∷ text) =
    if b == 47 then suc (lived (Wants [] []) text) else lived (Wants [] []) (b ∷ text)
