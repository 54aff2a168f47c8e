-- The code of formulas, by which a proof stores them as values: the tree in postfix order, and the stack with which that order is read.
use Rattle.std.specs.Prelude.{◌≡◌, ◌⊎◌, ℕ, Bool, true, false, Option, Some, None, List, [], ◌∷◌, ◌++◌, refl}
use Rattle.std.specs.Coded.{Coded, code_by, coded⊎, coded_ℕ, coded_bool, coded_option, coded_list}
use Rattle.std.proofs.Common.{inl, inr, ap, sym, ◌∙◌, append_assoc, append-nil}
use Rattle.lis_grammar.specs.Formula.{Formula}
use Rattle.lis_grammar.specs.Formula.Formula.{Has, SizeAtLeast, SizeBelow, Negation, Both, Either}

-- a word, or one of the two tests, or negation (None), Both (true), Either (false)
abbrev pub Token : Type 0
Token = (List ℕ ⊎ ℕ) ⊎ (ℕ ⊎ Option Bool)

abbrev pub postfix : Formula → List Token
postfix (Has word) = inl (inl word) ∷ []
postfix (SizeAtLeast n) = inl (inr n) ∷ []
postfix (SizeBelow n) = inr (inl n) ∷ []
postfix (Negation f) = postfix f ++ inr (inr None) ∷ []
postfix (Both f g) = (postfix f ++ postfix g) ++ inr (inr (Some true)) ∷ []
postfix (Either f g) = (postfix f ++ postfix g) ++ inr (inr (Some false)) ∷ []

abbrev pub top : List Formula → Formula
top [] = Has []
top (f ∷ stack) = f

abbrev pub negated : List Formula → List Formula
negated [] = []
negated (f ∷ stack) = Negation f ∷ stack

-- the last two formulas as one; a stack of fewer than two stays
abbrev pub combined : (Formula → Formula → Formula) → List Formula → List Formula
combined join [] = []
combined join (g ∷ []) = g ∷ []
combined join (g ∷ f ∷ stack) = join f g ∷ stack

abbrev pub pushed : Token → List Formula → List Formula
pushed (inl (inl word)) stack = Has word ∷ stack
pushed (inl (inr n)) stack = SizeAtLeast n ∷ stack
pushed (inr (inl n)) stack = SizeBelow n ∷ stack
pushed (inr (inr None)) stack = negated stack
pushed (inr (inr (Some true))) stack = combined Both stack
pushed (inr (inr (Some false))) stack = combined Either stack

abbrev pub read_on : List Formula → List Token → Formula
read_on stack [] = top stack
read_on stack (token ∷ tokens) = read_on (pushed token stack) tokens

pub read_on-postfix : (f : Formula) (stack : List Formula) (tokens : List Token)
    → read_on stack (postfix f ++ tokens) ≡ read_on (f ∷ stack) tokens
read_on-postfix (Has word) stack tokens = refl
read_on-postfix (SizeAtLeast n) stack tokens = refl
read_on-postfix (SizeBelow n) stack tokens = refl
read_on-postfix (Negation f) stack tokens =
    rw (append_assoc (postfix f) (inr (inr None) ∷ []) tokens) (read_on-postfix f stack (inr (inr None) ∷ tokens))
read_on-postfix (Both f g) stack tokens =
    rw (append_assoc (postfix f ++ postfix g) (inr (inr (Some true)) ∷ []) tokens, append_assoc (postfix f) (postfix g) (inr (inr (Some true)) ∷ tokens))
    (read_on-postfix f stack (postfix g ++ inr (inr (Some true)) ∷ tokens) ∙ read_on-postfix g (f ∷ stack) (inr (inr (Some true)) ∷ tokens))
read_on-postfix (Either f g) stack tokens =
    rw (append_assoc (postfix f ++ postfix g) (inr (inr (Some false)) ∷ []) tokens, append_assoc (postfix f) (postfix g) (inr (inr (Some false)) ∷ tokens))
    (read_on-postfix f stack (postfix g ++ inr (inr (Some false)) ∷ tokens) ∙ read_on-postfix g (f ∷ stack) (inr (inr (Some false)) ∷ tokens))

pub read-postfix : (f : Formula) → read_on [] (postfix f) ≡ f
read-postfix f = ap (λ tokens. read_on [] tokens) (sym (append-nil (postfix f))) ∙ read_on-postfix f [] []

abbrev pub formula_code : Coded Formula
formula_code =
    code_by (List Token) (coded_list (coded⊎ (coded⊎ (coded_list coded_ℕ) coded_ℕ) (coded⊎ coded_ℕ (coded_option coded_bool)))) postfix (λ tokens. read_on [] tokens) read-postfix
