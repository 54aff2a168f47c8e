-- The grammar of formulas, one constructor for each of its alternatives:
--
--   formula = "/" | path | "/" path
--   path    = alt , { "/" , alt }
--   alt     = neg , { "|" , neg }
--   neg     = "!" , neg | "(" , path , ")" | word | "size>=" count | "size<" count
--
-- "|" and "/" group to the left. A formula has no blanks.
use Rattle.std.specs.Prelude.{ℕ, ◌≤◌, Bool, true, false, List, [], ◌∷◌, ◌++◌, length, take, codes, IsTrue}
use Rattle.std.specs.List.{fold}
use Rattle.lis_words.specs.Bytes.{bar_byte}
use Rattle.lis_words.specs.Words.{is_word, is_count, count_of}
use Rattle.lis_grammar.specs.Formula.{Formula}
use Rattle.lis_grammar.specs.Formula.Formula.{Has, SizeAtLeast, SizeBelow, Negation, Both, Either}

-- the steps of a path as one tree, which is what a path in parentheses reads as
abbrev pub conjunction : List Formula → Formula
conjunction [] = Has []
conjunction (step ∷ steps) = fold Both step steps

mutual
  -- a path and its steps, one for each `alt`
  pub data Path : List ℕ → List Formula → Type 0 where
    alt : (text : List ℕ) (f : Formula) → Alt text f → Path text (f ∷ [])
    slash : (text more : List ℕ) (steps : List Formula) (f : Formula) → Path text steps → Alt more f → Path (text ++ 47 ∷ more) (steps ++ f ∷ [])

  pub data Alt : List ℕ → Formula → Type 0 where
    neg : (text : List ℕ) (f : Formula) → Neg text f → Alt text f
    bar : (text more : List ℕ) (f g : Formula) → Alt text f → Neg more g → Alt (text ++ bar_byte ∷ more) (Either f g)

  pub data Neg : List ℕ → Formula → Type 0 where
    bang : (text : List ℕ) (f : Formula) → Neg text f → Neg (33 ∷ text) (Negation f)
    parens : (text : List ℕ) (steps : List Formula) → Path text steps → Neg (40 ∷ text ++ 41 ∷ []) (conjunction steps)
    word : (text : List ℕ) → IsTrue (is_word text) → Neg text (Has text)
    at_least : (digits : List ℕ) → IsTrue (is_count digits) → Neg (codes "size>=" ++ digits) (SizeAtLeast (count_of digits))
    below : (digits : List ℕ) → IsTrue (is_count digits) → Neg (codes "size<" ++ digits) (SizeBelow (count_of digits))

-- a formula text, whether it is rooted, and its steps
pub data Reads : List ℕ → Bool → List Formula → Type 0 where
  root : Reads (47 ∷ []) true []
  from_here : (text : List ℕ) (steps : List Formula) → Path text steps → Reads text false steps
  from_root : (text : List ℕ) (steps : List Formula) → Path text steps → Reads (47 ∷ text) true steps

-- a prefix of some formula text, of whatever length that text is
abbrev pub IsFront : List ℕ → Type 0
IsFront text = (rest : List ℕ) × (rooted : Bool) × (steps : List Formula) × Reads (text ++ rest) rooted steps

-- k is the length of the longest prefix of the text that is a prefix of some formula text
pub record IsBrokenAt (text : List ℕ) (k : ℕ) : Type 0 where
  pub inside : k ≤ length text
  pub front : IsFront (take k text)
  pub longest : (j : ℕ) → j ≤ length text → IsFront (take j text) → j ≤ k
