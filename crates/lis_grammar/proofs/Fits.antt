-- The words of a formula that reads are words, and its numbers have at most 12 digits.
use Rattle.std.proofs.Common.{◌≡◌, ℕ, ◌<◌, ◌^◌, ◌&&◌, Bool, true, List, [], ◌∷◌, ◌++◌, length, nat_lt, nat_le}
use Rattle.std.specs.Char.{is_ascii_digit}
use Rattle.std.specs.List.{list_all, fold}
use Rattle.std.proofs.lemmas.Bool.{leb-true, and_parts}
use Rattle.std.proofs.lemmas.Str.Parse.{digits_value_short}
use Rattle.lis_words.specs.Words.{is_count, count_of}
use Rattle.lis_grammar.specs.Formula.{Formula}
use Rattle.lis_grammar.specs.Formula.Formula.{Both}
use Rattle.lis_grammar.specs.Grammar.{conjunction, Path, Alt, Neg, Reads}
use Rattle.lis_grammar.specs.Grammar.Path.{alt, slash}
use Rattle.lis_grammar.specs.Grammar.Alt.{neg, bar}
use Rattle.lis_grammar.specs.Grammar.Neg.{bang, parens, word, at_least, below}
use Rattle.lis_grammar.specs.Grammar.Reads.{root, from_here, from_root}
use Rattle.lis_grammar.specs.Places.{IsFit, AreFit}
use Rattle.lis_grammar.proofs.Printed.{numerals}

pub count_below : (digits : List ℕ) → is_count digits ≡ true → count_of digits < 10 ^ 12
count_below digits h =
    let short = nat_le (length digits) 12 in
    let both = and_parts (nat_lt 0 (length digits) && short) (list_all is_ascii_digit digits) h in
    digits_value_short numerals digits 12 both.1 (leb-true _ _ (and_parts (nat_lt 0 (length digits)) short both.0).1)

pub AreFit-append : (fs gs : List Formula) → AreFit fs → AreFit gs → AreFit (fs ++ gs)
AreFit-append [] gs f g = g
AreFit-append (x ∷ fs) gs f g = (f.0, AreFit-append fs gs f.1 g)

pub AreFit-front : (fs gs : List Formula) → AreFit (fs ++ gs) → AreFit fs
AreFit-front [] gs h = tt
AreFit-front (x ∷ fs) gs h = (h.0, AreFit-front fs gs h.1)

fold_fits : (f : Formula) (fs : List Formula) → IsFit f → AreFit fs → IsFit (fold Both f fs)
fold_fits f [] fit all = fit
fold_fits f (g ∷ fs) fit all = fold_fits (Both f g) fs (fit, all.0) all.1

-- a path has a step, so its conjunction is one of steps
conjunction_fits : (text : List ℕ) (fs : List Formula) → Path text fs → AreFit fs → IsFit (conjunction fs)
conjunction_fits _ _ (alt text f a) all = all.0
conjunction_fits _ _ (slash text more fs f p a) all = some fs f all
  where
    some : (fs : List Formula) (f : Formula) → AreFit (fs ++ f ∷ []) → IsFit (conjunction (fs ++ f ∷ []))
    some [] f all = all.0
    some (g ∷ fs) f all = fold_fits g (fs ++ f ∷ []) all.0 all.1

mutual
  neg_fits : (text : List ℕ) (f : Formula) → Neg text f → IsFit f
  neg_fits _ _ (bang text f n) = neg_fits text f n
  neg_fits _ _ (parens text fs p) = conjunction_fits text fs p (path_fits text fs p)
  neg_fits _ _ (word text w) = w
  neg_fits _ _ (at_least digits c) = count_below digits c
  neg_fits _ _ (below digits c) = count_below digits c

  alt_fits : (text : List ℕ) (f : Formula) → Alt text f → IsFit f
  alt_fits _ _ (neg text f n) = neg_fits text f n
  alt_fits _ _ (bar text more f g a n) = (alt_fits text f a, neg_fits more g n)

  path_fits : (text : List ℕ) (fs : List Formula) → Path text fs → AreFit fs
  path_fits _ _ (alt text f a) = (alt_fits text f a, tt)
  path_fits _ _ (slash text more fs f p a) = AreFit-append fs (f ∷ []) (path_fits text fs p) (alt_fits more f a, tt)

pub reads_fit : (text : List ℕ) (rooted : Bool) (fs : List Formula) → Reads text rooted fs → AreFit fs
reads_fit _ _ _ root = tt
reads_fit _ _ _ (from_here text fs p) = path_fits text fs p
reads_fit _ _ _ (from_root text fs p) = path_fits text fs p
