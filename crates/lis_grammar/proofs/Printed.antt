-- A printed place reads back to its steps.
use Rattle.std.proofs.Common.{◌≡◌, ℕ, ◌+◌, ◌-◌, ◌*◌, ◌<◌, ◌^◌, true, ◌&&◌, List, [], ◌∷◌, ◌++◌, length, sym, subst, arith, rules, append_assoc, append-nil, codes, nat_lt, nat_le}
use Rattle.std.specs.Char.{is_ascii_digit}
use Rattle.std.specs.List.{list_all, fold}
use Rattle.std.specs.Fmt.{decimal}
use Rattle.std.proofs.lemmas.Bool.{le-leb, lt-ltb, and_from}
use Rattle.std.proofs.lemmas.Str.Parse.{IsNumeralModel, numerals_by_fold}
use Rattle.std.proofs.lemmas.Fmt.{digits_decimal, digits_value-decimal, decimal_nonempty, length-decimal-le}
use Rattle.lis_words.specs.Words.{is_count, count_of}
use Rattle.lis_grammar.specs.Formula.{Formula}
use Rattle.lis_grammar.specs.Formula.Formula.{Has, SizeAtLeast, SizeBelow, Negation, Both, Either}
use Rattle.lis_grammar.specs.Grammar.{Path, Neg, Reads}
use Rattle.lis_grammar.specs.Grammar.Path.{alt, slash}
use Rattle.lis_grammar.specs.Grammar.Alt.{neg, bar}
use Rattle.lis_grammar.specs.Grammar.Neg.{bang, parens, word, at_least, below}
use Rattle.lis_grammar.specs.Grammar.Reads.{root, from_root}
use Rattle.lis_grammar.specs.Printing.{printed_tree, printed_behind, printed, printed_rooted}
use Rattle.lis_grammar.specs.Places.{IsFit, AreFit}

-- the digits of a count are std's digits, and spell the number that std gives them
pub numerals : IsNumeralModel (λ ds. list_all is_ascii_digit ds ≡ true) count_of
numerals = numerals_by_fold _ (search rules) (fold (λ n digit. 10 * n + (digit - 48))) (search (rules, arith))

pub decimal_count : (n : ℕ) → n < 10 ^ 12 → is_count (decimal n) ≡ true
decimal_count n small =
    let some : nat_lt 0 (length (decimal n)) ≡ true = lt-ltb _ _ (decimal_nonempty n (omega arith)) in
    let short : nat_le (length (decimal n)) 12 ≡ true = le-leb _ _ (length-decimal-le 12 n (omega arith) small (omega arith)) in
    and_from (nat_lt 0 (length (decimal n)) && nat_le (length (decimal n)) 12) _ (and_from _ _ some short) (digits_decimal numerals n (omega arith))

pub decimal_value : (n : ℕ) → n < 10 ^ 12 → count_of (decimal n) ≡ n
decimal_value n small = digits_value-decimal numerals n (omega arith)

at_least_reads : (n : ℕ) → n < 10 ^ 12 → Neg (codes "size>=" ++ decimal n) (SizeAtLeast n)
at_least_reads n small = subst (λ m. Neg (codes "size>=" ++ decimal n) (SizeAtLeast m)) (decimal_value n small) (at_least (decimal n) (decimal_count n small))

below_reads : (n : ℕ) → n < 10 ^ 12 → Neg (codes "size<" ++ decimal n) (SizeBelow n)
below_reads n small = subst (λ m. Neg (codes "size<" ++ decimal n) (SizeBelow m)) (decimal_value n small) (below (decimal n) (decimal_count n small))

pub tree_reads : (f : Formula) → IsFit f → Neg (printed_tree f) f
tree_reads (Has w) fit = word w fit
tree_reads (SizeAtLeast n) fit = at_least_reads n fit
tree_reads (SizeBelow n) fit = below_reads n fit
tree_reads (Negation f) fit = bang (printed_tree f) f (tree_reads f fit)
tree_reads (Both f g) fit =
    let left = alt (printed_tree f) f (neg (printed_tree f) f (tree_reads f fit.0)) in
    let right = neg (printed_tree g) g (tree_reads g fit.1) in
    parens (printed_tree f ++ 47 ∷ printed_tree g) (f ∷ g ∷ []) (slash (printed_tree f) (printed_tree g) (f ∷ []) g left right)
tree_reads (Either f g) fit =
    let left = neg (printed_tree f) f (tree_reads f fit.0) in
    let joined = bar (printed_tree f) (printed_tree g) f g left (tree_reads g fit.1) in
    parens (printed_tree f ++ 124 ∷ printed_tree g) (Either f g ∷ []) (alt (printed_tree f ++ 124 ∷ printed_tree g) (Either f g) joined)

path_behind : (text : List ℕ) (fs more : List Formula) → Path text fs → AreFit more → Path (text ++ printed_behind more) (fs ++ more)
path_behind text fs [] p fit = rw (append-nil text, append-nil fs) p
path_behind text fs (g ∷ more) p fit =
    let right = neg (printed_tree g) g (tree_reads g fit.0) in
    let longer = path_behind (text ++ 47 ∷ printed_tree g) (fs ++ g ∷ []) more (slash text (printed_tree g) fs g p right) fit.1 in
    rw (sym (append_assoc text (47 ∷ printed_tree g) (printed_behind more)), sym (append_assoc fs (g ∷ []) more)) longer

pub path_printed : (step : Formula) (steps : List Formula) → AreFit (step ∷ steps) → Path (printed (step ∷ steps)) (step ∷ steps)
unfolding printed
path_printed step steps fit =
    path_behind (printed_tree step) (step ∷ []) steps (alt (printed_tree step) step (neg (printed_tree step) step (tree_reads step fit.0))) fit.1

-- `/` and the printed place, or `/` alone for the root, reads as a rooted path with the same steps
pub printed_reads : (steps : List Formula) → AreFit steps → Reads (printed_rooted steps) true steps
printed_reads [] fit = root
printed_reads (step ∷ steps) fit = from_root (printed (step ∷ steps)) (step ∷ steps) (path_printed step steps fit)
