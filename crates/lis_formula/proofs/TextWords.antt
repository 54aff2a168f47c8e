-- The words of a formula text that leads to a place, and whether they are known.
use Rattle.std.proofs.Common.{◌≡◌, ℕ, ◌<◌, nat_lt, inl, inr, Bool, true, false, ◌&&◌, Some, List, [], ◌∷◌, length, codes, Err, refl, ap, sym, ◌∙◌}
use Rattle.std.specs.List.{list_all, flat_map}
use Rattle.std.proofs.lemmas.Bool.{le-leb}
use Rattle.std.proofs.lemmas.List.Folds.{list_all-append}
use Rattle.std.proofs.lemmas.Slice.Eq.{bytes_eq-Decides}
use Rattle.lis_words.specs.Words.{same_word, has_word}
use Rattle.lis_grammar.specs.Formula.{Formula}
use Rattle.lis_grammar.specs.Machine.{text_steps}
use Rattle.lis_grammar.specs.Places.{resolved, text_words, path_words, is_place}
use Rattle.lis_grammar.specs.Places.Resolution.{NewPlace, BeyondLimits}
use Rattle.lis_place.specs.declared.node.Node.{Node}
use Rattle.lis_place.specs.Nodes.{nodes_of, node_words}
use Rattle.lis_place.proofs.Trees.{words_of_nodes}
use Rattle.lis_formula.specs.Answers.{Computes}
use Rattle.lis_formula.specs.declared.fault.FormulaFault.{FormulaFault}
use Rattle.lis_formula.specs.declared.fault.FormulaFault.TheVariants.{TooLarge, Syntax}

-- the words that a text names, if it reads
pub path_named : (text : List ℕ) (rooted : Bool) (steps : List Formula) (nodes : List Node) → text_steps text ≡ Some (rooted, steps) → nodes ≡ nodes_of steps
    → flat_map node_words nodes ≡ text_words text
unfolding text_words
path_named text rooted steps nodes reads same = ap (flat_map node_words) same ∙ words_of_nodes steps ∙ sym (ap path_words reads)

none_above : [] ≡ text_words (codes "..")
unfolding text_words text_steps
none_above = refl

above : (text : List ℕ) → same_word text (codes "..") ≡ true → text ≡ codes ".."
above text h = (bytes_eq-Decides text (codes "..")).0 h

-- a text that is no formula within the limits leads to a place only if it is `..`
by_resolution : (place new : List Formula) (text : List ℕ) (up : Bool) → same_word text (codes "..") ≡ up
    → (up ≡ false → resolved place text ≡ BeyondLimits) → resolved place text ≡ NewPlace new → [] ≡ text_words text
by_resolution place new text true is beyond leads = none_above ∙ ap (λ t. text_words t) (sym (above text is))
by_resolution place new text false is beyond leads = absurd (cc (sym (beyond refl) ∙ leads))

pub long_beyond : (place : List Formula) (text : List ℕ) → same_word text (codes "..") ≡ false → 1024 < length text → resolved place text ≡ BeyondLimits
unfolding resolved
long_beyond place text other long = rw (other, le-leb 1025 (length text) long) refl

pub large_beyond : (place : List Formula) (text : List ℕ) (path : Bool × List Formula) → same_word text (codes "..") ≡ false → text_steps text ≡ Some path
    → is_place path.1 ≡ false → resolved place text ≡ BeyondLimits
unfolding resolved
large_beyond place text path other reads large = by (nat_lt 1024 (length text)) refl
  where
    by : (long : Bool) → nat_lt 1024 (length text) ≡ long → resolved place text ≡ BeyondLimits
    by true h = rw (other, h) refl
    by false h = rw (other, h, reads, large) refl

pub none_named : (place new : List Formula) (text : List ℕ) (fault : FormulaFault) → Computes text (Err fault) → resolved place text ≡ NewPlace new → [] ≡ text_words text
unfolding text_words
none_named place new text (Syntax k) h leads = ap path_words (sym h.0)
none_named place new text TooLarge (inl long) leads =
    by_resolution place new text (same_word text (codes "..")) refl (λ other. long_beyond place text other long) leads
none_named place new text TooLarge (inr h) leads =
    by_resolution place new text (same_word text (codes "..")) refl (λ other. large_beyond place text h.0 other h.1 h.2) leads

-- ---- whether the words are known
all_of_nodes : (p : List ℕ → Bool) (nodes : List Node) → list_all (λ node. list_all p (node_words node)) nodes ≡ list_all p (flat_map node_words nodes)
all_of_nodes p [] = refl
all_of_nodes p (node ∷ nodes) = ap (λ b. list_all p (node_words node) && b) (all_of_nodes p nodes) ∙ sym (list_all-append p (node_words node) (flat_map node_words nodes))

pub words_of_path : (known : List (List ℕ)) (text : List ℕ) (rooted : Bool) (steps : List Formula) (nodes : List Node) (b : Bool)
    → text_steps text ≡ Some (rooted, steps) → nodes ≡ nodes_of steps → b ≡ list_all (λ node. list_all (has_word known) (node_words node)) nodes
    → b ≡ list_all (has_word known) (text_words text)
words_of_path known text rooted steps nodes b reads same is =
    is ∙ all_of_nodes (has_word known) nodes ∙ ap (list_all (has_word known)) (path_named text rooted steps nodes reads same)

pub no_words : (known : List (List ℕ)) (place new : List Formula) (text : List ℕ) (fault : FormulaFault) → Computes text (Err fault)
    → resolved place text ≡ NewPlace new → true ≡ list_all (has_word known) (text_words text)
no_words known place new text fault h leads = ap (list_all (has_word known)) (none_named place new text fault h leads)
