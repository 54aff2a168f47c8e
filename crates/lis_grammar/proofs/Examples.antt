-- What the definitions say of some texts.
use Rattle.std.specs.Prelude.{◌≡◌, Bool, true, false, Option, Some, None, List, [], ◌∷◌, codes, refl, replicate}
use Rattle.std.specs.Fmt.{digits}
use Rattle.lis_grammar.specs.Formula.{Formula, formula_words}
use Rattle.lis_grammar.specs.Formula.Formula.{Has, SizeAtLeast, SizeBelow, Negation, Both, Either}
use Rattle.lis_grammar.specs.Machine.{text_steps, broken_at}
use Rattle.lis_grammar.specs.Printing.{printed}
use Rattle.lis_grammar.specs.Places.{place_nodes, is_place, resolved, text_words}
use Rattle.lis_grammar.specs.Places.Resolution.{NewPlace, BeyondLimits, Unreadable}

abbrev from_here : List Formula → Option (Bool × List Formula)
from_here steps = Some (false, steps)

abbrev from_root : List Formula → Option (Bool × List Formula)
from_root steps = Some (true, steps)

abbrev a : Formula
a = Has (codes "a")

abbrev b : Formula
b = Has (codes "b")

abbrev c : Formula
c = Has (codes "c")

-- texts that read

bar_binds_tighter : text_steps (codes "a|b/c") ≡ from_here (Either a b ∷ c ∷ [])
unfolding text_steps
bar_binds_tighter = refl

bars_group_to_the_left : text_steps (codes "a|b|c") ≡ from_here (Either (Either a b) c ∷ [])
unfolding text_steps
bars_group_to_the_left = refl

slashes_in_parentheses_are_one_tree : text_steps (codes "(a/b/c)") ≡ from_here (Both (Both a b) c ∷ [])
unfolding text_steps
slashes_in_parentheses_are_one_tree = refl

parentheses_alone_make_no_node : text_steps (codes "((a))") ≡ from_here (a ∷ [])
unfolding text_steps
parentheses_alone_make_no_node = refl

mark_binds_tightest : text_steps (codes "!a|b") ≡ from_here (Either (Negation a) b ∷ [])
unfolding text_steps
mark_binds_tightest = refl

slash_alone : text_steps (codes "/") ≡ from_root []
unfolding text_steps
slash_alone = refl

rooted : text_steps (codes "/!(a/b/c)|size>=007") ≡ from_root (Either (Negation (Both (Both a b) c)) (SizeAtLeast 7) ∷ [])
unfolding text_steps
rooted = refl

size_alone_is_a_word : text_steps (codes "size/size:small/size<12") ≡ from_here (Has (codes "size") ∷ Has (codes "size:small") ∷ SizeBelow 12 ∷ [])
unfolding text_steps
size_alone_is_a_word = refl

-- texts that break off

ends_in_a_slash : broken_at (codes "a/") ≡ 2
unfolding broken_at
ends_in_a_slash = refl

ends_in_parentheses : broken_at (codes "(a") ≡ 2
unfolding broken_at
ends_in_parentheses = refl

second_slash : broken_at (codes "//a") ≡ 1
unfolding broken_at
second_slash = refl

nothing : (text_steps [] ≡ None) × (broken_at [] ≡ 0)
unfolding text_steps broken_at
nothing = (refl, refl)

two_stops : broken_at (codes "..") ≡ 0
unfolding broken_at
two_stops = refl

two_stops_behind_a_slash : (broken_at (codes "/..") ≡ 1) × (broken_at (codes "a/..") ≡ 2) × (broken_at (codes "../a") ≡ 0)
unfolding broken_at
two_stops_behind_a_slash = (refl, refl, refl)

front_of_a_test : (text_steps (codes "size>") ≡ None) × (broken_at (codes "size>") ≡ 5)
unfolding text_steps broken_at
front_of_a_test = (refl, refl)

no_test : (broken_at (codes "xsize>=5") ≡ 5) × (broken_at (codes "(a|size>b") ≡ 8)
unfolding broken_at
no_test = (refl, refl)

thirteen_digits : broken_at (codes "size<0000000000001") ≡ 17
unfolding broken_at
thirteen_digits = refl

blank : broken_at (codes "a |b") ≡ 1
unfolding broken_at
blank = refl

-- printed places

printed_bar : printed (Either a b ∷ c ∷ []) ≡ codes "(a|b)/c"
unfolding printed
printed_bar = refl

printed_tests : printed (Negation (Both (SizeAtLeast 7) (SizeBelow 0)) ∷ []) ≡ codes "!(size>=7/size<0)"
unfolding printed digits
printed_tests = refl

printed_root : printed [] ≡ codes "/"
unfolding printed
printed_root = refl

steps_and_parentheses : (place_nodes (a ∷ b ∷ []) ≡ 3) × (place_nodes (Both a b ∷ []) ≡ 3)
steps_and_parentheses = (refl, refl)

words_in_order : formula_words (Either (Negation (Both c a)) b) ≡ codes "c" ∷ codes "a" ∷ codes "b" ∷ []
words_in_order = refl

words_of_a_text : (text_words (codes "c|a/size>=3/b:2") ≡ codes "c" ∷ codes "a" ∷ codes "b:2" ∷ []) × (text_words (codes "..") ≡ [])
unfolding text_words text_steps
words_of_a_text = (refl, refl)

-- what a text makes of a place

one_step_up : (resolved (a ∷ Either b c ∷ []) (codes "..") ≡ NewPlace (a ∷ [])) × (resolved [] (codes "..") ≡ NewPlace [])
unfolding resolved
one_step_up = (refl, refl)

appended_steps : resolved (a ∷ []) (codes "b/c") ≡ NewPlace (a ∷ b ∷ c ∷ [])
unfolding resolved text_steps is_place printed
appended_steps = refl

rooted_steps : resolved (a ∷ []) (codes "/b") ≡ NewPlace (b ∷ [])
unfolding resolved text_steps is_place printed
rooted_steps = refl

no_formula : resolved (a ∷ []) (codes "b//c") ≡ Unreadable
unfolding resolved text_steps
no_formula = refl

-- a broken text that is too long is too long
long_text : resolved [] (replicate 1025 47) ≡ BeyondLimits
unfolding resolved text_steps
long_text = refl

-- 33 words and the 32 joints between them are 65 nodes
long_place : resolved (replicate 32 a) (codes "b") ≡ BeyondLimits
unfolding resolved text_steps is_place printed
long_place = refl
