-- The laws at small states: a listing and a route, what steps touch, states that are well formed, and axioms in a cycle, for which the laws
-- fail.
use Rattle.std.proofs.Common.{◌≡◌, ℕ, true, false, List, [], ◌∷◌, codes, refl, arith}
use Rattle.lis_grammar.specs.Formula.Formula.{Has, SizeAtLeast}
use Rattle.lis_model.specs.declared.limits.Limits.{Limits}
use Rattle.lis_model.specs.declared.command.Command.{Command}
use Rattle.lis_model.specs.declared.command.Command.TheVariants.{Mkdir, Rmdir, Axiom, Unaxiom, Rm}
use Rattle.lis_model.specs.State.{State, File, WellFormed, is_acyclic, description}
use Rattle.lis_model.specs.Table.{table, entry_of}
use Rattle.lis_model.specs.Listing.{increments, locals}
use Rattle.lis_model.specs.Route.{route}
use Rattle.lis_model.specs.Step.{no_payload, step}
use Rattle.lis_model.specs.Step.Item.{Do}
use Rattle.lis_laws.specs.Steps.{is_payload}
use Rattle.lis_laws.specs.Touching.{TouchedWords, no_words, both_kinds, touched}
use Rattle.lis_laws.proofs.Chains.{acyclic_decides}

abbrev small : Limits
small = record { files = 64; props = 64; blocks = 8; version = 1 }

abbrev file : List ℕ → List (List ℕ) → File
file name assigned = record { name = name; bytes = []; assigned = assigned }

-- ---- a state that is well formed
-- rock and jazz entail music, and large files are marked
abbrev tree : State
tree = record {
  limits = small;
  declared = codes "jazz" ∷ codes "marked" ∷ codes "music" ∷ codes "rock" ∷ [];
  axioms = (codes "jazz", codes "music") ∷ (codes "rock", codes "music") ∷ (codes "size:large", codes "marked") ∷ [];
  files = file (codes "n1") [] ∷ file (codes "s1") (codes "rock" ∷ []) ∷ file (codes "s2") (codes "jazz" ∷ []) ∷ [];
}

tree_formed : WellFormed tree
tree_formed = record {
  limits = refl;
  declared_set = refl;
  axiom_set = refl;
  file_set = refl;
  declared = refl;
  axioms = record { rights = refl; lefts = refl; acyclic = (acyclic_decides tree.declared tree.axioms).0 refl };
  files = record { names = refl; assigned_sets = refl; assigned = refl; few_assigned = refl; few_words = refl; short = refl };
  few_files = omega arith;
  few_known = omega arith;
  few_axioms = omega arith;
  few_blocks = omega arith;
}

-- ---- its listings, and a route
s1_has : description tree (file (codes "s1") (codes "rock" ∷ [])) ≡ codes "music" ∷ codes "rock" ∷ codes "size:" ∷ codes "size:empty" ∷ []
s1_has = refl

tree_shows : increments (table tree) [] ≡ codes "music" ∷ []
tree_shows = refl

tree_keeps : locals (table tree) [] ≡ entry_of tree.declared tree.axioms (file (codes "n1") []) ∷ []
tree_keeps = refl

music_shows : increments (table tree) (Has (codes "music") ∷ []) ≡ codes "jazz" ∷ codes "rock" ∷ []
music_shows = refl

music_keeps : locals (table tree) (Has (codes "music") ∷ []) ≡ []
music_keeps = refl

s1_route : route (table tree) [] (entry_of tree.declared tree.axioms (file (codes "s1") (codes "rock" ∷ []))) ≡ codes "music" ∷ codes "rock" ∷ []
s1_route = refl

n1_route : route (table tree) [] (entry_of tree.declared tree.axioms (file (codes "n1") [])) ≡ []
n1_route = refl

-- ---- what steps touch
abbrev asked : Command → TouchedWords
asked command = touched (record { state = tree; place = [] }) (Do command no_payload)

rock_becomes_jazz : asked (Axiom (codes "rock") (codes "jazz")) ≡ record { changed = codes "jazz" ∷ codes "music" ∷ []; learned = codes "rock" ∷ [] }
unfolding step
rock_becomes_jazz = refl

-- no file is large
large_becomes_rock : asked (Axiom (codes "size:large") (codes "rock")) ≡ record { changed = []; learned = codes "size:large" ∷ codes "size:" ∷ [] }
unfolding step
large_becomes_rock = refl

jazz_no_music : asked (Unaxiom (codes "jazz") (codes "music")) ≡ record { changed = codes "music" ∷ []; learned = codes "jazz" ∷ [] }
unfolding step
jazz_no_music = refl

loud_is_new : asked (Mkdir (codes "loud")) ≡ record { changed = []; learned = codes "loud" ∷ [] }
unfolding step
loud_is_new = refl

-- all files are empty
small_is_new : asked (Mkdir (codes "size<9")) ≡ both_kinds (codes "size<9" ∷ [])
unfolding step
small_is_new = refl

s1_goes : asked (Rm (codes "s1")) ≡ both_kinds (codes "music" ∷ codes "rock" ∷ codes "size:" ∷ codes "size:empty" ∷ [])
unfolding step
s1_goes = refl

-- the word is in use, so the command is refused
rock_stays : asked (Rmdir (codes "rock")) ≡ no_words
unfolding step
rock_stays = refl

-- ---- declared tests: the stronger one entails the weaker one, and the way to a file leads through its size and a test
abbrev sized : List ℕ → List ℕ → File
sized name bytes = record { name = name; bytes = bytes; assigned = [] }

abbrev tested : State
tested = record {
  limits = small;
  declared = codes "big" ∷ codes "size<3" ∷ codes "size>=2" ∷ codes "size>=4" ∷ [];
  axioms = (codes "size>=4", codes "big") ∷ [];
  files = sized (codes "a") [] ∷ sized (codes "b") (codes "xx") ∷ sized (codes "c") (codes "xxxx") ∷ [];
}

tested_formed : WellFormed tested
tested_formed = record {
  limits = refl;
  declared_set = refl;
  axiom_set = refl;
  file_set = refl;
  declared = refl;
  axioms = record { rights = refl; lefts = refl; acyclic = (acyclic_decides tested.declared tested.axioms).0 refl };
  files = record { names = refl; assigned_sets = refl; assigned = refl; few_assigned = refl; few_words = refl; short = refl };
  few_files = omega arith;
  few_known = omega arith;
  few_axioms = omega arith;
  few_blocks = omega arith;
}

c_has : description tested (sized (codes "c") (codes "xxxx")) ≡ codes "big" ∷ codes "size:" ∷ codes "size:small" ∷ codes "size>=2" ∷ codes "size>=4" ∷ []
c_has = refl

tested_shows : increments (table tested) [] ≡ codes "big" ∷ codes "size:empty" ∷ codes "size:small" ∷ codes "size<3" ∷ codes "size>=2" ∷ []
tested_shows = refl

at_least_2_shows : increments (table tested) (SizeAtLeast 2 ∷ []) ≡ codes "big" ∷ codes "size<3" ∷ []
at_least_2_shows = refl

b_route : route (table tested) [] (entry_of tested.declared tested.axioms (sized (codes "b") (codes "xx"))) ≡ codes "size:small" ∷ codes "size<3" ∷ []
b_route = refl

-- ---- axioms in a cycle: each of the two words hides the other, and no increment covers x
abbrev circle : State
circle = record {
  limits = small;
  declared = codes "a" ∷ codes "b" ∷ [];
  axioms = (codes "a", codes "b") ∷ (codes "b", codes "a") ∷ [];
  files = file (codes "x") (codes "a" ∷ []) ∷ file (codes "y") [] ∷ [];
}

circle_has_circle : is_acyclic circle.declared circle.axioms ≡ false
circle_has_circle = refl

circle_shows : increments (table circle) [] ≡ []
circle_shows = refl

circle_keeps : locals (table circle) [] ≡ entry_of circle.declared circle.axioms (file (codes "y") []) ∷ []
circle_keeps = refl

-- ---- payloads: of one that is too large for a file only the size is kept
whole_payload : is_payload (record { size = 3; bytes = codes "abc" }) ≡ true
whole_payload = refl

large_payload : is_payload (record { size = 67108865; bytes = [] }) ≡ true
large_payload = refl

short_payload : is_payload (record { size = 3; bytes = codes "ab" }) ≡ false
short_payload = refl
