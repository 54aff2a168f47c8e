-- The route that a scratch has.
use Rattle.std.specs.Prelude.{ℕ, ◌≤◌, List, length, take, drop}
use Rattle.lis_eval.specs.declared.scratch.Scratch.{Scratch}
use Rattle.lis_eval.specs.View.{Seen}
use Rattle.lis_incr.specs.Ways.{AreKnown, words_of}

-- the words of the route from a step on
abbrev pub words_left : Seen → Scratch → ℕ → List (List ℕ)
words_left v s step = words_of v (drop step (take s.steps s.route.items))

-- the indexes of a route are those of words
pub record HasRoute (v : Seen) (s : Scratch) : Type 0 where
  pub within : s.steps ≤ length s.route.items
  pub known : AreKnown v (take s.steps s.route.items)
