-- The route to a file over the files that are left at each step.
use Rattle.std.specs.Prelude.{ℕ, zero, suc, if◌then◌else◌, Option, List, [], filter}
use Rattle.std.specs.List.{find}
use Rattle.lis_words.specs.Words.{has_word}
use Rattle.lis_model.specs.Tests.{step_of}
use Rattle.lis_model.specs.Table.{Table, Entry}
use Rattle.lis_model.specs.Listing.{holds, is_increment, is_local}
use Rattle.lis_model.specs.Route.{word_then}

-- the first increment that the file has
abbrev pub first_of : Table → List Entry → Entry → Option (List ℕ)
first_of t files file = find (has_word file.words) (filter (is_increment t files) t.known)

-- the first n words of the route to a file
abbrev pub route_from : ℕ → Table → List Entry → Entry → List (List ℕ)
route_from zero t files file = []
route_from (suc n) t files file =
    if is_local files file then []
    else word_then (first_of t files file) (λ p. route_from n t (filter (holds (step_of p)) files) file)
