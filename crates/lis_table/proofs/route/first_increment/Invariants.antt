use Rattle.std.proofs.Common.{◌≡◌, filter, drop}
use Rattle.std.specs.List.{find}
use Rattle.lis_words.specs.Words.{has_word}
use Rattle.lis_model.specs.Listing.{is_increment}
use Rattle.lis_table.specs.Routes.{first_of}
use Rattle.lis_table.proofs.route.first_increment.Given as goal

abbrev pub invariant-loop-word : goal.invariant-loop-word
invariant-loop-word l = find (has_word l.file.words) (filter (is_increment l.table l.files) (drop l.word-index l.table.known)) ≡ first_of l.table l.files l.file
