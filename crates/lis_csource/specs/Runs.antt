-- Runs of bytes of one kind in a source.
use Rattle.std.specs.Prelude.{ℕ, Bool, List}
use Rattle.lis_transducers.specs.Bytes.{is_name_byte, is_number_byte, is_no_feed, front, past}
use Rattle.lis_transducers.specs.Joined.{joined}
use Rattle.lis_transducers.specs.Pieces.{is_in_path}
use Rattle.lis_csource.specs.declared.runs.Run.{Run}
use Rattle.lis_csource.specs.declared.runs.Run.TheVariants.{Name, Number, Line, Path}

-- the bytes of a run
abbrev pub is_in : Run → ℕ → Bool
is_in Name = is_name_byte
is_in Number = is_number_byte
is_in Line = is_no_feed
is_in (Path close) = is_in_path close

-- the first run, when the lines are joined
abbrev pub run_text : Run → List ℕ → List ℕ
run_text run bytes = front (is_in run) (joined bytes)

-- what follows it
abbrev pub past_run : Run → List ℕ → List ℕ
past_run run bytes = past (is_in run) (joined bytes)
