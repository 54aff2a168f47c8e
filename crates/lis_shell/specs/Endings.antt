-- Exit codes and texts.
use Rattle.std.specs.Prelude.{ℕ, List, [], codes}
use Rattle.lis_line.specs.declared.carrier.Halt.TheVariants.{End as AtEnd, Limit, InputFault, Stopped}
use Rattle.lis_open.specs.declared.mounting.OpenFault.TheVariants.{TooShort, Damaged, DiskFault as DiskFailed, NoMemory}
use Rattle.lis_session.specs.declared.end.End.TheVariants.{DiskFault, OutputFault}
use Rattle.lis_shell.specs.declared.status.Status.{Status}
use Rattle.lis_shell.specs.declared.status.Status.TheVariants.{Usage, Opening, Ended}

abbrev pub exit_code_of : Status → ℕ
exit_code_of (Ended AtEnd) = 0
exit_code_of Usage = 1
exit_code_of (Opening (Damaged spot)) = 2
exit_code_of (Opening (TooShort len need)) = 2
exit_code_of (Opening DiskFailed) = 3
exit_code_of (Ended (Stopped DiskFault)) = 3
exit_code_of (Ended InputFault) = 4
exit_code_of (Ended (Stopped OutputFault)) = 5
exit_code_of (Opening NoMemory) = 6
exit_code_of (Ended Limit) = 7

abbrev pub status_text_of : Status → List ℕ
status_text_of (Ended AtEnd) = []
status_text_of Usage = codes "lisfs: usage"
status_text_of (Opening (Damaged spot)) = codes "lisfs: not an image"
status_text_of (Opening (TooShort len need)) = codes "lisfs: image too short"
status_text_of (Opening DiskFailed) = codes "lisfs: disk fault"
status_text_of (Ended (Stopped DiskFault)) = codes "lisfs: disk fault"
status_text_of (Ended InputFault) = codes "lisfs: input fault"
status_text_of (Ended (Stopped OutputFault)) = codes "lisfs: output fault"
status_text_of (Opening NoMemory) = codes "lisfs: out of memory"
status_text_of (Ended Limit) = codes "lisfs: input too long"
