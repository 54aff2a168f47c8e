-- What each change does to a situation.
use Rattle.std.specs.Prelude.{◌≡◌, ◌≤◌, length, IsTrue, ⊤}
use Rattle.lis_ports.specs.Meaning.{Meaning}
use Rattle.lis_ports.specs.Calls.{IsUnchanged}
use Rattle.lis_model.specs.declared.limits.Limits.{Limits}
use Rattle.lis_model.specs.State.{file_limit}
use Rattle.lis_model.specs.Step.{Situation, Outcome, mkdir, rmdir, add_axiom, unaxiom, add, write, rm, mv, rename}
use Rattle.lis_store.specs.declared.write.Write.{Write}
use Rattle.lis_store.specs.declared.write.Write.TheVariants.{Declare, Undeclare, Axiom, Unaxiom, Add, Write as WriteBytes, Remove, Retag, Rename}

-- the new situation, and the reply
abbrev pub written : Situation → Write → Outcome
written now (Declare word) = mkdir now word.now
written now (Undeclare word) = rmdir now word.now
written now (Axiom left right) = add_axiom now (left.now, right.now)
written now (Unaxiom left right) = unaxiom now (left.now, right.now)
written now (Add file) = add now file.name.now file.tags.now (record { size = file.size; bytes = file.bytes.now })
written now (WriteBytes name bytes size) = write now name.now (record { size = size; bytes = bytes.now })
written now (Remove name) = rm now name.now
written now (Retag name text) = mv now name.now text.now
written now (Rename name other) = rename now name.now other.now

-- There are as many bytes as the size says, if a file may have this many.
abbrev pub IsWhole : Limits → Write → Type 0
IsWhole limits (Add file) = file.size ≤ file_limit limits → length file.bytes.now ≡ file.size
IsWhole limits (WriteBytes name bytes size) = size ≤ file_limit limits → length bytes.now ≡ size
IsWhole limits write = ⊤

-- What a refusal leaves of a disk: it makes no disk call, except for `rename`, which reads bytes first.
abbrev pub LeavesUntouched : {D : Type 0} → (D → Meaning) → Write → D → D → Type 0
LeavesUntouched meaning (Rename name other) old new = IsTrue (meaning old).is_honest → IsUnchanged (meaning old) (meaning new)
LeavesUntouched meaning write old new = new ≡ old
