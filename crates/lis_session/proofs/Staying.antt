-- The place of a session stays, unless a command leads to another one.
use Rattle.std.proofs.Common.{◌≡◌, ℕ, Bool, true, false, cond, List, [], ◌∷◌, refl}
use Rattle.std.specs.List.{flat_map}
use Rattle.lis_model.specs.declared.refusal.Refusal.{Refusal}
use Rattle.lis_model.specs.declared.command.Command.{Command}
use Rattle.lis_model.specs.declared.command.Command.TheVariants.{Mkdir, Rmdir, Axiom, Unaxiom, Create, Add, Write, Cat, Mv, Rename, Rm, Cd, Pwd, Ls, Props, Way, Stat}
use Rattle.lis_model.specs.State.{description}
use Rattle.lis_model.specs.Table.{table}
use Rattle.lis_model.specs.Route.{route}
use Rattle.lis_model.specs.Replies.{body_line, content_lines}
use Rattle.lis_model.specs.Changes.{new_file, file_added, file_of}
use Rattle.lis_model.specs.Step.{Situation, Outcome, Payload, refused, changed, shown, judged, assigned_at, create_checks, here_checks, shown_here, entry_at, done}
use Rattle.lis_session.specs.Parts.{is_change}
use Rattle.lis_laws.proofs.Regular.{judged_stays, mkdir_stays, rmdir_stays, axiom_stays, unaxiom_stays, add_stays, write_stays, rename_stays, mv_stays, rm_stays}

abbrev pub moves : Command → Bool
moves (Cd text) = true
moves command = false

here_stays : (now : Situation) (name body : List ℕ) → (shown_here now name body).next.place ≡ now.place
here_stays now name body = judged_stays now (here_checks now name) (shown now body) refl

pub done_stays : (now : Situation) (command : Command) (payload : Payload) → moves command ≡ false → (done now command payload).next.place ≡ now.place
done_stays now (Mkdir word) payload is = mkdir_stays now word
done_stays now (Rmdir word) payload is = rmdir_stays now word
done_stays now (Axiom left right) payload is = axiom_stays now (left, right)
done_stays now (Unaxiom left right) payload is = unaxiom_stays now (left, right)
done_stays now (Create name words) payload is =
    let file = new_file name (assigned_at now.place words) [] in
    judged_stays now (create_checks now words file (file_added now.state file)) (changed now (file_added now.state file)) refl
done_stays now (Add name words) payload is = add_stays now name words payload
done_stays now (Write name) payload is = write_stays now name payload
done_stays now (Cat name) payload is = here_stays now name (content_lines (file_of now.state.files name).bytes)
done_stays now (Mv name text) payload is = mv_stays now name text
done_stays now (Rename name other) payload is = rename_stays now name other
done_stays now (Rm name) payload is = rm_stays now name
done_stays now (Cd text) payload is = absurd (cc is)
done_stays now Pwd payload is = refl
done_stays now Ls payload is = refl
done_stays now (Props name) payload is = here_stays now name (flat_map (body_line 112) (description now.state (file_of now.state.files name)))
done_stays now (Way name) payload is = here_stays now name (flat_map (body_line 100) (route (table now.state) now.place (entry_at now.state name)))
done_stays now Stat payload is = refl

-- A change keeps the place.
still : (command : Command) → is_change command ≡ true → moves command ≡ false
still (Cd text) is = absurd (cc is)
still command is = refl

pub change_stays : (now : Situation) (command : Command) (payload : Payload) → is_change command ≡ true → (done now command payload).next.place ≡ now.place
change_stays now command payload is = done_stays now command payload (still command is)
