-- Rooms worked out by the definitions alone.
use Rattle.std.proofs.Common.{◌≡◌, ℕ, Some, None, List, [], ◌∷◌, ◌++◌, codes, refl, lit<}
use Rattle.std.specs.Fmt.{digits}
use Rattle.lis_grammar.specs.Machine.{text_steps}
use Rattle.lis_grammar.specs.Printing.{printed}
use Rattle.lis_grammar.specs.Places.{is_place, resolved, text_words}
use Rattle.lis_model.specs.declared.command.Command.{Command}
use Rattle.lis_model.specs.declared.command.Command.TheVariants.{Mkdir, Create, Cat, Cd, Pwd, Ls}
use Rattle.lis_model.specs.State.{empty_state}
use Rattle.lis_model.specs.Replies.{line}
use Rattle.lis_model.specs.Script.{bad_line}
use Rattle.lis_model.specs.Step.{SituationOf, step, no_payload, replies_by}
use Rattle.lis_model.specs.Step.Item.{Do}
use Rattle.lis_line.specs.Tagged.{Tagged, all_tagged, whole_tagged, room_script}
use Rattle.lis_rooms.specs.Rooms.{Places, rooms_of, room_step}
use Rattle.lis_rooms.specs.Sights.{seen, heard}
use Rattle.lis_rooms.specs.Laws.{HearsTheSame}
use Rattle.lis_rooms.proofs.Follows.{hears_the_same}

abbrev start : SituationOf Places
start = rooms_of (empty_state (record { files = 64; props = 64; blocks = 8; version = 1 }))

abbrev by : ℕ → Command → Tagged
by room command = record { room = Some room; item = Do command no_payload }

abbrev untagged : Tagged
untagged = record { room = None; item = bad_line }

-- what is shown of an input
abbrev shown : List ℕ → List ℕ
shown bytes = replies_by room_step start (room_script bytes 1000)

-- ---- one state for all, and a place for each
two_rooms : shown (codes "@0 mkdir a\n@0 cd a\n@1 create x\n@0 create y\n@1 pwd\n@0 ls\n@1 ls\nls\n")
    ≡ codes "ok\n@0\nok\n@0\nok\n@1\nok\n@0\nw /\nok\n@1\nf y\nok\n@0\nd a\nf x\nok\n@1\nno 01 bad line\n@-\n"
unfolding all_tagged whole_tagged step digits resolved text_words text_steps printed is_place
two_rooms = refl

payload_and_bad_lines : shown (codes "@7 add f 2\nhi\n@7 cat f\n@8 ls\n@3\n") ≡ codes "ok\n@7\nb 2\nhi\nok\n@7\nno 01 bad line\n@-\nno 01 bad line\n@3\n"
unfolding all_tagged whole_tagged step digits
payload_and_bad_lines = refl

-- ---- two lists that look alike to a room
-- In the first list a file is made at the place of room 1, and in the second at the root by room 2, among queries, refusals and a line
-- without a tag.
abbrev one : List Tagged
one = by 0 (Mkdir (codes "a")) ∷ by 1 (Cd (codes "a")) ∷ by 1 (Create (codes "x") []) ∷ by 0 Ls ∷ by 0 (Cat (codes "x")) ∷ []

abbrev other : List Tagged
other =
    untagged ∷ by 0 (Mkdir (codes "a")) ∷ by 2 Ls ∷ by 2 (Create (codes "x") (codes "a" ∷ [])) ∷ by 3 (Create (codes "x") [])
    ∷ by 0 Ls ∷ by 4 Pwd ∷ by 0 (Cat (codes "x")) ∷ by 2 (Cd (codes "a")) ∷ []

alike : seen start one 0 ≡ seen start other 0
unfolding step digits resolved text_words text_steps printed is_place
alike = refl

hears : HearsTheSame start one other 0
hears = hears_the_same start one other 0 (lit< tt) alike

-- and so it does, worked out
heard_of_one : heard start one 0
    ≡ (line (codes "ok") ++ line (codes "@0")) ∷ (line (codes "f x") ++ line (codes "ok") ++ line (codes "@0"))
    ∷ (line (codes "b 0") ++ line [] ++ line (codes "ok") ++ line (codes "@0")) ∷ []
unfolding step digits resolved text_words text_steps printed is_place
heard_of_one = refl

heard_of_other : heard start other 0 ≡ heard start one 0
unfolding step digits resolved text_words text_steps printed is_place
heard_of_other = refl

-- ---- another room's place is not seen, but what is done there later is
in_a_place : heard start (by 0 (Mkdir (codes "a")) ∷ by 1 (Cd (codes "a")) ∷ by 1 (Create (codes "x") []) ∷ by 0 (Create (codes "y") []) ∷ by 0 Ls ∷ []) 0
    ≡ (line (codes "ok") ++ line (codes "@0")) ∷ (line (codes "ok") ++ line (codes "@0"))
    ∷ (line (codes "d a") ++ line (codes "f y") ++ line (codes "ok") ++ line (codes "@0")) ∷ []
unfolding step digits resolved text_words text_steps printed is_place
in_a_place = refl

at_the_root : heard start (by 0 (Mkdir (codes "a")) ∷ by 1 (Create (codes "x") []) ∷ by 0 (Create (codes "y") []) ∷ by 0 Ls ∷ []) 0
    ≡ (line (codes "ok") ++ line (codes "@0")) ∷ (line (codes "ok") ++ line (codes "@0"))
    ∷ (line (codes "f x") ++ line (codes "f y") ++ line (codes "ok") ++ line (codes "@0")) ∷ []
unfolding step digits resolved text_words text_steps printed is_place
at_the_root = refl
