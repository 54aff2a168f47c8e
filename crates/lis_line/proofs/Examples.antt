-- The items of inputs of rooms, worked out.
use Rattle.std.proofs.Common.{◌≡◌, ℕ, [], ◌∷◌, ◌++◌, codes, replicate, Some, None, refl}
use Rattle.lis_model.specs.declared.command.Command.TheVariants.{Mkdir, Create, Add, Cat, Cd, Pwd, Ls}
use Rattle.lis_model.specs.declared.refusal.Refusal.TheVariants.{LongLine, CutPayload, PayloadEnd}
use Rattle.lis_model.specs.Step.{Item, no_payload}
use Rattle.lis_model.specs.Step.Item.{Do, Bad}
use Rattle.lis_model.specs.Script.{bad_line}
use Rattle.lis_line.specs.Tagged.{Tagged, all_tagged, whole_tagged, room_script}

inside : ℕ → Item → Tagged
inside room item = record { room = Some room; item = item }

outside : Item → Tagged
outside item = record { room = None; item = item }

two_rooms : room_script (codes "@0 mkdir a\n@0 cd a\n@1 create x\n@0 create y\n@1 pwd\n@0 ls\n@1 ls\nls\n") 1000
    ≡ inside 0 (Do (Mkdir (codes "a")) no_payload) ∷ inside 0 (Do (Cd (codes "a")) no_payload) ∷ inside 1 (Do (Create (codes "x") []) no_payload)
    ∷ inside 0 (Do (Create (codes "y") []) no_payload) ∷ inside 1 (Do Pwd no_payload) ∷ inside 0 (Do Ls no_payload) ∷ inside 1 (Do Ls no_payload)
    ∷ outside bad_line ∷ []
unfolding all_tagged whole_tagged inside outside
two_rooms = refl

-- a payload belongs to its line, and a tag alone is refused in its room
payload_in_a_room : room_script (codes "@7 add f 2\nhi\n@7 cat f\n@8 ls\n@3\n") 1000
    ≡ inside 7 (Do (Add (codes "f") []) (record { size = 2; bytes = codes "hi" })) ∷ inside 7 (Do (Cat (codes "f")) no_payload) ∷ outside bad_line ∷ inside 3 bad_line ∷ []
unfolding all_tagged whole_tagged inside outside
payload_in_a_room = refl

-- a line without a tag has no payload, and one without words is skipped
no_tag : room_script (codes "add a 3\nabc\n \n@1 ls") 1000 ≡ outside bad_line ∷ outside bad_line ∷ inside 1 (Do Ls no_payload) ∷ []
unfolding all_tagged whole_tagged inside outside
no_tag = refl

-- a long line has no room and no payload
long_line : room_script (codes "@1 add f 2 " ++ replicate 1014 32 ++ codes "\nhi\n@1 ls") 2000 ≡ outside (Bad LongLine) ∷ outside bad_line ∷ inside 1 (Do Ls no_payload) ∷ []
unfolding all_tagged whole_tagged inside outside
long_line = refl

-- a payload that is cut, or that no line feed ends, is refused in its line's room
cut_payload : room_script (codes "@2 add f 3\nhi") 1000 ≡ inside 2 (Bad CutPayload) ∷ []
unfolding all_tagged whole_tagged inside outside
cut_payload = refl

payload_end : room_script (codes "@2 write f 1\nhi\n@5 ls\n") 1000 ≡ inside 2 (Bad PayloadEnd) ∷ inside 5 (Do Ls no_payload) ∷ []
unfolding all_tagged whole_tagged inside outside
payload_end = refl

-- tags with a carriage return, with blanks, and words that are no tags
tags : room_script (codes "@3\r\n  @3\tls\r\n@8 ls\n@33 ls\n@ 3 ls\n@3ls\n") 1000
    ≡ inside 3 bad_line ∷ inside 3 (Do Ls no_payload) ∷ outside bad_line ∷ outside bad_line ∷ outside bad_line ∷ outside bad_line ∷ []
unfolding all_tagged whole_tagged inside outside
tags = refl

-- past the limit only whole items count
past_the_limit : room_script (codes "@1 ls\n@2 add f 1\nx\n") 18 ≡ inside 1 (Do Ls no_payload) ∷ []
unfolding all_tagged whole_tagged inside outside
past_the_limit = refl
