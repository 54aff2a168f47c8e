-- Dumps worked by the definitions alone: of states that sessions come to, and run again.
use Rattle.std.proofs.Common.{◌≡◌, ℕ, List, [], ◌∷◌, ◌++◌, codes, refl}
use Rattle.std.specs.Fmt.{digits}
use Rattle.lis_grammar.specs.Machine.{text_steps}
use Rattle.lis_grammar.specs.Printing.{printed}
use Rattle.lis_grammar.specs.Places.{is_place, resolved, text_words}
use Rattle.lis_model.specs.declared.limits.Limits.{Limits}
use Rattle.lis_model.specs.State.{State, File, empty_state}
use Rattle.lis_model.specs.Replies.{line}
use Rattle.lis_model.specs.Step.{start_of, situation_after, replies, step}
use Rattle.lis_model.specs.Script.{script, all_items, whole_items}
use Rattle.lis_replay.specs.Dump.{dump_of}

abbrev small : Limits
small = record { files = 64; props = 64; blocks = 8; version = 2 }

abbrev file : List ℕ → List ℕ → List (List ℕ) → File
file name bytes assigned = record { name = name; bytes = bytes; assigned = assigned }

-- where a session leads, and what it replies
abbrev after : List ℕ → State
after bytes = (situation_after (start_of small) (script bytes 1000)).state

abbrev said : List ℕ → List ℕ
said bytes = replies (start_of small) (script bytes 1000)

abbrev ok : List ℕ
ok = line (codes "ok")

-- ---- words, files and an axiom, whatever the order in which they came
abbrev music : State
music = record {
  limits = small;
  declared = codes "music" ∷ codes "rock" ∷ codes "text" ∷ [];
  axioms = (codes "rock", codes "music") ∷ [];
  files = file (codes "s1") [] (codes "rock" ∷ []) ∷ file (codes "s2") [] (codes "music" ∷ []) ∷ file (codes "t") [] (codes "text" ∷ []) ∷ [];
}

music_comes : after (codes "mkdir music\nmkdir rock\naxiom rock music\nmkdir text\ncreate s1 rock\ncreate s2 music\ncreate t text\n") ≡ music
unfolding all_items whole_items step
music_comes = refl

music_dump : dump_of music ≡ codes "mkdir music\nmkdir rock\nmkdir text\nadd s1 0 rock\n\nadd s2 0 music\n\nadd t 0 text\n\naxiom rock music\n"
unfolding dump_of digits
music_dump = refl

music_again : after (codes "mkdir music\nmkdir rock\nmkdir text\nadd s1 0 rock\n\nadd s2 0 music\n\nadd t 0 text\n\naxiom rock music\n") ≡ music
unfolding all_items whole_items step
music_again = refl

music_says : said (codes "mkdir music\nmkdir rock\nmkdir text\nadd s1 0 rock\n\nadd s2 0 music\n\nadd t 0 text\n\naxiom rock music\n") ≡ ok ++ ok ++ ok ++ ok ++ ok ++ ok ++ ok
unfolding all_items whole_items step
music_says = refl

-- ---- more than eight words: a line of `mv` has the others
abbrev many : State
many = record {
  limits = small;
  declared = codes "k:" ∷ [];
  axioms = [];
  files = file (codes "f") []
      (codes "k:0" ∷ codes "k:1" ∷ codes "k:2" ∷ codes "k:3" ∷ codes "k:4" ∷ codes "k:5" ∷ codes "k:6" ∷ codes "k:7" ∷ codes "k:8" ∷ codes "k:9" ∷ []) ∷ [];
}

many_comes : after (codes "mkdir k:\ncreate f k:9 k:8 k:7 k:6 k:5 k:4 k:3 k:2 k:1 k:0\n") ≡ many
unfolding all_items whole_items step
many_comes = refl

many_dump : dump_of many ≡ codes "mkdir k:\nadd f 0 k:0 k:1 k:2 k:3 k:4 k:5 k:6 k:7\n\nmv f k:8/k:9\n"
unfolding dump_of digits
many_dump = refl

many_again : after (codes "mkdir k:\nadd f 0 k:0 k:1 k:2 k:3 k:4 k:5 k:6 k:7\n\nmv f k:8/k:9\n") ≡ many
unfolding all_items whole_items step resolved text_words text_steps printed is_place
many_again = refl

many_says : said (codes "mkdir k:\nadd f 0 k:0 k:1 k:2 k:3 k:4 k:5 k:6 k:7\n\nmv f k:8/k:9\n") ≡ ok ++ ok ++ ok
unfolding all_items whole_items step resolved text_words text_steps printed is_place
many_says = refl

-- ---- nothing
empty_dump : dump_of (empty_state small) ≡ []
unfolding dump_of
empty_dump = refl

-- ---- a declared test with an axiom, bytes with line feeds in them, and ten words
abbrev mixed : State
mixed = record {
  limits = small;
  declared = codes "big" ∷ codes "k:" ∷ codes "size>=3" ∷ [];
  axioms = (codes "size>=3", codes "big") ∷ [];
  files = file (codes "a") (codes "x\ny\n") (codes "big" ∷ [])
      ∷ file (codes "f") []
      (codes "k:0" ∷ codes "k:1" ∷ codes "k:2" ∷ codes "k:3" ∷ codes "k:4" ∷ codes "k:5" ∷ codes "k:6" ∷ codes "k:7" ∷ codes "k:8" ∷ codes "k:9" ∷ [])
      ∷ [];
}

mixed_comes : after (codes "mkdir size>=3\nmkdir k:\nmkdir big\naxiom size>=3 big\ncreate f k:9 k:8 k:7 k:6 k:5 k:4 k:3 k:2 k:1 k:0\nadd a 4 big\nx\ny\n\n") ≡ mixed
unfolding all_items whole_items step
mixed_comes = refl

mixed_dump : dump_of mixed
    ≡ codes "mkdir big\nmkdir k:\nmkdir size>=3\nadd a 4 big\nx\ny\n\nadd f 0 k:0 k:1 k:2 k:3 k:4 k:5 k:6 k:7\n\nmv f k:8/k:9\naxiom size>=3 big\n"
unfolding dump_of digits
mixed_dump = refl

mixed_again : after (codes "mkdir big\nmkdir k:\nmkdir size>=3\nadd a 4 big\nx\ny\n\nadd f 0 k:0 k:1 k:2 k:3 k:4 k:5 k:6 k:7\n\nmv f k:8/k:9\naxiom size>=3 big\n") ≡ mixed
unfolding all_items whole_items step resolved text_words text_steps printed is_place
mixed_again = refl
