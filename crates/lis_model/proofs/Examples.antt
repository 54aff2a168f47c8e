-- Sessions, commands and derived words worked by the definitions alone.
use Rattle.std.proofs.Common.{◌≡◌, ℕ, Bool, true, false, List, [], ◌∷◌, ◌++◌, length, codes, refl}
use Rattle.std.specs.Fmt.{digits}
use Rattle.lis_grammar.specs.Machine.{text_steps, broken_at}
use Rattle.lis_grammar.specs.Printing.{printed}
use Rattle.lis_grammar.specs.Places.{is_place, resolved, text_words}
use Rattle.lis_transducers.specs.Mail.{mail_words}
use Rattle.lis_transducers.specs.Source.{source_words}
use Rattle.lis_transducers.specs.Pieces.{pieces}
use Rattle.lis_transducers.specs.Joined.{joined}
use Rattle.lis_words.specs.declared.test.Test.{Test}
use Rattle.lis_model.specs.Replies.{line}
use Rattle.lis_model.specs.Step.{start_of, replies, step, Situation, Outcome, Item, Payload, no_payload, done}
use Rattle.lis_model.specs.Script.{script, all_items, whole_items}
use Rattle.lis_model.specs.declared.command.Command.{Command}
use Rattle.lis_model.specs.declared.command.Command.TheVariants.{Mkdir, Rmdir, Axiom, Unaxiom, Create, Add, Write, Cat, Mv, Rename, Cd, Ls, Way, Stat}
use Rattle.lis_model.specs.Derived.{derived_words}
use Rattle.lis_model.specs.declared.limits.Limits.{Limits}
use Rattle.lis_model.specs.Image.{record_blocks, description_blocks, properties_start, axioms_start, files_start, descriptions_start, bitmap_start, data_start, image_blocks}
use Rattle.lis_model.specs.Ranges.{are_in_range}
use Rattle.lis_model.specs.State.{file_limit, blocks_taken}
use Rattle.lis_model.specs.Step.Item.{Do, Bad}
use Rattle.lis_model.specs.Tests.{is_weaker}

abbrev session : List ℕ → List ℕ
session bytes = replies (start_of (record { files = 64; props = 64; blocks = 8; version = 1 })) (script bytes 1000)

nothing_said : session [] ≡ []
unfolding all_items whole_items step
nothing_said = refl

first_run : session (line (codes "mkdir music") ++ line (codes "create a") ++ line (codes "create b music") ++ line (codes "ls"))
    ≡ line (codes "ok") ++ line (codes "ok") ++ line (codes "ok") ++ line (codes "d music") ++ line (codes "f a") ++ line (codes "ok")
unfolding all_items whole_items step
first_run = refl

two_files : session (line (codes "create b") ++ line (codes "create a") ++ codes "ls")
    ≡ line (codes "ok") ++ line (codes "ok") ++ line (codes "f a") ++ line (codes "f b") ++ line (codes "ok")
unfolding all_items whole_items step
two_files = refl

-- blanks, a carriage return, an empty line; refusals
odd_lines : session (codes "\t mkdir\t a \r\n\n \t\nmkdir a\nmkdir size:\ncreate x b\ncreate x a\ncreate x a\nls ls\nfrob")
    ≡ line (codes "ok") ++ line (codes "no 11 already declared") ++ line (codes "no 25 built-in attribute") ++ line (codes "no 06 unknown property")
    ++ line (codes "ok") ++ line (codes "no 09 name taken") ++ line (codes "no 01 bad line") ++ line (codes "no 01 bad line")
unfolding all_items whole_items step
odd_lines = refl

-- past the limit, only what is whole within it is run
past_the_limit : replies (start_of (record { files = 64; props = 64; blocks = 8; version = 1 })) (script (codes "mkdir a\nmkdir b\n") 12) ≡ line (codes "ok")
unfolding all_items whole_items step
past_the_limit = refl

-- places: narrowed by formulas, shown, and left again
places : session (codes "mkdir a\nmkdir b\nmkdir c\ncd a|b/c\npwd\ncd ..\npwd\ncd ..\ncd ..\npwd\n")
    ≡ line (codes "ok") ++ line (codes "ok") ++ line (codes "ok") ++ line (codes "ok") ++ line (codes "w (a|b)/c") ++ line (codes "ok")
    ++ line (codes "ok") ++ line (codes "w (a|b)") ++ line (codes "ok") ++ line (codes "ok") ++ line (codes "ok") ++ line (codes "w /") ++ line (codes "ok")
unfolding all_items whole_items step resolved text_words text_steps printed is_place
places = refl

unknown_place : session (codes "cd nosuch\ncd a/\npwd\n")
    ≡ line (codes "no 06 unknown property") ++ line (codes "no 05 formula") ++ line (codes "w /") ++ line (codes "ok")
unfolding all_items whole_items step resolved text_words text_steps broken_at printed is_place
unknown_place = refl

-- a file made at a place has the words of the place; a place with a bar is no place of words
made_at_places : session (codes "mkdir a\nmkdir b\ncd a/b\ncreate x\ncd /\nls\ncd a\nls\ncd /a|b\ncreate y\nmkdir d\n")
    ≡ line (codes "ok") ++ line (codes "ok") ++ line (codes "ok") ++ line (codes "ok") ++ line (codes "ok")
    ++ line (codes "f x") ++ line (codes "ok") ++ line (codes "ok") ++ line (codes "f x") ++ line (codes "ok") ++ line (codes "ok")
    ++ line (codes "no 08 not a place") ++ line (codes "no 08 not a place")
unfolding all_items whole_items step resolved text_words text_steps printed is_place
made_at_places = refl

abbrev with_blocks : ℕ → List ℕ → List ℕ
with_blocks blocks bytes = replies (start_of (record { files = 64; props = 64; blocks = blocks; version = 1 })) (script bytes 1000)

-- files with bytes: one block is used, given back, and used again
one_block : with_blocks 1 (codes "add a 1\nx\nadd b 0\n\nadd c 1\ny\nrm a\nadd c 1\nz\nls\ncat c\n")
    ≡ line (codes "ok") ++ line (codes "ok") ++ line (codes "no 24 no space") ++ line (codes "ok") ++ line (codes "ok")
    ++ line (codes "d size:empty") ++ line (codes "d size:small") ++ line (codes "ok") ++ line (codes "b 1") ++ line (codes "z") ++ line (codes "ok")
unfolding all_items whole_items step digits
one_block = refl

-- a line feed must follow a payload; otherwise all up to the next one is dropped
payload_ends : session (codes "add a 2\nxyz\nls\nadd b 3\nabc\ncat b\n")
    ≡ line (codes "no 04 payload end") ++ line (codes "ok") ++ line (codes "ok") ++ line (codes "b 3") ++ line (codes "abc") ++ line (codes "ok")
unfolding all_items whole_items step digits
payload_ends = refl

payload_forms : session (codes "add a 0000000000003\nls\nadd a 000000000003\nxyz\nadd . 1\nx\nwrite a 1\nyy\ncat y\npwd\nadd a 65537\n")
    ≡ line (codes "no 01 bad line") ++ line (codes "ok") ++ line (codes "ok") ++ line (codes "no 01 bad line")
    ++ line (codes "no 04 payload end") ++ line (codes "no 10 no such file here") ++ line (codes "w /") ++ line (codes "ok") ++ line (codes "no 03 cut payload")
unfolding all_items whole_items step printed
payload_forms = refl

-- the end of the input may replace a payload's line feed, but not if the input goes on past the limit
last_payload : session (codes "add a 3\nxyz") ++ session (codes "add a 0") ++ session (codes "add a 1")
    ≡ line (codes "ok") ++ line (codes "ok") ++ line (codes "no 03 cut payload")
unfolding all_items whole_items step
last_payload = refl

payload_at_the_limit : replies (start_of (record { files = 64; props = 64; blocks = 8; version = 1 })) (script (codes "add a 1\nx\nls") 10)
    ++ replies (start_of (record { files = 64; props = 64; blocks = 8; version = 1 })) (script (codes "add a 1\nx\nls") 9) ≡ line (codes "ok")
unfolding all_items whole_items step
payload_at_the_limit = refl

-- ---- commands
-- what all commands reply
abbrev reply_then : Outcome → (Situation → List ℕ) → List ℕ
reply_then outcome next = outcome.reply ++ next outcome.next

abbrev all_replies : Situation → List Item → List ℕ
all_replies now [] = []
all_replies now (Do command payload ∷ items) = reply_then (done now command payload) (λ next. all_replies next items)
all_replies now (Bad refusal ∷ items) = all_replies now items

abbrev said : List Item → List ℕ
said items = all_replies (start_of (record { files = 64; props = 64; blocks = 2; version = 1 })) items

abbrev plain : Command → Item
plain command = Do command no_payload

abbrev bytes : List ℕ → Payload
bytes text = record { size = length text; bytes = text }

abbrev ok : List ℕ
ok = line (codes "ok")

-- ---- axioms: rock is hidden under music
abbrev music : List Item
music =
    plain (Mkdir (codes "music")) ∷ plain (Mkdir (codes "rock")) ∷ plain (Axiom (codes "rock") (codes "music")) ∷ plain (Mkdir (codes "text"))
    ∷ plain (Create (codes "s1") (codes "rock" ∷ [])) ∷ plain (Create (codes "s2") (codes "music" ∷ [])) ∷ plain (Create (codes "t") (codes "text" ∷ [])) ∷ []

axioms_hide : said (music ++ plain Ls ∷ plain (Cd (codes "!music|rock")) ∷ plain Ls ∷ plain (Cd (codes "/music")) ∷ plain Ls ∷ [])
    ≡ ok ++ ok ++ ok ++ ok ++ ok ++ ok ++ ok ++ line (codes "d music") ++ line (codes "d text") ++ ok ++ ok ++ line (codes "d music") ++ line (codes "d text") ++ ok
    ++ ok ++ line (codes "d rock") ++ line (codes "f s2") ++ ok
unfolding resolved text_words text_steps printed is_place
axioms_hide = refl

axioms_refused : said (music ++ plain (Axiom (codes "music") (codes "rock")) ∷ plain (Axiom (codes "rock") (codes "music")) ∷ plain (Axiom (codes "rock") (codes "k:"))
    ∷ plain (Axiom (codes "nosuch") (codes "music")) ∷ plain (Unaxiom (codes "text") (codes "music")) ∷ plain (Rmdir (codes "rock")) ∷ plain (Rmdir (codes "size:"))
    ∷ plain (Rmdir (codes "a:b")) ∷ plain (Rmdir (codes "other")) ∷ [])
    ≡ ok ++ ok ++ ok ++ ok ++ ok ++ ok ++ ok ++ line (codes "no 15 cycle") ++ line (codes "no 16 axiom there") ++ line (codes "no 14 not assignable")
    ++ line (codes "no 06 unknown property") ++ line (codes "no 17 no such axiom") ++ line (codes "no 13 in use") ++ line (codes "no 25 built-in attribute")
    ++ line (codes "no 14 not assignable") ++ line (codes "no 12 not declared")
axioms_refused = refl

-- two ways up: with one of them gone the other still leads there
two_ways : said (plain (Mkdir (codes "top")) ∷ plain (Mkdir (codes "l")) ∷ plain (Mkdir (codes "r")) ∷ plain (Mkdir (codes "bot")) ∷ plain (Axiom (codes "l") (codes "top")) ∷ plain (Axiom (codes "r") (codes "top"))
    ∷ plain (Axiom (codes "bot") (codes "l")) ∷ plain (Axiom (codes "bot") (codes "r")) ∷ plain (Create (codes "x") (codes "bot" ∷ [])) ∷ plain (Create (codes "y") [])
    ∷ plain (Unaxiom (codes "bot") (codes "l")) ∷ plain Ls ∷ plain (Unaxiom (codes "bot") (codes "r")) ∷ plain Ls ∷ [])
    ≡ ok ++ ok ++ ok ++ ok ++ ok ++ ok ++ ok ++ ok ++ ok ++ ok ++ ok ++ line (codes "d top") ++ line (codes "f y") ++ ok ++ ok ++ line (codes "d bot") ++ line (codes "f y") ++ ok
two_ways = refl

-- bytes are added, and replaced
bytes_change : said (Do (Add (codes "a") []) (bytes (codes "xy")) ∷ Do (Write (codes "a")) (bytes (codes "z")) ∷ plain (Cat (codes "a")) ∷ Do (Write (codes "b")) (bytes (codes "z"))
    ∷ Do (Write (codes "a")) (record { size = 4097; bytes = [] }) ∷ Do (Add (codes "c") []) (bytes (codes "z")) ∷ Do (Add (codes "d") []) (bytes (codes "z"))
    ∷ Do (Write (codes "a")) (record { size = 65537; bytes = [] }) ∷ [])
    ≡ ok ++ ok ++ line (codes "b 1") ++ line (codes "z") ++ ok ++ line (codes "no 10 no such file here") ++ ok ++ ok ++ ok ++ line (codes "no 20 file too large")
unfolding digits
bytes_change = refl

tags_change : said (plain (Mkdir (codes "a")) ∷ plain (Mkdir (codes "b")) ∷ plain (Create (codes "x") (codes "a" ∷ [])) ∷ plain (Create (codes "y") []) ∷ plain (Mv (codes "x") (codes "a/")) ∷ plain (Mv (codes "z") (codes "a"))
    ∷ plain (Mv (codes "x") (codes "a|b")) ∷ plain (Mv (codes "x") (codes "size:")) ∷ plain (Mv (codes "x") (codes "k:")) ∷ plain (Mv (codes "x") (codes "c"))
    ∷ plain (Cd (codes "a")) ∷ plain (Mv (codes "x") (codes "/b")) ∷ plain Ls ∷ plain (Cd (codes "/b")) ∷ plain (Mv (codes "x") (codes "..")) ∷ plain (Cd (codes "/")) ∷ plain Ls ∷ [])
    ≡ ok ++ ok ++ ok ++ ok ++ line (codes "no 05 formula") ++ line (codes "no 10 no such file here") ++ line (codes "no 08 not a place") ++ line (codes "no 25 built-in attribute")
    ++ line (codes "no 14 not assignable") ++ line (codes "no 06 unknown property") ++ ok ++ ok ++ ok ++ ok ++ ok ++ ok ++ line (codes "f x") ++ line (codes "f y") ++ ok
unfolding resolved text_words text_steps broken_at printed is_place
tags_change = refl

names_change : said (plain (Create (codes "x") []) ∷ plain (Create (codes "y") []) ∷ plain (Rename (codes "z") (codes "y")) ∷ plain (Rename (codes "x") (codes "y")) ∷ plain (Rename (codes "x") (codes "x"))
    ∷ plain (Rename (codes "x") (codes "z")) ∷ plain Ls ∷ [])
    ≡ ok ++ ok ++ line (codes "no 10 no such file here") ++ line (codes "no 09 name taken") ++ line (codes "no 09 name taken") ++ ok ++ line (codes "f y") ++ line (codes "f z") ++ ok
names_change = refl

-- ---- routes and counts
routes_shown : said (music ++ plain (Way (codes "s1")) ∷ plain (Way (codes "x")) ∷ [])
    ≡ ok ++ ok ++ ok ++ ok ++ ok ++ ok ++ ok ++ line (codes "d music") ++ line (codes "d rock") ++ ok ++ line (codes "no 10 no such file here")
routes_shown = refl

counts_shown : said (plain (Mkdir (codes "a")) ∷ plain (Mkdir (codes "b")) ∷ plain (Axiom (codes "size:small") (codes "b")) ∷ plain Stat ∷ [])
    ≡ ok ++ ok ++ ok ++ line (codes "s files 0") ++ line (codes "s known 4") ++ line (codes "s axioms 1") ++ line (codes "s free 2") ++ ok
unfolding digits
counts_shown = refl

-- ---- declared tests
tests_shown : said (plain (Mkdir (codes "size>=1")) ∷ plain (Mkdir (codes "size>=2")) ∷ plain (Mkdir (codes "big")) ∷ plain (Axiom (codes "size>=2") (codes "big")) ∷ Do (Add (codes "b") []) (bytes (codes "x"))
    ∷ Do (Add (codes "c") []) (bytes (codes "xx")) ∷ plain (Cd (codes "big")) ∷ plain (Way (codes "c")) ∷ plain (Cd (codes "/!big")) ∷ plain (Cat (codes "b")) ∷ plain (Create (codes "d") (codes "size>=1" ∷ []))
    ∷ plain (Rmdir (codes "size>=2")) ∷ plain (Unaxiom (codes "size>=2") (codes "big")) ∷ plain (Rmdir (codes "size>=2")) ∷ plain (Mkdir (codes "size>=1")) ∷ [])
    ≡ ok ++ ok ++ ok ++ ok ++ ok ++ ok ++ ok ++ ok ++ ok ++ line (codes "b 1") ++ line (codes "x") ++ ok ++ line (codes "no 08 not a place") ++ line (codes "no 13 in use") ++ ok ++ ok ++ line (codes "no 11 already declared")
unfolding resolved text_words text_steps printed is_place digits
tests_shown = refl

test_not_assigned : said (plain (Mkdir (codes "size<1")) ∷ plain (Create (codes "d") (codes "size<1" ∷ [])) ∷ []) ≡ ok ++ line (codes "no 14 not assignable")
test_not_assigned = refl

abbrev size_at_least : ℕ → Test
size_at_least n = record { at_least = true; bytes = n }

abbrev size_below : ℕ → Test
size_below n = record { at_least = false; bytes = n }

-- size>=1 is weaker than size>=2, and size<3 than size<2
weaker_at_least : is_weaker (size_at_least 1) (size_at_least 2) ≡ true
weaker_at_least = refl

weaker_below : is_weaker (size_below 3) (size_below 2) ≡ true
weaker_below = refl

unlike_tests : is_weaker (size_at_least 1) (size_below 2) ≡ false
unlike_tests = refl

-- ---- versions: in version 1 no block numbers others; in later ones one numbers up to 1,024 others, if they are more than 16
taken_by_17 : blocks_taken 1 65537 ≡ 17
taken_by_17 = refl

taken_by_17_and_1 : blocks_taken 2 65537 ≡ 18
taken_by_17_and_1 = refl

taken_by_16 : blocks_taken 2 65536 ≡ 16
taken_by_16 = refl

taken_by_1024_and_1 : blocks_taken 3 4194304 ≡ 1025
taken_by_1024_and_1 = refl

taken_by_1025_and_2 : blocks_taken 3 4194305 ≡ 1027
taken_by_1025_and_2 = refl

abbrev limit_of : ℕ → ℕ → ℕ
limit_of version blocks = file_limit (record { files = 64; props = 64; blocks = blocks; version = version })

limit_1 : limit_of 1 8 ≡ 65536
limit_1 = refl

limit_2 : limit_of 2 8 ≡ 1048576
limit_2 = refl

-- in version 3 the blocks are a limit too
limit_3 : limit_of 3 16384 ≡ 67108864
limit_3 = refl

limit_of_few_blocks : limit_of 3 16383 ≡ 67104768
limit_of_few_blocks = refl

abbrev ranges_of : ℕ → ℕ → ℕ → ℕ → Bool
ranges_of version files props blocks = are_in_range (record { files = files; props = props; blocks = blocks; version = version })

least_3 : ranges_of 3 64 64 1 ≡ true
least_3 = refl

most_3 : ranges_of 3 262144 1048576 16777216 ≡ true
most_3 = refl

most_2 : ranges_of 2 4096 8192 32768 ≡ true
most_2 = refl

many_files : ranges_of 2 8192 64 1 ≡ false
many_files = refl

too_many_files : ranges_of 3 524288 64 1 ≡ false
too_many_files = refl

no_power : ranges_of 3 96 64 1 ≡ false
no_power = refl

too_many_words : ranges_of 3 64 1048640 1 ≡ false
too_many_words = refl

too_many_blocks : ranges_of 3 64 64 16777217 ≡ false
too_many_blocks = refl

no_version_4 : ranges_of 4 64 64 1 ≡ false
no_version_4 = refl

-- ---- derived words
name_and_size : derived_words (codes "a.b.Txt") [] ≡ codes "ext:Txt" ∷ codes "size:empty" ∷ []
name_and_size = refl

no_suffix : derived_words (codes ".a") (codes "x") ++ derived_words (codes "a.") (codes "x") ≡ codes "size:small" ∷ codes "size:small" ∷ []
no_suffix = refl

a_mail : derived_words (codes "m.eml") (codes "From: Alice <alice@example.org>\nTo: bob@example.org,\n Carol <carol@example.org>\nSubject: Re: Lunch plan\n\nSee you.\n")
    ≡ codes "ext:eml" ∷ codes "size:small" ∷ codes "from:alice@example.org" ∷ codes "to:bob@example.org" ∷ codes "to:carol@example.org" ∷ codes "subject:re" ∷ codes "subject:lunch" ∷ codes "subject:plan" ∷ []
unfolding mail_words
a_mail = refl

a_blank_before_the_colon : derived_words (codes "m.eml") (codes "To : a@b\nTO: C@d\r\n e\n") ≡ codes "ext:eml" ∷ codes "size:small" ∷ codes "to:c@d" ∷ []
unfolding mail_words
a_blank_before_the_colon = refl

a_source : derived_words (codes "x.c") (codes "/* #include \"no.h\" */\n#include <stdio.h>\n#include \"sub/list.h\"\nstatic const char *s = \"{\";\nint main(void) {\n  puts(s);\n}\n")
    ≡ codes "ext:c" ∷ codes "size:small" ∷ codes "includes:stdio.h" ∷ codes "includes:list.h" ∷ codes "defines:main" ∷ []
unfolding source_words pieces joined
a_source = refl

another_case : derived_words (codes "x.C") (codes "int f() {}\n") ≡ codes "ext:C" ∷ codes "size:small" ∷ []
another_case = refl

-- ---- the parts of an image
abbrev least : ℕ → Limits
least version = record { files = 64; props = 64; blocks = 8; version = version }

-- the first blocks of property slots, axiom slots, file slots, the words of the files, the bitmap and the data blocks, and all blocks
abbrev parts : Limits → List ℕ
parts limits =
    properties_start limits ∷ axioms_start limits ∷ files_start limits ∷ descriptions_start limits ∷ bitmap_start limits ∷ data_start limits
    ∷ image_blocks limits ∷ []

parts_of_2 : parts (least 2) ≡ 578 ∷ 579 ∷ 580 ∷ 584 ∷ 585 ∷ 586 ∷ 594 ∷ []
unfolding record_blocks description_blocks
parts_of_2 = refl

parts_of_3 : parts (least 3) ≡ 1098 ∷ 1099 ∷ 1100 ∷ 1104 ∷ 1112 ∷ 1113 ∷ 1121 ∷ []
unfolding record_blocks description_blocks
parts_of_3 = refl

largest_of_2 : image_blocks (record { files = 4096; props = 8192; blocks = 32768; version = 2 }) ≡ 34771
unfolding record_blocks description_blocks
largest_of_2 = refl

-- its bitmap has 512 blocks
largest_of_3 : image_blocks (record { files = 262144; props = 1048576; blocks = 16777216; version = 3 }) ≡ 16879170
unfolding record_blocks description_blocks
largest_of_3 = refl
