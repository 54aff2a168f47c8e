-- The bytes of replies: body lines, ok, and refusals.
use Rattle.std.specs.Prelude.{ℕ, ◌+◌, ◌/◌, ◌%◌, List, [], ◌∷◌, ◌++◌, length, codes, decimal}
use Rattle.std.specs.List.{flat_map}
use Rattle.lis_model.specs.declared.refusal.Refusal.{Refusal}
use Rattle.lis_model.specs.declared.refusal.Refusal.TheVariants.{BadLine, LongLine, CutPayload, PayloadEnd, BadFormula, UnknownProperty, LargeFormula, NotAPlace, NameTaken, NoFileHere, AlreadyDeclared, NotDeclared, InUse, NotAssignable, Cycle, AxiomThere, NoAxiom, TooManyAssigned, LargeDescription, LargeFile, NoFileRoom, NoPropertyRoom, NoAxiomRoom, NoSpace, BuiltIn}
use Rattle.lis_model.specs.Table.{Entry}

-- a text and a line feed
abbrev pub line : List ℕ → List ℕ
line text = text ++ 10 ∷ []

-- a letter, a blank and a text
abbrev pub body_line : ℕ → List ℕ → List ℕ
body_line letter text = line (letter ∷ 32 ∷ text)

-- a label, a blank and a number
abbrev pub number_line : List ℕ → ℕ → List ℕ
number_line label n = line (label ++ 32 ∷ decimal n)

abbrev pub ok_line : List ℕ
ok_line = line (codes "ok")

abbrev pub number_of : Refusal → ℕ
number_of BadLine = 1
number_of LongLine = 2
number_of CutPayload = 3
number_of PayloadEnd = 4
number_of BadFormula = 5
number_of UnknownProperty = 6
number_of LargeFormula = 7
number_of NotAPlace = 8
number_of NameTaken = 9
number_of NoFileHere = 10
number_of AlreadyDeclared = 11
number_of NotDeclared = 12
number_of InUse = 13
number_of NotAssignable = 14
number_of Cycle = 15
number_of AxiomThere = 16
number_of NoAxiom = 17
number_of TooManyAssigned = 18
number_of LargeDescription = 19
number_of LargeFile = 20
number_of NoFileRoom = 21
number_of NoPropertyRoom = 22
number_of NoAxiomRoom = 23
number_of NoSpace = 24
number_of BuiltIn = 25

abbrev pub refusal_words : Refusal → List ℕ
refusal_words BadLine = codes "bad line"
refusal_words LongLine = codes "long line"
refusal_words CutPayload = codes "cut payload"
refusal_words PayloadEnd = codes "payload end"
refusal_words BadFormula = codes "formula"
refusal_words UnknownProperty = codes "unknown property"
refusal_words LargeFormula = codes "formula too large"
refusal_words NotAPlace = codes "not a place"
refusal_words NameTaken = codes "name taken"
refusal_words NoFileHere = codes "no such file here"
refusal_words AlreadyDeclared = codes "already declared"
refusal_words NotDeclared = codes "not declared"
refusal_words InUse = codes "in use"
refusal_words NotAssignable = codes "not assignable"
refusal_words Cycle = codes "cycle"
refusal_words AxiomThere = codes "axiom there"
refusal_words NoAxiom = codes "no such axiom"
refusal_words TooManyAssigned = codes "too many assigned"
refusal_words LargeDescription = codes "description too large"
refusal_words LargeFile = codes "file too large"
refusal_words NoFileRoom = codes "no file room"
refusal_words NoPropertyRoom = codes "no property room"
refusal_words NoAxiomRoom = codes "no axiom room"
refusal_words NoSpace = codes "no space"
refusal_words BuiltIn = codes "built-in attribute"

abbrev pub two_digits : ℕ → List ℕ
two_digits n = (48 + n / 10) ∷ (48 + n % 10) ∷ []

-- `no`, the refusal's number in two digits, and its words
abbrev pub refusal_line : Refusal → List ℕ
refusal_line refusal = line (codes "no " ++ two_digits (number_of refusal) ++ 32 ∷ refusal_words refusal)

-- the letters that begin the lines of a reply
abbrev pub word_letter : ℕ
word_letter = 100

abbrev pub file_letter : ℕ
file_letter = 102

abbrev pub property_letter : ℕ
property_letter = 112

abbrev pub place_letter : ℕ
place_letter = 119

abbrev pub refusal_letter : ℕ
refusal_letter = 110

-- a listing: `d` and each word, then `f` and each file's name
abbrev pub listing_lines : List (List ℕ) → List Entry → List ℕ
listing_lines words files =
    flat_map (body_line word_letter) words ++ flat_map (λ (file : Entry). body_line file_letter file.name) files

-- a file's bytes: `b` and how many they are, and then the bytes and a line feed
abbrev pub content_lines : List ℕ → List ℕ
content_lines bytes = body_line 98 (decimal (length bytes)) ++ line bytes
