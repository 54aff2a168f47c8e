-- The words that a mail gives. Which words a field gives is this project's own.
use Rattle.std.specs.Prelude.{ℕ, if◌then◌else◌, List, [], ◌++◌, map, filter, codes}
use Rattle.std.specs.List.{flat_map, before_first}
use Rattle.std.specs.Str.{str_to_ascii_lowercase}
use Rattle.lis_words.specs.Words.{is_word, same_word}
use Rattle.lis_transducers.specs.Lines.{Field, fields, header, is_field}
use Rattle.lis_transducers.specs.Tokens.{tokens, has_at}
use Rattle.lis_transducers.specs.declared.field.FieldKind.{FieldKind}
use Rattle.lis_transducers.specs.declared.field.FieldKind.TheVariants.{From, To, Subject, Other}
use Rattle.lis_words.specs.Bytes.{is_colon}

-- the kind of a field whose name is in lower case
abbrev pub small_kind : List ℕ → FieldKind
small_kind name =
    if same_word name (codes "from") then From
    else if same_word name (codes "to") then To
    else if same_word name (codes "subject") then Subject
    else Other

-- ASCII case does not count in a field's name.
abbrev pub kind_of : List ℕ → FieldKind
kind_of name = small_kind (str_to_ascii_lowercase name)

-- the kind of the field that a line begins
abbrev pub begun_kind : List ℕ → FieldKind
begun_kind line = if is_field line then kind_of (before_first is_colon line) else Other

-- a head, and then a token in lower case
abbrev pub with_head : List ℕ → List ℕ → List ℕ
with_head head token = head ++ str_to_ascii_lowercase token

-- From and To use the tokens that have an @, and Subject uses all of them.
abbrev pub token_words : FieldKind → List (List ℕ) → List (List ℕ)
token_words From ts = map (with_head (codes "from:")) (filter has_at ts)
token_words To ts = map (with_head (codes "to:")) (filter has_at ts)
token_words Subject ts = map (with_head (codes "subject:")) ts
token_words Other ts = []

abbrev pub field_words : Field → List (List ℕ)
field_words field = token_words (kind_of field.name) (tokens field.body)

-- The words of a mail: those of its fields in order, each if it is in the form of a word.
unfoldable pub mail_words : List ℕ → List (List ℕ)
mail_words bytes = filter is_word (flat_map field_words (fields (header bytes)))
