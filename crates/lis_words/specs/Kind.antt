-- The kind of a word.
use Rattle.std.specs.Prelude.{ℕ, if◌then◌else◌, List}
use Rattle.lis_words.specs.Words.{is_plain_word, is_head, is_valued}
use Rattle.lis_words.specs.declared.word.PropKind.{PropKind}
use Rattle.lis_words.specs.declared.word.PropKind.TheVariants.{Plain, Head, Valued, Test}

abbrev pub kind_of : List ℕ → PropKind
kind_of word = if is_plain_word word then Plain else if is_head word then Head else if is_valued word then Valued else Test
