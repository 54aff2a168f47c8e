-- What a file slot says of a file.
use Rattle.std.specs.Prelude.{ℕ, List}

pub record FileRecord : Type 0 where
  pub name : List ℕ
  -- how many bytes the file has
  pub size : ℕ
  -- the slot numbers of the words that the file was assigned
  pub tags : List ℕ
  -- the numbers of the data blocks of its bytes, in order; if they are more than 16, those of its index blocks
  pub blocks : List ℕ
