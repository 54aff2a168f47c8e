-- The bytes of a row of bits.
use Rattle.std.specs.Prelude.{ℕ, ◌/◌, List, length}
use Rattle.lis_bits.specs.Bytes.{bits_bytes}
use Rattle.lis_ext.specs.Ext.{Ext, has}

-- the row of a number: bit i mod 8 of byte i / 8 says whether file i has it
abbrev pub row_bytes : Ext → ℕ → List ℕ
row_bytes e prop = bits_bytes (length e.sets / 8) (has e prop)
