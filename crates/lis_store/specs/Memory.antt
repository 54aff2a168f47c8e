-- The memory that the steps of a change pass on, and the store that it is.
use Rattle.lis_store.specs.declared.memory.Memory.{Memory}
use Rattle.lis_store.specs.Stored.{Stored}

-- the store that this memory is: the bytes that were read last are no part of it
abbrev pub stored : Memory → Stored
stored k = record { metadata = k.metadata; journal = k.journal; is_broken = k.is_broken }
