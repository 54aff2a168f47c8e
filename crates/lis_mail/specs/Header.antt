-- Where the header of a mail ends, and that its words are those of the header.
use Rattle.std.specs.Prelude.{◌≡◌, ℕ, ◌-◌, ◌==◌, Bool, true, ◌&&◌, ◌||◌, List, ◌++◌, length, slice_index}
use Rattle.std.specs.List.{list_any, range_with_len}
use Rattle.lis_words.specs.Bytes.{is_feed}
use Rattle.lis_transducers.specs.Mail.{mail_words}

abbrev pub is_return : ℕ → Bool
is_return b = b == 13

-- a line begins at this index: at the start, or after a line feed
abbrev pub begins_line : List ℕ → ℕ → Bool
begins_line bytes k = (k == 0) || is_feed (slice_index bytes (k - 1))

-- The line that ends at this index is empty (RFC 5322, section 2.1): it has nothing before its line feed, or a CR alone.
abbrev pub ends_empty : List ℕ → ℕ → Bool
ends_empty bytes k =
    is_feed (slice_index bytes k)
    && (begins_line bytes k || (is_return (slice_index bytes (k - 1)) && begins_line bytes (k - 1)))

-- an empty line ends at one of the indexes from this one on
unfoldable pub has_end_from : List ℕ → ℕ → Bool
has_end_from bytes seen = list_any (ends_empty bytes) (range_with_len seen (length bytes - seen))

-- the end of the header is in these bytes
abbrev pub has_end : List ℕ → Bool
has_end bytes = has_end_from bytes 0

-- The words of a mail are those of its header: those of a prefix that has the header's end, whatever follows it.
abbrev pub WordsAreOfHeader : Type 0
WordsAreOfHeader = (front rest : List ℕ) → has_end front ≡ true → mail_words (front ++ rest) ≡ mail_words front
