-- The forms of words, names and counts, exported again for those who read the definitions here.
pub use Rattle.lis_words.specs.Words.{is_plain_byte, is_plain_word, is_head, is_valued, is_word, is_test, test_of, is_property, head_bytes, is_built_in, is_file_name, is_count, count_of, is_number, word_cmp, same_word, has_word}
pub use Rattle.lis_words.specs.Kind.{kind_of}
