-- How an input of rooms is cut.
use Rattle.std.proofs.Common.{◌≡◌, ℕ, ◌≤◌, Bool, true, false, cond, List, [], ◌∷◌, ◌++◌, length, take, drop, zero, suc, Option, Some, None, IsSome, refl, ap, sym, subst, ◌∙◌, arith, length-drop, length-take}
use Rattle.std.specs.List.{list_any}
use Rattle.std.proofs.lemmas.Grind.{common_steps}
use Rattle.lis_model.specs.declared.refusal.Refusal.TheVariants.{LongLine}
use Rattle.lis_model.specs.Step.Item.{Bad}
use Rattle.lis_model.specs.Script.{before_feed, after_feed, is_long, words_of, line_words, FirstOf, payload_size, first_by, first_of}
use Rattle.lis_model.proofs.Lines.{IsOneLine, TakesSome, CutsBy, cuts_by, before_feed_at, before_feed_all, after_feed_at, after_feed_all, after_feed_shorter, with_shorter, has_feed}
use Rattle.lis_line.specs.Tagged.{Tagged, after_blanks, room_of, room_of_words, spoken_in, no_room, in_room, first_spoken, first_tagged, all_tagged, whole_tagged, tagged_cut}
use Rattle.lis_line.proofs.Words.{word_len, word_within, one_word, word_fits}
use Rattle.lis_line.proofs.Kept.{ByLines, by_lines, by_itself, session_lines}
use Rattle.lis_words.specs.Bytes.{is_feed, without_return}

-- ---- the rest after a first segment is no longer than the input
rest_shorter : (bytes : List ℕ) → length (first_of bytes).rest ≤ length bytes
rest_shorter bytes = by (payload_size (before_feed bytes))
  where
    by : (size : Option ℕ) → length (first_by size bytes).rest ≤ length bytes
    by None = after_feed_shorter bytes
    by (Some n) = omega (arith, after_feed_shorter bytes, with_shorter (before_feed bytes) n (after_feed bytes))

blanks_shorter : (text : List ℕ) → length (after_blanks text) ≤ length text
blanks_shorter [] = omega arith
blanks_shorter (b ∷ text) = grind (arith, common_steps, blanks_shorter text)

tagged_some : TakesSome first_tagged
tagged_some b bytes = by (spoken_in (before_feed (b ∷ bytes)))
  where
    by : (room : Option ℕ) → length (first_spoken room (b ∷ bytes)).rest ≤ length bytes
    by None = grind (arith, common_steps, after_feed_shorter bytes)
    by (Some room) =
        omega (arith, rest_shorter (drop 2 (after_blanks (b ∷ bytes))), length-drop 2 (after_blanks (b ∷ bytes)), blanks_shorter (b ∷ bytes))

pub tagged_cuts : CutsBy tagged_cut first_tagged
unfolding all_tagged whole_tagged
tagged_cuts = cuts_by first_tagged tagged_some

-- ---- a tag has two bytes
room_two : (word : List ℕ) → IsSome (room_of word) → length word ≡ 2
room_two [] some = absurd (cc)
room_two (a ∷ []) some = absurd (cc)
room_two (a ∷ b ∷ []) some = refl
room_two (a ∷ b ∷ c ∷ word) some = absurd (cc)

return_shorter : (line : List ℕ) → length (without_return line) ≤ length line
return_shorter [] = omega arith
return_shorter (b ∷ []) = grind (arith, common_steps)
return_shorter (b ∷ c ∷ line) = grind (arith, common_steps, return_shorter (c ∷ line))

return_kept : (line : List ℕ) → after_blanks (without_return line) ≡ without_return (after_blanks line)
return_kept [] = refl
return_kept (b ∷ []) = grind (arith, common_steps)
return_kept (b ∷ c ∷ line) = grind (arith, common_steps, return_kept (c ∷ line))

blanks_before_return : (line : List ℕ) → length (after_blanks (without_return line)) ≤ length (after_blanks line)
blanks_before_return line = rw (return_kept line) (return_shorter (after_blanks line))

tag_two : (line word : List ℕ) (words : List (List ℕ)) → IsSome (spoken_in line) → line_words line ≡ word ∷ words → length word ≡ 2
tag_two line word words some is = by (is_long line) (subst (λ all. IsSome (cond {A = Option ℕ} (is_long line) None (room_of_words all))) is some)
  where
    by : (t : Bool) → IsSome (cond {A = Option ℕ} t None (room_of word)) → length word ≡ 2
    by true some = absurd (cc)
    by false some = room_two word some

pub tag_fits : (line : List ℕ) → IsSome (spoken_in line) → 2 ≤ length (after_blanks line)
tag_fits line some = by (line_words line) refl
  where
    by : (words : List (List ℕ)) → line_words line ≡ words → 2 ≤ length (after_blanks line)
    by [] is = none (is_long line) (subst (λ all. IsSome (cond {A = Option ℕ} (is_long line) None (room_of_words all))) is some)
      where
        none : (t : Bool) → IsSome (cond {A = Option ℕ} t None None) → 2 ≤ length (after_blanks line)
        none true some = absurd (cc)
        none false some = absurd (cc)
    by (word ∷ words) is = omega (arith, tag_two line word words some is, word_fits (without_return line) word words is, blanks_before_return line)

two_before_return : (text : List ℕ) → 2 ≤ length (without_return text) → drop 2 (without_return text) ≡ without_return (drop 2 text)
two_before_return [] two = absurd (omega arith)
two_before_return (a ∷ []) two = grind (arith, common_steps)
two_before_return (a ∷ b ∷ []) two = grind (arith, common_steps)
two_before_return (a ∷ b ∷ c ∷ text) two = refl

-- the words of the text after a tag are the words after the tag
pub words_behind : (line word : List ℕ) (words : List (List ℕ)) → IsSome (spoken_in line) → line_words line ≡ word ∷ words → line_words (drop 2 (after_blanks line)) ≡ words
words_behind line word words some is =
    let rest : List ℕ = after_blanks (without_return line) in
    let two : length word ≡ 2 = tag_two line word words some is in
    let fits : length word ≤ length rest = word_fits (without_return line) word words is in
    let first = one_word (without_return line) rest (word_len rest) refl (omega (arith, two, fits)) refl in
    let front : word ≡ take (word_len rest) rest = cc in
    let back : words_of (drop (word_len rest) rest) ≡ words = cc in
    let size : word_len rest ≡ 2 = omega (arith, two, ap length front, length-take (word_len rest) rest, word_within rest (word_len rest) refl) in
    let kept : drop (word_len rest) rest ≡ without_return (drop 2 (after_blanks line)) =
    ap (λ n. drop n rest) size ∙ ap (drop 2) (return_kept line)
    ∙ two_before_return (after_blanks line) (subst (λ xs. 2 ≤ length xs) (return_kept line) (omega (arith, two, fits))) in
    ap words_of (sym kept) ∙ back

-- ---- the first segment by its line
one_line_behind : (n : ℕ) (text : List ℕ) → IsOneLine text → IsOneLine (drop n text)
one_line_behind zero text one = one
one_line_behind (suc n) [] one = refl
one_line_behind (suc n) (b ∷ text) one = grind (arith, common_steps, one_line_behind n text)

blanks_one_line : (text : List ℕ) → IsOneLine text → IsOneLine (after_blanks text)
blanks_one_line [] one = refl
blanks_one_line (b ∷ text) one = grind (arith, common_steps, blanks_one_line text)

pub behind_one_line : (line : List ℕ) → IsOneLine line → IsOneLine (drop 2 (after_blanks line))
behind_one_line line one = one_line_behind 2 (after_blanks line) (blanks_one_line line one)

-- a line feed is no blank
blanks_at : (text more : List ℕ) → after_blanks (text ++ 10 ∷ more) ≡ after_blanks text ++ 10 ∷ more
blanks_at [] more = refl
blanks_at (b ∷ text) more = grind (arith, common_steps, blanks_at text more)

two_dropped : (text more : List ℕ) → 2 ≤ length text → drop 2 (text ++ more) ≡ drop 2 text ++ more
two_dropped [] more two = absurd (omega arith)
two_dropped (a ∷ []) more two = absurd (omega arith)
two_dropped (a ∷ b ∷ text) more two = refl

pub outside_at : (line more : List ℕ) → IsOneLine line → spoken_in line ≡ None → first_tagged (line ++ 10 ∷ more) ≡ record { item = no_room line; rest = more; is_whole = true }
outside_at line more one none =
    ap (λ text. first_spoken (spoken_in text) (line ++ 10 ∷ more)) (before_feed_at line more one)
    ∙ ap (λ room. first_spoken room (line ++ 10 ∷ more)) none
    ∙ ap (λ text. record { item = no_room text; rest = after_feed (line ++ 10 ∷ more); is_whole = list_any is_feed (line ++ 10 ∷ more) }) (before_feed_at line more one)
    ∙ ap (λ rest. record { item = no_room line; rest = rest; is_whole = list_any is_feed (line ++ 10 ∷ more) }) (after_feed_at line more one)
    ∙ ap (λ whole. record { item = no_room line; rest = more; is_whole = whole }) (has_feed line more)

pub inside_at : (line more : List ℕ) (room : ℕ) → IsOneLine line → spoken_in line ≡ Some room
    → first_tagged (line ++ 10 ∷ more) ≡ in_room room (first_of (drop 2 (after_blanks line) ++ 10 ∷ more))
inside_at line more room one some =
    ap (λ text. first_spoken (spoken_in text) (line ++ 10 ∷ more)) (before_feed_at line more one)
    ∙ ap (λ tag. first_spoken tag (line ++ 10 ∷ more)) some
    ∙ ap (λ bytes. in_room room (first_of bytes)) (ap (drop 2) (blanks_at line more) ∙ two_dropped (after_blanks line) (10 ∷ more) (tag_fits line (subst IsSome (sym some) refl)))

pub outside_last : (line : List ℕ) → IsOneLine line → spoken_in line ≡ None → first_tagged line ≡ record { item = no_room line; rest = []; is_whole = false }
outside_last line one none =
    ap (λ text. first_spoken (spoken_in text) line) (before_feed_all line one)
    ∙ ap (λ room. first_spoken room line) none
    ∙ ap (λ text. record { item = no_room text; rest = after_feed line; is_whole = list_any is_feed line }) (before_feed_all line one)
    ∙ ap (λ rest. record { item = no_room line; rest = rest; is_whole = list_any is_feed line }) (after_feed_all line one)
    ∙ ap (λ whole. record { item = no_room line; rest = []; is_whole = whole }) one

pub inside_last : (line : List ℕ) (room : ℕ) → IsOneLine line → spoken_in line ≡ Some room → first_tagged line ≡ in_room room (first_of (drop 2 (after_blanks line)))
inside_last line room one some =
    ap (λ text. first_spoken (spoken_in text) line) (before_feed_all line one) ∙ ap (λ tag. first_spoken tag line) some

tagged_last : (line : List ℕ) → IsOneLine line → first_tagged line ≡ record { item = (first_tagged line).item; rest = []; is_whole = false }
tagged_last line one = by (spoken_in line) refl
  where
    by : (room : Option ℕ) → spoken_in line ≡ room → first_tagged line ≡ record { item = (first_tagged line).item; rest = []; is_whole = false }
    by None is = by_itself (first_tagged line) _ (outside_last line one is)
    by (Some room) is =
        by_itself (first_tagged line) _ (inside_last line room one is ∙ ap (in_room room) (session_lines.last (drop 2 (after_blanks line)) (behind_one_line line one)))

long_outside : (line : List ℕ) → is_long line ≡ true → spoken_in line ≡ None
long_outside line long = rw long refl

long_refused : (line : List ℕ) → is_long line ≡ true → no_room line ≡ Some (record { room = None; item = Bad LongLine })
long_refused line long = rw long refl

pub tagged_lines : ByLines first_tagged
tagged_lines = by_lines first_tagged (Some (record { room = None; item = Bad LongLine })) refl tagged_last
    (λ line one long. ap (λ (f : FirstOf Tagged). f.item) (outside_last line one (long_outside line long)) ∙ long_refused line long)
    (λ line more one long. outside_at line more one (long_outside line long) ∙ ap (λ item. record { item = item; rest = more; is_whole = true }) (long_refused line long))
