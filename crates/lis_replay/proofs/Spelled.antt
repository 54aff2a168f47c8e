-- Which items a text spells, and that a line of words is read back to its words.
use Rattle.std.proofs.Common.{◌≡◌, ℕ, ◌≤◌, ◌==◌, nat_le, Bool, true, false, ◌||◌, Option, Some, None, List, [], ◌∷◌, ◌++◌, length, filter, refl, sym, ap, ◌∙◌, inl, inr, append_assoc, append-nil, length-append, arith}
use Rattle.std.specs.Option.{option_to_list}
use Rattle.std.specs.List.{list_all, flat_map}
use Rattle.std.proofs.lemmas.Bool.{and_parts, false_from_ne_true, ltb-true}
use Rattle.std.proofs.lemmas.Bool.Decides.{nat_tests}
use Rattle.lis_graph.proofs.Filters.{filter_all}
use Rattle.lis_graph.proofs.Members.{Among}
use Rattle.lis_model.specs.Replies.{line}
use Rattle.lis_model.specs.Step.{Item, no_payload}
use Rattle.lis_model.specs.Script.{pieces_on, line_words, is_long, item_of_words, item_of, size_of_words, payload_size, payload_of, all_items}
use Rattle.lis_model.proofs.Lines.{IsOneLine, all_items_of, line_alone, line_with, with_payload}
use Rattle.lis_laws.proofs.Counts.{all_among, all_weaker}
use Rattle.lis_replay.specs.Dump.{joined_with, words_line}
use Rattle.lis_replay.proofs.Lists.{none_any}
use Rattle.lis_replay.proofs.Joined.{behind, joined_all}
use Rattle.lis_replay.proofs.Visible.{is_visible, IsVisible}
use Rattle.lis_words.specs.Bytes.{is_feed, is_blank, is_some_bytes, without_return}
use Rattle.lis_words.proofs.Bytes.{some_bytes}

-- in front of any other text it gives these items
abbrev pub Spells : List ℕ → List Item → Type 0
Spells text items = (more : List ℕ) → all_items (text ++ more) ≡ items ++ all_items more

pub spells_nothing : Spells [] []
spells_nothing more = refl

pub spells_both : (text others : List ℕ) (items rest : List Item) → Spells text items → Spells others rest → Spells (text ++ others) (items ++ rest)
spells_both text others items rest first second more =
    ap (λ bytes. all_items bytes) (append_assoc text others more) ∙ first (others ++ more) ∙ ap (λ xs. items ++ xs) (second more) ∙ sym (append_assoc items rest (all_items more))

pub spells_all : {A : Type 0} (text : A → List ℕ) (items : A → List Item) (xs : List A) → ((x : A) → Among xs x → Spells (text x) (items x)) → Spells (flat_map text xs) (flat_map items xs)
spells_all text items [] each = spells_nothing
spells_all text items (x ∷ xs) each =
    spells_both (text x) (flat_map text xs) (items x) (flat_map items xs) (each x (inl refl)) (spells_all text items xs (λ y m. each y (inr m)))

-- ---- the words of a line
visible_no_blank : (b : ℕ) → is_visible b ≡ true → is_blank b ≡ false
visible_no_blank b h = false_from_ne_true (is_blank b) (λ e. blank e)
  where
    blank : ((b == 32) || (b == 9)) ≡ true → ⊥
    blank e = grind (arith, nat_tests)

pieces_behind : (piece text more : List ℕ) → list_all is_visible text ≡ true → pieces_on piece (text ++ more) ≡ pieces_on (piece ++ text) more
pieces_behind piece [] more h = ap (λ p. pieces_on p more) (sym (append-nil piece))
pieces_behind piece (b ∷ text) more h =
    let parts = and_parts (is_visible b) (list_all is_visible text) h in
    rw (visible_no_blank b parts.0) (pieces_behind (piece ++ b ∷ []) text more parts.1 ∙ ap (λ p. pieces_on p more) (append_assoc piece (b ∷ []) text))

pieces_joined : (piece word : List ℕ) (words : List (List ℕ)) → ((w : List ℕ) → Among (word ∷ words) w → IsVisible w) → pieces_on piece (joined_with 32 (word ∷ words)) ≡ (piece ++ word) ∷ words
pieces_joined piece word [] each = pieces_behind piece word [] (each word (inl refl)).bytes
pieces_joined piece word (other ∷ words) each =
    pieces_behind piece word (behind 32 (other ∷ words)) (each word (inl refl)).bytes ∙ ap (λ ws. (piece ++ word) ∷ ws) (pieces_joined [] other words (λ w m. each w (inr m)))

abbrev is_in_line : ℕ → Bool
is_in_line b = nat_le 32 b

in_line_no_feed : (b : ℕ) → is_in_line b ≡ true → is_feed b ≡ false
in_line_no_feed b h = grind (arith, nat_tests)

in_line_no_return : (b : ℕ) → is_in_line b ≡ true → (b == 13) ≡ false
in_line_no_return b h = grind (arith, nat_tests)

visible_in_line : (b : ℕ) → is_visible b ≡ true → is_in_line b ≡ true
visible_in_line b h = grind (arith, nat_tests)

return_kept : (text : List ℕ) → list_all is_in_line text ≡ true → without_return text ≡ text
return_kept [] h = refl
return_kept (b ∷ []) h = rw (in_line_no_return b (and_parts (is_in_line b) true h).0) refl
return_kept (b ∷ c ∷ text) h = ap (λ xs. b ∷ xs) (return_kept (c ∷ text) (and_parts (is_in_line b) (list_all is_in_line (c ∷ text)) h).1)

-- the words of a line, which is not too long
pub record AreWords (word : List ℕ) (words : List (List ℕ)) : Type 0 where
  pub visible : (w : List ℕ) → Among (word ∷ words) w → IsVisible w
  pub short : length (joined_with 32 (word ∷ words)) ≤ 1024

module _ (word : List ℕ) (words : List (List ℕ)) (are : AreWords word words) where
  abbrev text : List ℕ
  text = joined_with 32 (word ∷ words)

  in_line : list_all is_in_line text ≡ true
  in_line = joined_all is_in_line 32 (word ∷ words) refl (λ w m. all_weaker is_visible is_in_line w (λ b n e. visible_in_line b e) (are.visible w m).bytes)

  one_line : IsOneLine text
  one_line = none_any is_feed text (λ b m. in_line_no_feed b (all_among is_in_line text b in_line m))

  not_long : is_long text ≡ false
  not_long = false_from_ne_true (is_long text) (λ h. omega (arith, ltb-true _ _ h, are.short))

  words_are : line_words text ≡ word ∷ words
  words_are =
      ap (λ bytes. filter is_some_bytes (pieces_on [] bytes)) (return_kept text in_line)
      ∙ ap (λ ws. filter is_some_bytes ws) (pieces_joined [] word words are.visible)
      ∙ filter_all is_some_bytes (word ∷ words) (λ w m. some_bytes w (are.visible w m).some)

  size_is : payload_size text ≡ size_of_words (word ∷ words)
  size_is = rw not_long (ap (λ ws. size_of_words ws) words_are)

  -- a line without a payload
  pub spells_line : (item : Item) → size_of_words (word ∷ words) ≡ None → item_of_words (word ∷ words) no_payload ≡ Some item → Spells (words_line (word ∷ words)) (item ∷ [])
  spells_line item none is more =
      ap (λ bytes. all_items bytes) (append_assoc text (10 ∷ []) more)
      ∙ all_items_of (text ++ 10 ∷ more) (record { item = item_of text no_payload; rest = more; is_whole = true }) (omega (arith, length-append text (10 ∷ more)))
      (line_alone text more one_line (size_is ∙ none))
      ∙ ap (λ (found : Option Item). option_to_list found ++ all_items more) item_is
    where
      item_is : item_of text no_payload ≡ Some item
      item_is = rw not_long (ap (λ ws. item_of_words ws no_payload) words_are ∙ is)

  -- a line, its payload and a line feed
  pub spells_payload : (bytes : List ℕ) (item : Item) → size_of_words (word ∷ words) ≡ Some (length bytes) → item_of_words (word ∷ words) (payload_of (length bytes) bytes) ≡ Some item
      → Spells (words_line (word ∷ words) ++ line bytes) (item ∷ [])
  spells_payload bytes item some is more =
      ap (λ all. all_items all) (append_assoc (words_line (word ∷ words)) (line bytes) more ∙ append_assoc text (10 ∷ []) (line bytes ++ more) ∙ ap (λ rest. text ++ 10 ∷ rest) (append_assoc bytes (10 ∷ []) more))
      ∙ all_items_of (text ++ 10 ∷ (bytes ++ 10 ∷ more)) (record { item = item_of text (payload_of (length bytes) bytes); rest = more; is_whole = true }) (omega (arith, length-append text (10 ∷ (bytes ++ 10 ∷ more))))
      (line_with text (bytes ++ 10 ∷ more) (length bytes) one_line (size_is ∙ some) ∙ with_payload text bytes (10 ∷ more) (length bytes) refl)
      ∙ ap (λ (found : Option Item). option_to_list found ++ all_items more) item_is
    where
      item_is : item_of text (payload_of (length bytes) bytes) ≡ Some item
      item_is = rw not_long (ap (λ ws. item_of_words ws (payload_of (length bytes) bytes)) words_are ∙ is)
