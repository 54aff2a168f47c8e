-- Each line of a dump spells its item.
use Rattle.std.proofs.Common.{◌≡◌, ◌⊎◌, ℕ, ◌<◌, ◌≤◌, ◌^◌, nat_lt, nat_le, true, false, ◌&&◌, ◌||◌, Some, Ok, List, [], ◌∷◌, length, codes, decimal, refl, ap, subst, ◌∙◌, inl, inr, length-append, arith}
use Rattle.std.specs.List.{list_all}
use Rattle.std.proofs.lemmas.Bool.{and_parts, or_cases, or_left, or_right, false_from_ne_true, leb-true, le-leb, ltb-true}
use Rattle.std.proofs.lemmas.Fmt.{length-decimal-le}
use Rattle.std.proofs.lemmas.List.{length-take, length-drop}
use Rattle.lis_graph.proofs.Members.{Among, among_take}
use Rattle.lis_words.specs.Words.{has_word, head_bytes, is_plain_word, is_head, is_valued, is_word, is_test, is_property, is_file_name}
use Rattle.lis_words.proofs.Tests.{property_short, word_is_property}
use Rattle.lis_grammar.proofs.Printed.{decimal_count, decimal_value}
use Rattle.lis_model.proofs.Ranges.{limit_le}
use Rattle.lis_model.specs.declared.command.Command.TheVariants.{Add}
use Rattle.lis_model.specs.State.{State, File, WellFormed, is_declarable, is_known_head, is_nameable, file_limit}
use Rattle.lis_model.specs.Step.{Payload}
use Rattle.lis_model.specs.Step.Item.{Do}
use Rattle.lis_model.specs.Script.{tags_form, with_tags, item_of_words, payload_limit, payload_of}
use Rattle.lis_laws.proofs.Counts.{all_among, all_from}
use Rattle.lis_laws.proofs.Apart.{Declarable, declarable_cases}
use Rattle.lis_laws.proofs.Apart.Declarable.{Plain, Test, Head}
use Rattle.lis_laws.proofs.Sources.{rights_are, right_plain}
use Rattle.lis_replay.specs.Dump.{joined_with, mkdir_line, axiom_line, first_words, other_words, add_lines, mv_lines, file_lines}
use Rattle.lis_replay.proofs.Lists.{among_drop}
use Rattle.lis_replay.proofs.Joined.{behind, joined_short}
use Rattle.lis_replay.proofs.Given.{given_words}
use Rattle.lis_replay.proofs.Mkdirs.{mkdir_item}
use Rattle.lis_replay.proofs.Axioms.{axiom_item}
use Rattle.lis_replay.proofs.Adds.{payload_with, add_item}
use Rattle.lis_replay.proofs.Moves.{mv_item}
use Rattle.lis_replay.proofs.Files.{mv_items, file_items}
use Rattle.lis_replay.proofs.Visible.{is_visible, IsVisible, property_visible, name_visible, name_short, decimal_visible, path_visible}
use Rattle.lis_replay.proofs.Spelled.{Spells, spells_nothing, spells_both, AreWords, spells_line, spells_payload}

-- ---- well-formed words
pub declarable_property : (word : List ℕ) → is_declarable word ≡ true → is_property word ≡ true
declarable_property word form = by (declarable_cases word form)
  where
    by : Declarable word → is_property word ≡ true
    by (Plain plain) = or_left _ _ (or_left _ _ (or_left _ _ plain))
    by (Test test) = or_right (is_word word) _ test
    by (Head head own) = or_left _ _ (or_left _ _ (or_right (is_plain_word word) _ head))

nameable_property : (declared : List (List ℕ)) (word : List ℕ) → is_nameable declared word ≡ true → is_property word ≡ true
nameable_property declared word h = by (or_cases _ _ h)
  where
    either : (is_plain_word word ≡ true) ⊎ (is_test word ≡ true) → is_property word ≡ true
    either (inl plain) = or_left _ _ (or_left _ _ (or_left _ _ plain))
    either (inr test) = or_right (is_word word) _ test

    front : (((is_plain_word word || is_test word) && has_word declared word) ≡ true) ⊎ (is_known_head declared word ≡ true) → is_property word ≡ true
    front (inl both) = either (or_cases (is_plain_word word) (is_test word) (and_parts (is_plain_word word || is_test word) (has_word declared word) both).0)
    front (inr head) = or_left _ _ (or_left _ _ (or_right (is_plain_word word) _ (and_parts (is_head word) _ head).0))

    by : ((((is_plain_word word || is_test word) && has_word declared word) || is_known_head declared word) ≡ true) ⊎ ((is_valued word && is_known_head declared (head_bytes word)) ≡ true)
        → is_property word ≡ true
    by (inl some) = front (or_cases ((is_plain_word word || is_test word) && has_word declared word) (is_known_head declared word) some)
    by (inr both) = or_left _ _ (or_right (is_plain_word word || is_head word) _ (and_parts (is_valued word) (is_known_head declared (head_bytes word)) both).0)

-- words of at most 60 bytes each, and few of them
abbrev IsShortWord : List ℕ → Type 0
IsShortWord word = IsVisible word × (length word ≤ 60)

property_fits : (word : List ℕ) → is_property word ≡ true → IsShortWord word
property_fits word form = (property_visible word form, property_short word form)

are_words : (word : List ℕ) (words : List (List ℕ)) → length words ≤ 15 → ((w : List ℕ) → Among (word ∷ words) w → IsShortWord w) → AreWords word words
are_words word words few each = record {
  visible = λ w m. (each w m).0;
  short = omega (arith, few, joined_short 32 (word ∷ words) (λ w m. (each w m).1));
}

-- the word of a command
first_fits : (first : List ℕ) → IsShortWord first → (w : List ℕ) → first ≡ w → IsShortWord w
first_fits first fits w same = subst IsShortWord same fits

command_visible : (first : List ℕ) → 0 < length first → list_all is_visible first ≡ true → length first ≤ 60 → IsShortWord first
command_visible first some bytes short = (record { some = some; bytes = bytes }, short)

-- ---- mkdir and axiom
pub mkdir_words : (word : List ℕ) → is_property word ≡ true → AreWords (codes "mkdir") (word ∷ [])
mkdir_words word form = are_words (codes "mkdir") (word ∷ []) (omega arith) each
  where
    each : (w : List ℕ) → Among (codes "mkdir" ∷ word ∷ []) w → IsShortWord w
    each w (inl same) = first_fits (codes "mkdir") (command_visible (codes "mkdir") (omega arith) refl (omega arith)) w same
    each w (inr (inl same)) = first_fits word (property_fits word form) w same
    each w (inr (inr none)) = absurd none

pub mkdir_spells : (word : List ℕ) → is_property word ≡ true → Spells (mkdir_line word) (mkdir_item word ∷ [])
mkdir_spells word form = spells_line (codes "mkdir") (word ∷ []) (mkdir_words word form) (mkdir_item word) refl (rw form refl)

pub axiom_words : (pair : List ℕ × List ℕ) → is_property pair.0 ≡ true → is_property pair.1 ≡ true → AreWords (codes "axiom") (pair.0 ∷ pair.1 ∷ [])
axiom_words pair left right = are_words (codes "axiom") (pair.0 ∷ pair.1 ∷ []) (omega arith) each
  where
    each : (w : List ℕ) → Among (codes "axiom" ∷ pair.0 ∷ pair.1 ∷ []) w → IsShortWord w
    each w (inl same) = first_fits (codes "axiom") (command_visible (codes "axiom") (omega arith) refl (omega arith)) w same
    each w (inr (inl same)) = first_fits pair.0 (property_fits pair.0 left) w same
    each w (inr (inr (inl same))) = first_fits pair.1 (property_fits pair.1 right) w same
    each w (inr (inr (inr none))) = absurd none

pub axiom_spells : (pair : List ℕ × List ℕ) → is_property pair.0 ≡ true → is_property pair.1 ≡ true → Spells (axiom_line pair) (axiom_item pair ∷ [])
axiom_spells pair left right = spells_line (codes "axiom") (pair.0 ∷ pair.1 ∷ []) (axiom_words pair left right) (axiom_item pair) refl (rw (left, right) refl)

pub axiom_in_form : (t : State) → WellFormed t → (pair : List ℕ × List ℕ) → Among t.axioms pair → (is_property pair.0 ≡ true) × (is_property pair.1 ≡ true)
axiom_in_form t formed pair m = (
  nameable_property t.declared pair.0 (all_among (λ (e : List ℕ × List ℕ). is_nameable t.declared e.0) t.axioms pair formed.axioms.lefts m),
  or_left _ _ (or_left _ _ (or_left _ _ (right_plain t pair.1 (rights_are t formed pair m)))),
)

-- ---- a file
payload_kept : (bytes : List ℕ) → length bytes ≤ 67108864 → payload_of (length bytes) bytes ≡ payload_with bytes
payload_kept bytes few = let kept : nat_le (length bytes) payload_limit ≡ true = le-leb _ _ few in rw kept refl

-- what a file of a well-formed state keeps to
pub record IsFileInForm (file : File) : Type 0 where
  pub name : is_file_name file.name ≡ true
  pub words : (w : List ℕ) → Among file.assigned w → is_word w ≡ true
  pub few : length file.assigned ≤ 16
  pub short : length file.bytes ≤ 67108864

pub file_in_form : (t : State) → WellFormed t → (file : File) → Among t.files file → IsFileInForm file
file_in_form t formed file m = record {
  name = all_among (λ (f : File). is_file_name f.name) t.files file formed.files.names m;
  words = λ w given. (given_words t formed file m w given).form;
  few = leb-true _ _ (all_among (λ (f : File). nat_le (length f.assigned) 16) t.files file formed.files.few_assigned m);
  short = omega (arith, limit_le t.limits, leb-true _ _ (all_among (λ (f : File). nat_le (length f.bytes) (file_limit t.limits)) t.files file formed.files.short m));
}

module _ (file : File) (formed : IsFileInForm file) where
  small : length file.bytes < 10 ^ 12
  small = omega (arith, formed.short)

  first_in_form : (w : List ℕ) → Among (first_words file) w → is_property w ≡ true
  first_in_form w m = word_is_property w (formed.words w (among_take 8 file.assigned w m))

  -- the words of the line after its first one
  abbrev add_words : List (List ℕ)
  add_words = file.name ∷ decimal (length file.bytes) ∷ first_words file

  add_each : (w : List ℕ) → Among (codes "add" ∷ add_words) w → IsShortWord w
  add_each w (inl same) = first_fits (codes "add") (command_visible (codes "add") (omega arith) refl (omega arith)) w same
  add_each w (inr (inl same)) = first_fits file.name (name_visible file.name formed.name, name_short file.name formed.name) w same
  add_each w (inr (inr (inl same))) =
      first_fits (decimal (length file.bytes)) (decimal_visible (length file.bytes) small, omega (arith, length-decimal-le 12 (length file.bytes) (omega arith) small (omega (arith, small)))) w same
  add_each w (inr (inr (inr m))) = property_fits w (first_in_form w m)

  pub add_are : AreWords (codes "add") add_words
  add_are = are_words (codes "add") add_words (omega (arith, length-take 8 file.assigned)) add_each

  tags_are : tags_form (first_words file) ≡ Ok (first_words file)
  tags_are =
      let properties : list_all is_property (first_words file) ≡ true = all_from is_property (first_words file) first_in_form in
      let few : nat_lt 16 (length (first_words file)) ≡ false = false_from_ne_true (nat_lt 16 (length (first_words file))) (λ h. omega (arith, ltb-true _ _ h, length-take 8 file.assigned)) in
      rw (properties, few) refl

  add_item_is : item_of_words (codes "add" ∷ add_words) (payload_of (length file.bytes) file.bytes) ≡ Some (add_item file)
  add_item_is =
      rw (formed.name, decimal_count (length file.bytes) small)
      (ap (λ words. Some (with_tags (λ tags. Do (Add file.name tags) (payload_of (length file.bytes) file.bytes)) words)) tags_are
      ∙ ap (λ (payload : Payload). Some (Do (Add file.name (first_words file)) payload)) (payload_kept file.bytes formed.short))

  add_spells : Spells (add_lines file) (add_item file ∷ [])
  add_spells =
      spells_payload (codes "add") add_words add_are file.bytes (add_item file)
      (rw (decimal_count (length file.bytes) small) (ap (λ n. Some n) (decimal_value (length file.bytes) small))) add_item_is

  -- the line of the other words
  pub mv_are : (word : List ℕ) (words : List (List ℕ)) → length (word ∷ words) ≤ 8 → ((w : List ℕ) → Among (word ∷ words) w → is_word w ≡ true)
      → AreWords (codes "mv") (file.name ∷ joined_with 47 (word ∷ words) ∷ [])
  mv_are word words few each = record { visible = visible; short = short }
    where
      path : List ℕ
      path = joined_with 47 (word ∷ words)

      visible : (w : List ℕ) → Among (codes "mv" ∷ file.name ∷ path ∷ []) w → IsVisible w
      visible w (inl same) = subst IsVisible same (record { some = omega arith; bytes = refl })
      visible w (inr (inl same)) = subst IsVisible same (name_visible file.name formed.name)
      visible w (inr (inr (inl same))) = subst IsVisible same (path_visible word words each)
      visible w (inr (inr (inr none))) = absurd none

      short : length (joined_with 32 (codes "mv" ∷ file.name ∷ path ∷ [])) ≤ 1024
      short =
          omega (
            arith,
            few,
            name_short file.name formed.name,
            joined_short 47 (word ∷ words) (λ w m. property_short w (word_is_property w (each w m))),
            length-append (codes "mv") (behind 32 (file.name ∷ path ∷ [])),
            length-append (32 ∷ file.name) (behind 32 (path ∷ [])),
            length-append (32 ∷ path) [],
          )

  mv_spells : (words : List (List ℕ)) → length words ≤ 8 → ((w : List ℕ) → Among words w → is_word w ≡ true) → Spells (mv_lines file.name words) (mv_items file.name words)
  mv_spells [] few each = spells_nothing
  mv_spells (word ∷ words) few each =
      spells_line (codes "mv") (file.name ∷ joined_with 47 (word ∷ words) ∷ []) (mv_are word words few each) (mv_item file.name (word ∷ words)) refl (rw formed.name refl)

  pub file_spells : Spells (file_lines file) (file_items file)
  file_spells =
      spells_both (add_lines file) (mv_lines file.name (other_words file)) (add_item file ∷ []) (mv_items file.name (other_words file)) add_spells
      (mv_spells (other_words file) (omega (arith, formed.few, length-drop 8 file.assigned)) (λ w m. formed.words w (among_drop 8 file.assigned w m)))
