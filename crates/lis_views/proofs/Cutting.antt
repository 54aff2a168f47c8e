-- Each content has exactly one list of lines.
use Rattle.std.proofs.Common.{◌≡◌, ℕ, Bool, true, false, not, cond, ◌||◌, List, [], ◌∷◌, ◌++◌, refl, sym, ap, ◌∙◌, append_assoc, eqb-true}
use Rattle.std.specs.List.{list_all}
use Rattle.std.proofs.lemmas.Bool.{and_parts, and_from, not-true, not_from_false, or_right}
use Rattle.lis_views.specs.Lines.{Lines, joined_lines, content_of, has_no_feed, ends_in_some, are_lines, byte_before, before, lines_of, IsCut}
use Rattle.lis_words.specs.Bytes.{is_feed}

abbrev pub lines : List (List ℕ) → Bool → Lines
lines texts is_open = record { texts = texts; is_open = is_open }

-- what well-formed lines are
pub record Formed (texts : List (List ℕ)) (is_open : Bool) : Type 0 where
  pub no_feeds : list_all has_no_feed texts ≡ true
  pub end : (not is_open || ends_in_some texts) ≡ true

pub formed_parts : (texts : List (List ℕ)) (is_open : Bool) → are_lines (lines texts is_open) ≡ true → Formed texts is_open
formed_parts texts is_open h = let parts = and_parts _ _ h in record { no_feeds = parts.0; end = parts.1 }

pub formed_from : (texts : List (List ℕ)) (is_open : Bool) → Formed texts is_open → are_lines (lines texts is_open) ≡ true
formed_from texts is_open f = and_from _ _ f.no_feeds f.end

-- ---- the lines of a content are well formed
feed_formed : (texts : List (List ℕ)) (is_open : Bool) → Formed texts is_open → Formed ([] ∷ texts) is_open
feed_formed [] is_open f = record { no_feeds = f.no_feeds; end = f.end }
feed_formed (text ∷ texts) is_open f = record { no_feeds = f.no_feeds; end = f.end }

byte_formed : (b : ℕ) → is_feed b ≡ false → (texts : List (List ℕ)) (is_open : Bool) → Formed texts is_open → are_lines (byte_before b texts is_open) ≡ true
byte_formed b other [] is_open f = and_from _ _ (and_from _ _ (and_from _ _ (not_from_false _ other) refl) refl) refl
byte_formed b other (text ∷ []) is_open f =
    let first = and_parts _ _ f.no_feeds in
    and_from _ _ (and_from _ _ (and_from _ _ (not_from_false _ other) first.0) first.1) (or_right (not is_open) true refl)
byte_formed b other (text ∷ next ∷ texts) is_open f =
    let first = and_parts _ _ f.no_feeds in
    and_from _ _ (and_from _ _ (and_from _ _ (not_from_false _ other) first.0) first.1) f.end

before_formed : (b : ℕ) (cut : Lines) → are_lines cut ≡ true → are_lines (before b cut) ≡ true
before_formed b cut formed = by (is_feed b) refl
  where
    by : (t : Bool) → is_feed b ≡ t → are_lines (cond t (lines ([] ∷ cut.texts) cut.is_open) (byte_before b cut.texts cut.is_open)) ≡ true
    by true e = formed_from _ _ (feed_formed _ _ (formed_parts cut.texts cut.is_open formed))
    by false e = byte_formed b e _ _ (formed_parts cut.texts cut.is_open formed)

pub cut_formed : (bytes : List ℕ) → are_lines (lines_of bytes) ≡ true
cut_formed [] = refl
cut_formed (b ∷ bytes) = before_formed b (lines_of bytes) (cut_formed bytes)

-- ---- their content is that content
byte_content : (b : ℕ) (texts : List (List ℕ)) (is_open : Bool) → Formed texts is_open → content_of (byte_before b texts is_open) ≡ b ∷ joined_lines is_open texts
byte_content b [] is_open f = refl
byte_content b (text ∷ []) true f = refl
byte_content b (text ∷ []) false f = refl
byte_content b (text ∷ next ∷ texts) is_open f = refl

feed_content : (texts : List (List ℕ)) (is_open : Bool) → Formed texts is_open → joined_lines is_open ([] ∷ texts) ≡ 10 ∷ joined_lines is_open texts
feed_content [] true f = let e = f.end in absurd cc
feed_content [] false f = refl
feed_content (text ∷ texts) is_open f = refl

before_content : (b : ℕ) (cut : Lines) → are_lines cut ≡ true → content_of (before b cut) ≡ b ∷ content_of cut
before_content b cut formed = by (is_feed b) refl
  where
    by : (t : Bool) → is_feed b ≡ t → content_of (cond t (lines ([] ∷ cut.texts) cut.is_open) (byte_before b cut.texts cut.is_open)) ≡ b ∷ content_of cut
    by true e = feed_content _ _ (formed_parts cut.texts cut.is_open formed) ∙ ap (λ c. c ∷ content_of cut) (sym (eqb-true b 10 e))
    by false e = byte_content b _ _ (formed_parts cut.texts cut.is_open formed)

pub cut_content : (bytes : List ℕ) → content_of (lines_of bytes) ≡ bytes
cut_content [] = refl
cut_content (b ∷ bytes) = before_content b (lines_of bytes) (cut_formed bytes) ∙ ap (λ bs. b ∷ bs) (cut_content bytes)

-- ---- and the well-formed lines of some content are those that the cutting gives
before_byte : (b : ℕ) (cut : Lines) → is_feed b ≡ false → before b cut ≡ byte_before b cut.texts cut.is_open
before_byte b cut other = ap (λ t. cond t (lines ([] ∷ cut.texts) cut.is_open) (byte_before b cut.texts cut.is_open)) other

-- a line and the bytes after it
pub line_cut : (text bytes : List ℕ) → has_no_feed text ≡ true → lines_of (text ++ 10 ∷ bytes) ≡ lines (text ∷ (lines_of bytes).texts) (lines_of bytes).is_open
line_cut [] bytes h = refl
line_cut (b ∷ text) bytes h =
    let parts = and_parts _ _ h in
    ap (before b) (line_cut text bytes parts.1) ∙ before_byte b (lines (text ∷ (lines_of bytes).texts) (lines_of bytes).is_open) (not-true _ parts.0)

-- a text without its line feed
open_cut : (b : ℕ) (text : List ℕ) → has_no_feed (b ∷ text) ≡ true → lines_of (b ∷ text) ≡ lines ((b ∷ text) ∷ []) true
open_cut b [] h = let parts = and_parts _ _ h in before_byte b (lines [] false) (not-true _ parts.0)
open_cut b (c ∷ text) h =
    let parts = and_parts _ _ h in
    ap (before b) (open_cut c text parts.1) ∙ before_byte b (lines ((c ∷ text) ∷ []) true) (not-true _ parts.0)

pub joined_cut : (texts : List (List ℕ)) (is_open : Bool) → Formed texts is_open → lines_of (joined_lines is_open texts) ≡ lines texts is_open
joined_cut [] true f = let e = f.end in absurd cc
joined_cut [] false f = refl
joined_cut ([] ∷ []) true f = let e = f.end in absurd cc
joined_cut ((b ∷ text) ∷ []) true f = open_cut b text (and_parts _ _ f.no_feeds).0
joined_cut (text ∷ []) false f = line_cut text [] (and_parts _ _ f.no_feeds).0
joined_cut (text ∷ next ∷ texts) is_open f =
    let parts = and_parts _ _ f.no_feeds in
    let rest = joined_cut (next ∷ texts) is_open (record { no_feeds = parts.1; end = f.end }) in
    ap lines_of (append_assoc text (10 ∷ []) (joined_lines is_open (next ∷ texts)))
    ∙ line_cut text (joined_lines is_open (next ∷ texts)) parts.0
    ∙ ap (λ (cut : Lines). lines (text ∷ cut.texts) cut.is_open) rest

pub one_cut : (bytes : List ℕ) → IsCut bytes (lines_of bytes)
one_cut bytes = record {
  formed = cut_formed bytes;
  content = cut_content bytes;
  only = λ others formed is. sym (joined_cut others.texts others.is_open (formed_parts others.texts others.is_open formed)) ∙ ap lines_of is;
}
