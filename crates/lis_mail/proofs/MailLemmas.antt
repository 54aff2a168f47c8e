-- The words that are still to come, line by line and token by token.
use Rattle.std.proofs.Common.{◌≡◌, ℕ, suc, ◌+◌, ◌<◌, Bool, true, false, not, cond, ◌&&◌, ◌||◌, eqb, List, [], ◌∷◌, ◌++◌, length, take, map, filter, codes, refl, sym, ap, subst, ◌∙◌, arith, append_assoc}
use Rattle.std.proofs.lemmas.Bool.{false≢true, eqb-true}
use Rattle.std.specs.List.{take_while, concat, flat_map, before_first, after_first, list_any, position_or_len}
use Rattle.std.proofs.lemmas.List.Sums.{take_while-cons, fold-append}
use Rattle.std.proofs.lemmas.List.Elements.{filter-append}
use Rattle.std.proofs.lemmas.List.{map-append}
use Rattle.lis_words.specs.Words.{is_word}
use Rattle.lis_model.specs.Noted.{noted, noted_all}
use Rattle.lis_transducers.specs.declared.field.FieldKind.{FieldKind}
use Rattle.lis_transducers.specs.declared.field.FieldKind.TheVariants.{From, To, Subject, Other}
use Rattle.lis_transducers.specs.Lines.{header, is_field, is_field_name, is_name_byte, is_folded, fields, field_of}
use Rattle.lis_transducers.specs.Tokens.{tokens, is_between, has_at}
use Rattle.lis_transducers.specs.Mail.{token_words, field_words, begun_kind, kind_of, with_head}
use Rattle.lis_mail.proofs.TokenLemmas.{BeginsBetween, tokens_joined}
use Rattle.lis_words.specs.Bytes.{is_blank, is_colon, is_some_bytes}

-- what the lines still give, after a line of a field of this kind
abbrev pub rest_words : FieldKind → List (List ℕ) → List (List ℕ)
rest_words kind following = token_words kind (tokens (concat (take_while is_folded following))) ++ flat_map field_words (fields following)

one_more : (n : ℕ) → 1 + n ≡ suc n
one_more n = omega arith

token_words-append : (kind : FieldKind) (xs ys : List (List ℕ)) → token_words kind (xs ++ ys) ≡ token_words kind xs ++ token_words kind ys
token_words-append From xs ys = ap (map (with_head (codes "from:"))) (filter-append has_at xs ys) ∙ map-append (with_head (codes "from:")) (filter has_at xs) (filter has_at ys)
token_words-append To xs ys = ap (map (with_head (codes "to:"))) (filter-append has_at xs ys) ∙ map-append (with_head (codes "to:")) (filter has_at xs) (filter has_at ys)
token_words-append Subject xs ys = map-append (with_head (codes "subject:")) xs ys
token_words-append Other xs ys = refl

token_words-nil : (kind : FieldKind) → token_words kind [] ≡ []
token_words-nil From = refl
token_words-nil To = refl
token_words-nil Subject = refl
token_words-nil Other = refl

blank_between : (b : ℕ) → is_blank b ≡ true → is_between b ≡ true
blank_between b blank = by (eqb b 32) (eqb b 9) refl refl blank
  where
    by : (space tab : Bool) → eqb b 32 ≡ space → eqb b 9 ≡ tab → (space || tab) ≡ true → is_between b ≡ true
    by true tab s t h = subst (λ x. is_between x ≡ true) (sym (eqb-true b 32 s)) refl
    by false true s t h = subst (λ x. is_between x ≡ true) (sym (eqb-true b 9 t)) refl
    by false false s t h = absurd (false≢true h)

blank_no_name : (b : ℕ) → is_blank b ≡ true → (is_colon b ≡ false) × (is_name_byte b ≡ false)
blank_no_name b blank = by (eqb b 32) (eqb b 9) refl refl blank
  where
    by : (space tab : Bool) → eqb b 32 ≡ space → eqb b 9 ≡ tab → (space || tab) ≡ true → (is_colon b ≡ false) × (is_name_byte b ≡ false)
    by true tab s t h = subst (λ x. (is_colon x ≡ false) × (is_name_byte x ≡ false)) (sym (eqb-true b 32 s)) (refl, refl)
    by false true s t h = subst (λ x. (is_colon x ≡ false) × (is_name_byte x ≡ false)) (sym (eqb-true b 9 t)) (refl, refl)
    by false false s t h = absurd (false≢true h)

and_false : (t : Bool) → (t && false) ≡ false
and_false true = refl
and_false false = refl

-- a folded line begins no field
folded_no_field : (line : List ℕ) → is_folded line ≡ true → is_field line ≡ false
folded_no_field [] folded = absurd (false≢true folded)
folded_no_field (b ∷ line) folded =
    let apart = blank_no_name b folded in
    ap (λ t. list_any is_colon (b ∷ line) && is_field_name (take (cond (not t) (1 + position_or_len is_colon line) 0) (b ∷ line))) apart.0
    ∙ rw (one_more (position_or_len is_colon line), apart.1) (and_false (list_any is_colon (b ∷ line)))

folds_begin : (following : List (List ℕ)) → BeginsBetween (concat (take_while is_folded following))
folds_begin [] = tt
folds_begin ([] ∷ following) = subst (λ ls. BeginsBetween (concat ls)) (sym (take_while-cons is_folded [] following)) tt
folds_begin ((b ∷ line) ∷ following) =
    subst (λ ls. BeginsBetween (concat ls)) (sym (take_while-cons is_folded (b ∷ line) following)) (by (is_blank b) refl)
  where
    by : (t : Bool) → is_blank b ≡ t → BeginsBetween (concat (cond t ((b ∷ line) ∷ take_while is_folded following) []))
    by true is = blank_between b is
    by false is = tt

-- a folded line gives its tokens to the field before it
pub folded_line : (kind : FieldKind) (line : List ℕ) (following : List (List ℕ)) → is_folded line ≡ true
    → rest_words kind (line ∷ following) ≡ token_words kind (tokens line) ++ rest_words kind following
folded_line kind line following folded =
    let front : concat (take_while is_folded (line ∷ following)) ≡ line ++ concat (take_while is_folded following) =
    ap concat (take_while-cons is_folded line following ∙ ap (λ t. cond t (line ∷ take_while is_folded following) []) folded) in
    ap (λ t. token_words kind (tokens (concat (take_while is_folded (line ∷ following)))) ++ flat_map field_words (cond t (field_of line following ∷ fields following) (fields following)))
    (folded_no_field line folded)
    ∙ ap (λ bytes. token_words kind (tokens bytes) ++ flat_map field_words (fields following)) front
    ∙ ap (λ ts. token_words kind ts ++ flat_map field_words (fields following))
    (tokens_joined line (concat (take_while is_folded following)) (folds_begin following))
    ∙ ap (λ words. words ++ flat_map field_words (fields following))
    (token_words-append kind (tokens line) (tokens (concat (take_while is_folded following))))
    ∙ append_assoc (token_words kind (tokens line)) (token_words kind (tokens (concat (take_while is_folded following)))) (flat_map field_words (fields following))

-- any other line ends the field before it
pub other_line : (kind : FieldKind) (line : List ℕ) (following : List (List ℕ)) → is_folded line ≡ false
    → rest_words kind (line ∷ following)
    ≡ token_words (begun_kind line) (tokens (after_first is_colon line)) ++ rest_words (begun_kind line) following
other_line kind line following folded =
    let none : concat (take_while is_folded (line ∷ following)) ≡ [] =
    ap concat (take_while-cons is_folded line following ∙ ap (λ t. cond t (line ∷ take_while is_folded following) []) folded) in
    ap (λ bytes. token_words kind (tokens bytes) ++ flat_map field_words (fields (line ∷ following))) none
    ∙ ap (λ words. words ++ flat_map field_words (fields (line ∷ following))) (token_words-nil kind)
    ∙ by (is_field line)
  where
    by : (t : Bool)
        → flat_map field_words (cond t (field_of line following ∷ fields following) (fields following))
        ≡ token_words (cond t (kind_of (before_first is_colon line)) Other) (tokens (after_first is_colon line))
        ++ rest_words (cond t (kind_of (before_first is_colon line)) Other) following
    by false = refl
    by true =
        let kind = kind_of (before_first is_colon line) in
        let body = after_first is_colon line in
        let folds = concat (take_while is_folded following) in
        ap (λ ts. token_words kind ts ++ flat_map field_words (fields following)) (tokens_joined body folds (folds_begin following))
        ∙ ap (λ words. words ++ flat_map field_words (fields following)) (token_words-append kind (tokens body) (tokens folds))
        ∙ append_assoc (token_words kind (tokens body)) (token_words kind (tokens folds)) (flat_map field_words (fields following))

-- words that are noted in two steps
noted_in_parts : (out xs ys : List (List ℕ))
    → noted_all out (filter is_word (xs ++ ys)) ≡ noted_all (noted_all out (filter is_word xs)) (filter is_word ys)
noted_in_parts out xs ys =
    ap (noted_all out) (filter-append is_word xs ys) ∙ fold-append noted out (filter is_word xs) (filter is_word ys)

-- one more part is noted
pub part_noted : (out now all xs ys whole : List (List ℕ)) → noted_all out (filter is_word whole) ≡ all → whole ≡ xs ++ ys
    → now ≡ noted_all out (filter is_word xs) → noted_all now (filter is_word ys) ≡ all
part_noted out now all xs ys whole before cut is =
    ap (λ o. noted_all o (filter is_word ys)) is ∙ sym (noted_in_parts out xs ys) ∙ ap (λ words. noted_all out (filter is_word words)) (sym cut) ∙ before

-- a line that is not empty is the first of its header
pub line_first : (bytes line rest : List ℕ) → header bytes ≡ cond (is_some_bytes line) (line ∷ header rest) [] → 0 < length line
    → header bytes ≡ line ∷ header rest
line_first bytes [] rest e some = absurd (omega (arith, some))
line_first bytes (b ∷ line) rest e some = e
