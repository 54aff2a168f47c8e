-- An identifier that may be defined begins.
use Rattle.std.proofs.Common.{◌≡◌, ℕ, Bool, true, false, not, cond, ◌==◌, ◌&&◌, Option, None, List, [], ◌∷◌, ◌++◌, filter, codes, refl, sym, ap, subst, ◌∙◌, arith}
use Rattle.std.proofs.lemmas.Bool.{false≢true, and_parts, eqb-true}
use Rattle.std.proofs.lemmas.List.Sums.{fold-append}
use Rattle.std.proofs.lemmas.List.Elements.{filter-append}
use Rattle.lis_words.specs.Words.{is_word, has_word}
use Rattle.lis_model.specs.Noted.{noted, noted_all}
use Rattle.lis_transducers.specs.Bytes.{front, is_name_byte}
use Rattle.lis_transducers.specs.declared.piece.Kind.{Kind}
use Rattle.lis_transducers.specs.declared.piece.Kind.TheVariants.{Blank, White, Feed, Comment, Literal, Identifier, Number, Path, Mark}
use Rattle.lis_csource.specs.declared.source.Stage.{Stage}
use Rattle.lis_csource.specs.declared.source.Stage.TheVariants.{Nothing, Named, Open, Closed}
use Rattle.lis_transducers.specs.Pieces.{Piece, piece_of}
use Rattle.lis_transducers.specs.Entries.{tokens}
use Rattle.lis_transducers.specs.Source.{is_identifier, is_candidate, is_defined, keywords, words_at, braces_after, parens_after}
use Rattle.lis_csource.specs.Reading.{noted_words, stage_after, right_words, IsSoundStage}

noted_in_parts : (out xs ys : List (List ℕ)) → noted_words (noted_words out xs) ys ≡ noted_words out (xs ++ ys)
noted_in_parts out xs ys =
    sym (ap (noted_all out) (filter-append is_word xs ys) ∙ fold-append noted out (filter is_word xs) (filter is_word ys))

is_identifier_kind : (kind : Kind) → is_identifier kind ≡ true → kind ≡ Identifier
is_identifier_kind Identifier h = refl
is_identifier_kind Blank h = absurd (false≢true h)
is_identifier_kind White h = absurd (false≢true h)
is_identifier_kind Feed h = absurd (false≢true h)
is_identifier_kind Comment h = absurd (false≢true h)
is_identifier_kind Literal h = absurd (false≢true h)
is_identifier_kind Number h = absurd (false≢true h)
is_identifier_kind (Path close) h = absurd (false≢true h)
is_identifier_kind (Mark b) h = absurd (false≢true h)

-- a candidate is an identifier outside braces and parentheses
candidate_parts : (braces parens : ℕ) (kind : Kind) (bytes : List ℕ) → is_candidate braces parens (piece_of kind bytes) ≡ true
    → (kind ≡ Identifier) × (braces ≡ 0) × (parens ≡ 0)
candidate_parts braces parens kind bytes h =
    let name = has_word keywords (piece_of kind bytes).text in
    let outer = and_parts (is_identifier kind && (braces == 0) && (parens == 0)) (not name) h in
    let inner = and_parts (is_identifier kind && (braces == 0)) (parens == 0) outer.0 in
    let first = and_parts (is_identifier kind) (braces == 0) inner.0 in
    (is_identifier_kind kind first.0, eqb-true braces 0 first.1, eqb-true parens 0 inner.1)

-- outside parentheses, no other identifier waits for its parentheses to close
stage_ends : (stage : Stage) → IsSoundStage stage 0 → stage_after stage 0 Identifier ≡ Nothing
stage_ends Nothing sound = refl
stage_ends Named sound = refl
stage_ends Open sound = absurd (omega (arith, sound))
stage_ends Closed sound = refl

-- the words in the end, for an identifier outside braces and parentheses
begins_outside : (stage : Stage) (name name' bytes : List ℕ) (early early' : Option (List (List ℕ))) (out out' : List (List ℕ)) (es : List Piece)
    → is_candidate 0 0 (piece_of Identifier bytes) ≡ true → IsSoundStage stage 0
    → right_words (stage_after stage 0 Identifier) 0 name' early' out' (tokens es) ≡ right_words stage 0 name early out (Identifier ∷ tokens es)
    → noted_words (right_words Named 0 (front is_name_byte bytes) None out' (tokens es)) (words_at 0 0 es)
    ≡ noted_words (right_words stage 0 name early out (Identifier ∷ tokens es)) (words_at 0 0 (piece_of Identifier bytes ∷ es))
begins_outside stage name name' bytes early early' out out' es candidate sound right =
    let word = codes "defines:" ++ front is_name_byte bytes in
    let kept : out' ≡ right_words stage 0 name early out (Identifier ∷ tokens es) =
    sym (ap (λ s. right_words s 0 name' early' out' (tokens es)) (stage_ends stage sound)) ∙ right in
    by (is_defined (tokens es)) word out' (words_at 0 0 es)
    ∙ ap (λ t. noted_words out' (cond (t && is_defined (tokens es)) (word ∷ []) [] ++ words_at 0 0 es)) (sym candidate)
    ∙ ap (λ words. noted_words words (words_at 0 0 (piece_of Identifier bytes ∷ es))) kept
  where
    by : (t : Bool) (word : List ℕ) (out' more : List (List ℕ))
        → noted_words (cond t (noted_words out' (word ∷ [])) out') more ≡ noted_words out' (cond t (word ∷ []) [] ++ more)
    by true word out' more = noted_in_parts out' (word ∷ []) more
    by false word out' more = refl

pub begins : (stage : Stage) (braces parens : ℕ) (kind : Kind) (name name' bytes : List ℕ) (early early' : Option (List (List ℕ))) (out out' : List (List ℕ)) (es : List Piece)
    → is_candidate braces parens (piece_of kind bytes) ≡ true → IsSoundStage stage parens
    → right_words (stage_after stage (parens_after parens kind) kind) (parens_after parens kind) name' early' out' (tokens es) ≡ right_words stage parens name early out (kind ∷ tokens es)
    → noted_words (right_words Named (parens_after parens kind) (front is_name_byte bytes) None out' (tokens es)) (words_at (braces_after braces kind) (parens_after parens kind) es)
    ≡ noted_words (right_words stage parens name early out (tokens (piece_of kind bytes ∷ es))) (words_at braces parens (piece_of kind bytes ∷ es))
begins stage braces parens kind name name' bytes early early' out out' es candidate =
    let parts = candidate_parts braces parens kind bytes candidate in
    let C : Kind → ℕ → ℕ → Type 0 = λ kind braces parens.
    is_candidate braces parens (piece_of kind bytes) ≡ true → IsSoundStage stage parens
    → right_words (stage_after stage (parens_after parens kind) kind) (parens_after parens kind) name' early' out' (tokens es) ≡ right_words stage parens name early out (kind ∷ tokens es)
    → noted_words (right_words Named (parens_after parens kind) (front is_name_byte bytes) None out' (tokens es)) (words_at (braces_after braces kind) (parens_after parens kind) es)
    ≡ noted_words (right_words stage parens name early out (tokens (piece_of kind bytes ∷ es))) (words_at braces parens (piece_of kind bytes ∷ es)) in
    subst (λ k. C k braces parens) (sym parts.0)
    (subst (λ b. C Identifier b parens) (sym parts.1)
    (subst (λ p. C Identifier 0 p) (sym parts.2)
    (begins_outside stage name name' bytes early early' out out' es)))
    candidate
