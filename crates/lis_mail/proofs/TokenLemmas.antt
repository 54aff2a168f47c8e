-- The first token of a body, and what is left after it.
use Rattle.std.proofs.Common.{◌≡◌, ℕ, suc, ◌+◌, ◌<◌, Bool, true, false, not, cond, List, [], ◌∷◌, ◌++◌, length, take, drop, filter, refl, sym, ap, subst, ◌∙◌, arith, append-nil}
use Rattle.std.proofs.lemmas.Bool.{false≢true}
use Rattle.std.specs.List.{slice_split, onto_first, prefix_len}
use Rattle.std.proofs.lemmas.List.Elements.{filter-append}
use Rattle.lis_words.specs.Words.{is_plain_byte}
use Rattle.lis_transducers.specs.Tokens.{tokens, is_between}
use Rattle.lis_words.specs.Bytes.{is_some_bytes}

one_more : (n : ℕ) → 1 + n ≡ suc n
one_more n = omega arith

abbrev pub gap : List ℕ → ℕ
gap body = prefix_len is_between body

abbrev pub run : List ℕ → ℕ
run body = prefix_len is_plain_byte body

-- what is between tokens gives none
pub tokens_past_gap : (body : List ℕ) → tokens body ≡ tokens (drop (gap body) body)
tokens_past_gap [] = refl
tokens_past_gap (b ∷ body) = by (is_plain_byte b) refl (tokens_past_gap body)
  where
    by : (t : Bool) → is_plain_byte b ≡ t → tokens body ≡ tokens (drop (gap body) body)
        → filter is_some_bytes (cond (not t) ([] ∷ slice_split is_between body) (onto_first b (slice_split is_between body)))
        ≡ tokens (drop (cond (not t) (1 + gap body) 0) (b ∷ body))
    by true is more = sym (ap (λ t. filter is_some_bytes (cond (not t) ([] ∷ slice_split is_between body) (onto_first b (slice_split is_between body)))) is)
    by false is more = rw (one_more (gap body)) more

-- the parts after the first
abbrev behind : List ℕ → List (List ℕ)
behind [] = []
behind (b ∷ body) = slice_split is_between body

split_front : (body : List ℕ) → slice_split is_between body ≡ take (run body) body ∷ behind (drop (run body) body)
split_front [] = refl
split_front (b ∷ body) = by (is_plain_byte b) (split_front body)
  where
    by : (t : Bool) → slice_split is_between body ≡ take (run body) body ∷ behind (drop (run body) body)
        → cond (not t) ([] ∷ slice_split is_between body) (onto_first b (slice_split is_between body))
        ≡ take (cond t (1 + run body) 0) (b ∷ body) ∷ behind (drop (cond t (1 + run body) 0) (b ∷ body))
    by true more = rw (one_more (run body)) (ap (onto_first b) more)
    by false more = refl

-- what follows a token begins with a byte that is in none
abbrev pub BeginsBetween : List ℕ → Type 0
BeginsBetween [] = Unit {0}
BeginsBetween (b ∷ body) = is_between b ≡ true

tokens_behind : (rest : List ℕ) → BeginsBetween rest → filter is_some_bytes (behind rest) ≡ tokens rest
tokens_behind [] begins = refl
tokens_behind (b ∷ rest) begins =
    sym (ap (λ t. filter is_some_bytes (cond t ([] ∷ slice_split is_between rest) (onto_first b (slice_split is_between rest)))) begins)

begins_behind : (body : List ℕ) → BeginsBetween (drop (run body) body)
begins_behind [] = tt
begins_behind (b ∷ body) = by (is_plain_byte b) refl (begins_behind body)
  where
    by : (t : Bool) → is_plain_byte b ≡ t → BeginsBetween (drop (run body) body)
        → BeginsBetween (drop (cond t (1 + run body) 0) (b ∷ body))
    by true is more = rw (one_more (run body)) more
    by false is more = ap not is

-- a body that begins with a token
pub tokens_front : (b : ℕ) (body : List ℕ) → is_between b ≡ false
    → tokens (b ∷ body) ≡ take (run (b ∷ body)) (b ∷ body) ∷ tokens (drop (run (b ∷ body)) (b ∷ body))
tokens_front b body begins =
    ap (filter is_some_bytes) (split_front (b ∷ body))
    ∙ by (is_plain_byte b) refl
    ∙ ap (λ ts. take (run (b ∷ body)) (b ∷ body) ∷ ts) (tokens_behind (drop (run (b ∷ body)) (b ∷ body)) (begins_behind (b ∷ body)))
  where
    by : (t : Bool) → is_plain_byte b ≡ t
        → filter is_some_bytes (take (cond t (1 + run body) 0) (b ∷ body) ∷ behind (drop (cond t (1 + run body) 0) (b ∷ body)))
        ≡ take (cond t (1 + run body) 0) (b ∷ body) ∷ filter is_some_bytes (behind (drop (cond t (1 + run body) 0) (b ∷ body)))
    by true is = rw (one_more (run body)) refl
    by false is = absurd (false≢true (sym begins ∙ ap not is))

pub begins_past_gap : (body : List ℕ) (b : ℕ) (rest : List ℕ) → drop (gap body) body ≡ b ∷ rest → is_between b ≡ false
begins_past_gap [] b rest e = absurd (cc)
begins_past_gap (c ∷ body) b rest e = by (is_between c) refl e (begins_past_gap body b rest)
  where
    by : (t : Bool) → is_between c ≡ t → drop (cond t (1 + gap body) 0) (c ∷ body) ≡ b ∷ rest
        → (drop (gap body) body ≡ b ∷ rest → is_between b ≡ false) → is_between b ≡ false
    by true is e more = more (sym (ap (λ n. drop n (c ∷ body)) (one_more (gap body))) ∙ e)
    by false is e more = let same : c ≡ b = cc in subst (λ x. is_between x ≡ false) same is

-- two bodies in sequence, of which the second begins between tokens
split_joined : (xs : List ℕ) (b : ℕ) (ys : List ℕ) → is_between b ≡ true
    → slice_split is_between (xs ++ b ∷ ys) ≡ slice_split is_between xs ++ slice_split is_between ys
split_joined [] b ys between = ap (λ t. cond t ([] ∷ slice_split is_between ys) (onto_first b (slice_split is_between ys))) between
split_joined (x ∷ xs) b ys between =
    ap (λ parts. cond (is_between x) ([] ∷ parts) (onto_first x parts)) (split_joined xs b ys between)
    ∙ by (is_between x) (slice_split is_between xs) (split_front xs)
  where
    by : (t : Bool) (parts : List (List ℕ)) → parts ≡ take (run xs) xs ∷ behind (drop (run xs) xs)
        → cond t ([] ∷ parts ++ slice_split is_between ys) (onto_first x (parts ++ slice_split is_between ys))
        ≡ cond t ([] ∷ parts) (onto_first x parts) ++ slice_split is_between ys
    by true parts e = refl
    by false parts e = rw e refl

pub tokens_joined : (xs ys : List ℕ) → BeginsBetween ys → tokens (xs ++ ys) ≡ tokens xs ++ tokens ys
tokens_joined xs [] begins = rw (append-nil xs, append-nil (tokens xs)) refl
tokens_joined xs (b ∷ ys) begins =
    ap (filter is_some_bytes) (split_joined xs b ys begins)
    ∙ filter-append is_some_bytes (slice_split is_between xs) (slice_split is_between ys)
    ∙ ap (λ ts. tokens xs ++ ts)
    (sym (ap (λ t. filter is_some_bytes (cond t ([] ∷ slice_split is_between ys) (onto_first b (slice_split is_between ys)))) begins))

-- a body that has nothing after its gap
pub no_token : (body rest : List ℕ) (n : ℕ) → n ≡ gap body → rest ≡ drop n body → length rest ≡ 0 → tokens body ≡ []
no_token body [] n at is none = tokens_past_gap body ∙ ap tokens (sym (is ∙ ap (λ k. drop k body) at))
no_token body (b ∷ rest) n at is none = absurd (omega (arith, none))

run_some : (b : ℕ) (rest : List ℕ) → is_between b ≡ false → 0 < run (b ∷ rest)
run_some b rest begins = by (is_plain_byte b) refl
  where
    by : (t : Bool) → is_plain_byte b ≡ t → 0 < cond t (1 + run rest) 0
    by true is = omega arith
    by false is = absurd (false≢true (sym begins ∙ ap not is))

-- a body that has a token after its gap
pub first_token : (body rest : List ℕ) (n k : ℕ) → n ≡ gap body → rest ≡ drop n body → 0 < length rest → k ≡ run rest
    → (tokens body ≡ take k rest ∷ tokens (drop k rest)) × (0 < k)
first_token body [] n k at is some run_is = absurd (omega (arith, some))
first_token body (b ∷ rest) n k at is some run_is =
    let whole : drop (gap body) body ≡ b ∷ rest = sym (is ∙ ap (λ m. drop m body) at) in
    let begins : is_between b ≡ false = begins_past_gap body b rest whole in (
      tokens_past_gap body ∙ ap tokens whole ∙ tokens_front b rest begins
          ∙ ap (λ m. take m (b ∷ rest) ∷ tokens (drop m (b ∷ rest))) (sym run_is),
      subst (λ m. 0 < m) (sym run_is) (run_some b rest begins),
    )
