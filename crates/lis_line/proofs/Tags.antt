-- The words of a line read one after another.
use Rattle.std.proofs.Common.{◌≡◌, ℕ, ◌≤◌, ◌<◌, nat_lt, Bool, true, false, cond, ◌&&◌, List, [], ◌∷◌, ◌++◌, length, take, Result, Ok, Err, ap, sym, ◌∙◌, refl, inl, inr, suc, ◌⊎◌, arith, append_assoc, append-nil, length-append}
use Rattle.std.specs.List.{list_all}
use Rattle.std.proofs.lemmas.List.{take-append-le, take_all, length-take}
use Rattle.std.proofs.lemmas.List.Folds.{list_all-append}
use Rattle.std.proofs.lemmas.Bool.{le-leb, and_from}
use Rattle.std.proofs.lemmas.Bool.Decides.{leb_tells}
use Rattle.lis_words.specs.Words.{is_property}
use Rattle.lis_model.specs.declared.refusal.Refusal.{Refusal}
use Rattle.lis_model.specs.declared.refusal.Refusal.TheVariants.{BadLine, TooManyAssigned}
use Rattle.lis_model.specs.Script.{words_of, tags_form}

-- what was read of the words: all are words, and the first 16 are kept
pub record TagsSoFar (whole rest : List ℕ) (tags : List (List ℕ)) (is_over : Bool) : Type 0 where
  pub seen : List (List ℕ)
  pub split : words_of whole ≡ seen ++ words_of rest
  pub words : list_all is_property seen ≡ true
  pub kept : tags ≡ take 16 seen
  pub over : is_over ≡ nat_lt 16 (length seen)

not_below : (a b : ℕ) → b ≤ a → nat_lt a b ≡ false
not_below a b le = elim (leb_tells (suc a) b) as (λ _. nat_lt a b ≡ false) [ inl h ↦ absurd (omega (arith, h.1, le)) | inr h ↦ h.0 ]

split_more : (whole rest behind : List ℕ) (seen : List (List ℕ)) (word : List ℕ) → words_of whole ≡ seen ++ words_of rest → words_of rest ≡ word ∷ words_of behind
    → words_of whole ≡ (seen ++ word ∷ []) ++ words_of behind
split_more whole rest behind seen word split next = split ∙ ap (λ ws. seen ++ ws) next ∙ sym (append_assoc seen (word ∷ []) (words_of behind))

words_more : (seen : List (List ℕ)) (word : List ℕ) → list_all is_property seen ≡ true → is_property word ≡ true → list_all is_property (seen ++ word ∷ []) ≡ true
words_more seen word all one = list_all-append is_property seen (word ∷ []) ∙ and_from _ _ all (and_from _ true one refl)

pub tags_pushed : (whole rest behind word : List ℕ) (tags longer : List (List ℕ)) (is_over : Bool) → TagsSoFar whole rest tags is_over
    → words_of rest ≡ word ∷ words_of behind → is_property word ≡ true → length tags < 16 → longer ≡ tags ++ word ∷ [] → TagsSoFar whole behind longer is_over
tags_pushed whole rest behind word tags longer is_over so_far next one few is =
    let short : length so_far.seen < 16 = omega (arith, ap length so_far.kept, length-take 16 so_far.seen, few) in
    let all : take 16 so_far.seen ≡ so_far.seen = take_all 16 so_far.seen (omega arith) in
    let longer_short : length (so_far.seen ++ word ∷ []) ≤ 16 = omega (arith, short, length-append so_far.seen (word ∷ [])) in
    record {
      seen = so_far.seen ++ word ∷ [];
      split = split_more whole rest behind so_far.seen word so_far.split next;
      words = words_more so_far.seen word so_far.words one;
      kept = is ∙ ap (λ ws. ws ++ word ∷ []) (so_far.kept ∙ all) ∙ sym (take_all 16 (so_far.seen ++ word ∷ []) longer_short);
      over = so_far.over ∙ not_below 16 (length so_far.seen) (omega arith) ∙ sym (not_below 16 (length (so_far.seen ++ word ∷ [])) longer_short);
    }

pub tags_full : (whole rest behind word : List ℕ) (tags : List (List ℕ)) (is_over : Bool) → TagsSoFar whole rest tags is_over
    → words_of rest ≡ word ∷ words_of behind → is_property word ≡ true → 16 ≤ length tags → TagsSoFar whole behind tags true
tags_full whole rest behind word tags is_over so_far next one full =
    let long : 16 ≤ length so_far.seen = omega (arith, ap length so_far.kept, length-take 16 so_far.seen, full) in
    record {
      seen = so_far.seen ++ word ∷ [];
      split = split_more whole rest behind so_far.seen word so_far.split next;
      words = words_more so_far.seen word so_far.words one;
      kept = so_far.kept ∙ sym (take-append-le 16 so_far.seen (word ∷ []) long);
      over = sym (le-leb 17 (length (so_far.seen ++ word ∷ [])) (omega (arith, long, length-append so_far.seen (word ∷ []))));
    }

all_read : (whole rest : List ℕ) (tags : List (List ℕ)) (is_over : Bool) → (so_far : TagsSoFar whole rest tags is_over) → words_of rest ≡ [] → words_of whole ≡ so_far.seen
all_read whole rest tags is_over so_far none = so_far.split ∙ ap (λ ws. so_far.seen ++ ws) none ∙ append-nil so_far.seen

answered : (seen : List (List ℕ)) (over : Bool) → list_all is_property seen ≡ true → nat_lt 16 (length seen) ≡ over
    → tags_form seen ≡ cond over (Err TooManyAssigned) (Ok seen)
answered seen over all is = rw (all, is) refl

kept_ok : List (List ℕ) → Result (List (List ℕ)) Refusal
kept_ok ws = Ok ws

pub tags_done : (whole rest : List ℕ) (tags : List (List ℕ)) (is_over : Bool) → TagsSoFar whole rest tags is_over → words_of rest ≡ [] → is_over ≡ false
    → Ok tags ≡ tags_form (words_of whole)
unfolding kept_ok
tags_done whole rest tags is_over so_far none over =
    let few : length so_far.seen ≤ 16 = by (leb_tells 17 (length so_far.seen)) in
    ap kept_ok (so_far.kept ∙ take_all 16 so_far.seen few)
    ∙ sym (ap tags_form (all_read whole rest tags is_over so_far none) ∙ answered so_far.seen false so_far.words (sym so_far.over ∙ over))
  where
    by : ((nat_lt 16 (length so_far.seen) ≡ true) × (17 ≤ length so_far.seen)) ⊎ ((nat_lt 16 (length so_far.seen) ≡ false) × (length so_far.seen < 17)) → length so_far.seen ≤ 16
    by (inl h) = let e : is_over ≡ true = so_far.over ∙ h.0 in absurd (cc)
    by (inr h) = omega (arith, h.1)

none_of : (seen more : List (List ℕ)) (word : List ℕ) → is_property word ≡ false → list_all is_property (seen ++ word ∷ more) ≡ false
none_of [] more word bad = rw bad refl
none_of (w ∷ seen) more word bad = by (is_property w) (none_of seen more word bad)
  where
    by : (t : Bool) → list_all is_property (seen ++ word ∷ more) ≡ false → (t && list_all is_property (seen ++ word ∷ more)) ≡ false
    by true h = h
    by false h = refl

pub tags_bad : (whole rest behind word : List ℕ) (tags : List (List ℕ)) (is_over : Bool) → TagsSoFar whole rest tags is_over
    → words_of rest ≡ word ∷ words_of behind → is_property word ≡ false → Err BadLine ≡ tags_form (words_of whole)
tags_bad whole rest behind word tags is_over so_far next bad =
    let none : list_all is_property (words_of whole) ≡ false =
    ap (list_all is_property) (so_far.split ∙ ap (λ ws. so_far.seen ++ ws) next) ∙ none_of so_far.seen (words_of behind) word bad in
    rw none refl

pub no_word : (b : Bool) → (b ≡ true → false ≡ true) → b ≡ false
no_word true h = absurd (cc (h refl))
no_word false h = refl
