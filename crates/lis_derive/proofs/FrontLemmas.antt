-- Prefixes that give all words of a file's bytes.
use Rattle.std.proofs.Common.{◌≡◌, ◌⊎◌, inl, inr, ℕ, ◌+◌, Bool, true, false, not, cond, ◌||◌, Option, List, [], ◌∷◌, ◌++◌, length, codes, refl, sym, ap, ap₂, ◌∙◌, length-append}
use Rattle.std.proofs.lemmas.Bool.{and_parts, or_cases}
use Rattle.lis_mail.specs.Header.{has_end_from}
use Rattle.lis_mail.proofs.HeaderLemmas.{front_gives}
use Rattle.lis_transducers.specs.Mail.{mail_words}
use Rattle.lis_transducers.specs.Source.{source_words}
use Rattle.lis_model.specs.Derived.{content_words, derived_words, is_mail, is_source, size_word, suffix_of, suffix_words}
use Rattle.lis_model.specs.Noted.{noted_all}
use Rattle.lis_derive.specs.Fronts.{FrontsGiveAll, gives_all}

not_so : (t : Bool) → not t ≡ true → t ≡ false
not_so true is = sym is
not_so false is = refl

-- the content gives the same words
module _ (suffix : Option (List ℕ)) (front rest other : List ℕ) (seen : ℕ) where
  of_mail : (not (is_mail suffix) || has_end_from front seen) ≡ true
      → cond (is_mail suffix) (mail_words (front ++ rest)) [] ≡ cond (is_mail suffix) (mail_words (front ++ other)) []
  of_mail is = by (or_cases (not (is_mail suffix)) (has_end_from front seen) is)
    where
      by : (not (is_mail suffix) ≡ true) ⊎ (has_end_from front seen ≡ true) → cond (is_mail suffix) (mail_words (front ++ rest)) [] ≡ cond (is_mail suffix) (mail_words (front ++ other)) []
      by (inl other_kind) = ap (λ t. cond t (mail_words (front ++ rest)) []) (not_so (is_mail suffix) other_kind) ∙ sym (ap (λ t. cond t (mail_words (front ++ other)) []) (not_so (is_mail suffix) other_kind))
      by (inr has) = ap (λ ws. cond (is_mail suffix) ws []) (front_gives front rest seen has ∙ sym (front_gives front other seen has))

  of_source : not (is_source suffix) ≡ true
      → cond (is_source suffix) (source_words (front ++ rest)) [] ≡ cond (is_source suffix) (source_words (front ++ other)) []
  of_source other_kind =
      ap (λ t. cond t (source_words (front ++ rest)) []) (not_so (is_source suffix) other_kind)
      ∙ sym (ap (λ t. cond t (source_words (front ++ other)) []) (not_so (is_source suffix) other_kind))

  same_content : not (is_source suffix) ≡ true → (not (is_mail suffix) || has_end_from front seen) ≡ true → content_words suffix (front ++ rest) ≡ content_words suffix (front ++ other)
  same_content other_kind is = ap₂ (λ ms ss. ms ++ ss) (of_mail is) (of_source other_kind)

pub fronts_give_all : FrontsGiveAll
unfolding gives_all
fronts_give_all = λ name front rest other seen is same.
    let both = and_parts (not (is_source (suffix_of name))) (not (is_mail (suffix_of name)) || has_end_from front seen) is in
    let long : length (front ++ rest) ≡ length (front ++ other) = length-append front rest ∙ (ap (λ n. length front + n) same ∙ sym (length-append front other)) in
    ap₂ (λ n ws. noted_all [] (suffix_words (suffix_of name) ++ size_word n ∷ ws)) long (same_content (suffix_of name) front rest other seen both.0 both.1)
