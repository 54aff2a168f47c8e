-- The line `!` that may end a view.
use Rattle.std.proofs.Common.{◌≡◌, ℕ, Bool, true, false, cond, List, [], ◌∷◌, ◌++◌, codes, refl, ap, subst}
use Rattle.std.specs.List.{list_all}
use Rattle.std.proofs.lemmas.Bool.{and_parts, false_from_ne_true}
use Rattle.std.proofs.lemmas.Slice.Eq.{bytes_eq-Decides}
use Rattle.lis_views.specs.Edits.{is_edited, is_end, has_end, before_end}

abbrev pub ending : Bool → List (List ℕ)
ending is_open = cond is_open (codes "!" ∷ []) []

edited_no_end : (text : List ℕ) → is_edited text ≡ true → is_end text ≡ false
edited_no_end text edited = false_from_ne_true _ (λ end. let same = subst (λ t. is_edited t ≡ true) ((bytes_eq-Decides text (codes "!")).0 end) edited in absurd cc)

pub ending_dropped : (texts : List (List ℕ)) (is_open : Bool) → list_all is_edited texts ≡ true → before_end (texts ++ ending is_open) ≡ texts
ending_dropped [] true h = refl
ending_dropped [] false h = refl
ending_dropped (text ∷ []) true h = refl
ending_dropped (text ∷ []) false h = ap (λ t. cond t [] (text ∷ [])) (edited_no_end text (and_parts (is_edited text) true h).0)
ending_dropped (text ∷ next ∷ texts) is_open h =
    ap (λ ts. text ∷ ts) (ending_dropped (next ∷ texts) is_open (and_parts (is_edited text) (list_all is_edited (next ∷ texts)) h).1)

pub ending_seen : (texts : List (List ℕ)) (is_open : Bool) → list_all is_edited texts ≡ true → has_end (texts ++ ending is_open) ≡ is_open
ending_seen [] true h = refl
ending_seen [] false h = refl
ending_seen (text ∷ []) true h = refl
ending_seen (text ∷ []) false h = edited_no_end text (and_parts (is_edited text) true h).0
ending_seen (text ∷ next ∷ texts) is_open h = ending_seen (next ∷ texts) is_open (and_parts (is_edited text) (list_all is_edited (next ∷ texts)) h).1

-- the lines before it, and it
pub ending_back : (texts : List (List ℕ)) → texts ≡ before_end texts ++ ending (has_end texts)
ending_back [] = refl
ending_back (text ∷ []) = by (is_end text) refl
  where
    by : (t : Bool) → is_end text ≡ t → text ∷ [] ≡ cond t [] (text ∷ []) ++ ending t
    by true e = ap (λ t. t ∷ []) ((bytes_eq-Decides text (codes "!")).0 e)
    by false e = refl
ending_back (text ∷ next ∷ texts) = ap (λ ts. text ∷ ts) (ending_back (next ∷ texts))
