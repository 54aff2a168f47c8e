-- The last line of an edited view, and the last of the texts that it makes.
use Rattle.std.proofs.Common.{◌≡◌, ℕ, ◌+◌, ◌<◌, Bool, true, false, not, nat_eq, cond, List, [], ◌∷◌, ◌++◌, length, refl, sym, ap, ◌∙◌, arith, append_assoc, append-nil}
use Rattle.std.proofs.lemmas.Bool.{not_from_false, ne_eqb}
use Rattle.lis_words.specs.Words.{same_word}
use Rattle.lis_transducers.specs.Bytes.{but_first}
use Rattle.lis_views.specs.Lines.{ends_in_some}
use Rattle.lis_views.specs.Views.{mark_of}
use Rattle.lis_views.specs.Edits.{is_kept, is_end, has_end, before_end, marked, run_at, texts_at, new_texts}
use Rattle.lis_views.proofs.Pieces.{AreSome}
use Rattle.lis_words.specs.Bytes.{is_some_bytes}

pub end_dropped : (texts : List (List ℕ)) (last : List ℕ) → before_end (texts ++ last ∷ []) ≡ cond (is_end last) texts (texts ++ last ∷ [])
end_dropped [] last = refl
end_dropped (text ∷ []) last = by (is_end last)
  where
    by : (t : Bool) → text ∷ cond t [] (last ∷ []) ≡ cond t (text ∷ []) (text ∷ last ∷ [])
    by true = refl
    by false = refl
end_dropped (text ∷ next ∷ texts) last = ap (λ ts. text ∷ ts) (end_dropped (next ∷ texts) last) ∙ by (is_end last)
  where
    by : (t : Bool) → text ∷ cond t (next ∷ texts) (next ∷ texts ++ last ∷ []) ≡ cond t (text ∷ next ∷ texts) (text ∷ next ∷ texts ++ last ∷ [])
    by true = refl
    by false = refl

pub end_seen : (texts : List (List ℕ)) (last : List ℕ) → has_end (texts ++ last ∷ []) ≡ is_end last
end_seen [] last = refl
end_seen (text ∷ []) last = refl
end_seen (text ∷ next ∷ texts) last = end_seen (next ∷ texts) last

-- what was cut of an input at its last line
pub cut_at_end : (texts front : List (List ℕ)) (last : List ℕ) → texts ≡ front ++ last ∷ [] → is_end last ≡ true → (front ≡ before_end texts) × (true ≡ has_end texts)
cut_at_end texts front last is end = (
  sym (ap before_end is ∙ end_dropped front last ∙ ap (λ t. cond t front (front ++ last ∷ [])) end),
  sym (ap has_end is ∙ end_seen front last ∙ end),
)

pub uncut_at_end : (texts front : List (List ℕ)) (last : List ℕ) → texts ≡ front ++ last ∷ [] → is_end last ≡ false → (texts ≡ before_end texts) × (false ≡ has_end texts)
uncut_at_end texts front last is other = (
  is ∙ sym (ap before_end is ∙ end_dropped front last ∙ ap (λ t. cond t front (front ++ last ∷ [])) other),
  sym (ap has_end is ∙ end_seen front last ∙ other),
)

-- ---- the last text of some
pub ends_behind : (front texts : List (List ℕ)) → 0 < length texts → ends_in_some (front ++ texts) ≡ ends_in_some texts
ends_behind front [] some = absurd (omega arith)
ends_behind [] (text ∷ texts) some = refl
ends_behind (first ∷ []) (text ∷ texts) some = refl
ends_behind (first ∷ next ∷ front) (text ∷ texts) some = ends_behind (next ∷ front) (text ∷ texts) some

pub ends_by_last : (texts front : List (List ℕ)) (last : List ℕ) → texts ≡ front ++ last ∷ [] → ends_in_some texts ≡ is_some_bytes last
ends_by_last texts front last is = ap ends_in_some is ∙ ends_behind front (last ∷ []) (omega arith)

-- each mark represents at least one text
run_some : (n : ℕ) (runs : List (List (List ℕ))) (mark : List ℕ) → AreSome runs → 0 < length (run_at (marked n runs) mark)
run_some n [] mark some = omega arith
run_some n (run ∷ runs) mark some = by (same_word (mark_of n run) mark) (run_some (n + 1) runs mark some.1)
  where
    by : (t : Bool) → 0 < length (run_at (marked (n + 1) runs) mark) → 0 < length (cond t run (run_at (marked (n + 1) runs) mark))
    by true more = some.0
    by false more = more

pub texts_some : (runs : List (List (List ℕ))) (text : List ℕ) → AreSome runs → 0 < length (texts_at (marked 1 runs) text)
texts_some runs text some = by (is_kept text)
  where
    by : (t : Bool) → 0 < length (cond t (but_first text ∷ []) (run_at (marked 1 runs) text))
    by true = omega arith
    by false = run_some 1 runs text some

new_behind : (marks : List (List ℕ × List (List ℕ))) (front : List (List ℕ)) (last : List ℕ) → new_texts marks (front ++ last ∷ []) ≡ new_texts marks front ++ texts_at marks last
new_behind marks [] last = append-nil (texts_at marks last)
new_behind marks (text ∷ front) last =
    ap (λ ts. texts_at marks text ++ ts) (new_behind marks front last) ∙ sym (append_assoc (texts_at marks text) (new_texts marks front) (texts_at marks last))

pub new_ends : (runs : List (List (List ℕ))) (texts front : List (List ℕ)) (last : List ℕ) → AreSome runs → texts ≡ front ++ last ∷ []
    → ends_in_some (new_texts (marked 1 runs) texts) ≡ ends_in_some (texts_at (marked 1 runs) last)
new_ends runs texts front last some is =
    ap (λ ts. ends_in_some (new_texts (marked 1 runs) ts)) is
    ∙ ap ends_in_some (new_behind (marked 1 runs) front last)
    ∙ ends_behind (new_texts (marked 1 runs) front) (texts_at (marked 1 runs) last) (texts_some runs last some)

pub ends_at_kept : (marks : List (List ℕ × List (List ℕ))) (last text : List ℕ) → is_kept last ≡ true → text ≡ but_first last → ends_in_some (texts_at marks last) ≡ is_some_bytes text
ends_at_kept marks last text kept is = ap (λ t. ends_in_some (cond t (but_first last ∷ []) (run_at marks last))) kept ∙ ap is_some_bytes (sym is)

pub ends_at_mark : (marks : List (List ℕ × List (List ℕ))) (last : List ℕ) (run : List (List ℕ)) → is_kept last ≡ false → run_at marks last ≡ run → ends_in_some (texts_at marks last) ≡ ends_in_some run
ends_at_mark marks last run kept is = ap (λ t. ends_in_some (cond t (but_first last ∷ []) (run_at marks last))) kept ∙ ap ends_in_some is

pub some_bytes : (bytes : List ℕ) → not (nat_eq (length bytes) 0) ≡ is_some_bytes bytes
some_bytes [] = refl
some_bytes (b ∷ bytes) = not_from_false _ (ne_eqb (length (b ∷ bytes)) 0 (omega arith))
